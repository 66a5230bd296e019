-- The code of every checked statement finds its operands: the induction over trees.
use Rattle.std.proofs.Common.{◌≡◌, ℕ, Bool, true, List, [], ◌∷◌, ◌++◌, map, Option, Some, None, sym, ◌∙◌, subst}
use Rattle.std.specs.List.{list_all}
use Rattle.std.proofs.lemmas.List.Folds.{list_all-append}
use Rattle.nm_base.specs.declared.operator.Ctype.{Ctype}
use Rattle.c_tree.specs.declared.program.PArm.{PArm, roll-PArm}
use Rattle.c_tree.specs.declared.program.PStmt.{PStmt, roll-PStmt}
use Rattle.c_tree.specs.declared.program.PStmt.TheOpen.{PStmt-F, PArm-F}
use Rattle.c_tree.specs.declared.program.PStmt.TheFolds.{ind-PStmt, map-PStmt, map-PArm}
use Rattle.c_tree.specs.Typing.{Declarations}
use Rattle.c_tree.specs.Checks.{Around, StmtCheck, ArmCheck, all_fine, arms_fine, blocks_of, blocks_of_arms, check_step, check_of, in_loop, in_switch}
use Rattle.stack_code.specs.Code.{Placed, FunctionCode, Code}
use Rattle.c_compile.specs.Asm.{end_of}
use Rattle.c_compile.specs.ExprCode.{Shape}
use Rattle.c_compile.specs.StmtCode as code_of
use Rattle.c_compile.specs.StmtCode.{Exits, Blocks, StmtCode, ArmCode, stmt_code, arm_code}
use Rattle.c_compile.proofs.Levels.{stmt_code_roll, arm_code_roll, arm_check, check_roll, arm_check_roll}
use Rattle.c_compile.proofs.Parts.{both_true}
use Rattle.c_compile.proofs.ExprStacks.{Knows}
use Rattle.c_compile.proofs.StmtStacks as stacks
use Rattle.c_compile.proofs.StmtStacks.{Passes, StmtPasses, AllPass, AllArms, is_local}

both_lists : {X : Type 0} (p : X → Bool) (xs ys : List X) → list_all p (xs ++ ys) ≡ true → (list_all p xs ≡ true) × (list_all p ys ≡ true)
both_lists p xs ys h = both_true (list_all p xs) (list_all p ys) (sym (list_all-append p xs ys) ∙ h)

module _ (code : Code) (f : FunctionCode) (names : Declarations) (knows : Knows code f names) (result : Option Ctype) where
  abbrev sh : Shape
  sh = stacks.sh code f names knows result

  -- no block's local is a parameter that names an array
  abbrev pub all_local : List (List ℕ) → Bool
  all_local blocks = list_all (λ b. list_all (is_local code f names knows result) b) blocks

  abbrev Passing : (Exits → Blocks → ℕ → List Placed) → Type 0
  Passing asm = Passes code f names knows result asm

  -- the code ends where its `ends` says
  abbrev EndsAt : (Exits → Blocks → ℕ → List Placed) → (ℕ → ℕ) → Type 0
  EndsAt asm last = (exits : Exits) (blocks : Blocks) (p : ℕ) → end_of (asm exits blocks) p ≡ last p

  module _ (ends : (x : PStmt) → EndsAt (stmt_code sh x).code (stmt_code sh x).ends) (arm_ends : (x : PArm) → EndsAt (arm_code sh x).code (arm_code sh x).ends) where
    pub record TreePasses (c : StmtCode) : Type 0 where
      pub passes : Passing c.code
      pub body_passes : Passing c.body

    abbrev StmtOk : PStmt → Type 0
    StmtOk x = (around : Around) → (check_of names result x).is_fine around ≡ true → all_local (check_of names result x).blocks ≡ true → TreePasses (stmt_code sh x)

    abbrev ArmOk : PArm → Type 0
    ArmOk x = (around : Around) → (arm_check names result x).is_fine around ≡ true → all_local (arm_check names result x).blocks ≡ true → Passing (arm_code sh x).code

    abbrev Child : Type 0
    Child = (x : PStmt) × StmtOk x

    abbrev ArmChild : Type 0
    ArmChild = (x : PArm) × ArmOk x

    whole :
        (x : Child) (around : Around) → (check_of names result x.0).is_fine around ≡ true → all_local (check_of names result x.0).blocks ≡ true
        → StmtPasses code f names knows result (stmt_code sh x.0)
    whole x around h l = let t = x.1 around h l in record { passes = t.passes; body_passes = t.body_passes; ends = ends x.0 }

    all_pass :
        (xs : List Child) (around : Around) → all_fine (map (check_of names result) (map (λ x. x.0) xs)) around ≡ true
        → all_local (blocks_of (map (check_of names result) (map (λ x. x.0) xs))) ≡ true → AllPass code f names knows result (map (stmt_code sh) (map (λ x. x.0) xs))
    all_pass [] around h l = tt
    all_pass (x ∷ xs) around h l =
        let b = both_true _ _ h in
        let c = both_lists _ (check_of names result x.0).blocks (blocks_of (map (check_of names result) (map (λ x. x.0) xs))) l in
        (whole x around b.0 c.0, all_pass xs around b.1 c.1)

    all_arms :
        (xs : List ArmChild) (around : Around)
        → arms_fine (map (arm_check names result) (map (λ x. x.0) xs)) around ≡ true
        → all_local (blocks_of_arms (map (arm_check names result) (map (λ x. x.0) xs))) ≡ true
        → AllArms code f names knows result (map (arm_code sh) (map (λ x. x.0) xs))
    all_arms [] around h l = tt
    all_arms (x ∷ xs) around h l =
        let b = both_true _ _ h in
        let c = both_lists _ (arm_check names result x.0).blocks (blocks_of_arms (map (arm_check names result) (map (λ x. x.0) xs))) l in
        (record { passes = x.1 around b.0 c.0; ends = arm_ends x.0 }, all_arms xs around b.1 c.1)

    plain : (asm : Exits → Blocks → ℕ → List Placed) (e : ℕ → ℕ) (fits : Bool) → Passing asm → TreePasses (code_of.plain asm e fits)
    plain asm e fits h = record { passes = h; body_passes = h }

    abbrev Layer : Type 0
    Layer = PStmt-F Child ArmChild

    abbrev checked : Layer → StmtCheck
    checked y = check_step names result (map-PStmt PStmt PArm StmtCheck ArmCheck (check_of names result) (arm_check names result) (map-PStmt Child ArmChild PStmt PArm (λ x. x.0) (λ x. x.0) y))

    step_ok :
        (y : Layer) (around : Around) → (checked y).is_fine around ≡ true → all_local (checked y).blocks ≡ true
        → TreePasses (code_of.stmt_step sh (map-PStmt PStmt PArm StmtCode ArmCode (stmt_code sh) (arm_code sh) (map-PStmt Child ArmChild PStmt PArm (λ x. x.0) (λ x. x.0) y)))
    step_ok (PStmt-F.Block locals list line) around h l =
        let b = both_true _ _ h in
        let c = both_true _ _ l in
        let block = stacks.block_passes code f names knows result locals _ (all_pass list around b.1 c.1) b.0 c.0 in
        record { passes = block; body_passes = block }
    step_ok (PStmt-F.Empty line) around h l = plain _ _ _ (stacks.empty_passes code f names knows result line)
    step_ok (PStmt-F.Run part line) around h l = plain _ _ _ (stacks.run_passes code f names knows result part line h)
    step_ok (PStmt-F.If test first None line) around h l =
        let b = both_true _ _ (both_true _ _ h).0 in
        let c = both_lists _ (check_of names result first.0).blocks [] l in
        plain _ _ _ (stacks.if_passes code f names knows result test _ None line (whole first around b.1 c.0) tt b.0)
    step_ok (PStmt-F.If test first (Some second) line) around h l =
        let a = both_true _ _ h in
        let b = both_true _ _ a.0 in
        let c = both_lists _ (check_of names result first.0).blocks (check_of names result second.0).blocks l in
        plain _ _ _ (stacks.if_passes code f names knows result test _ (Some _) line (whole first around b.1 c.0) (whole second around a.1 c.1) b.0)
    step_ok (PStmt-F.While test body line) around h l =
        let b = both_true _ _ h in plain _ _ _ (stacks.while_passes code f names knows result test _ line (whole body (in_loop around) b.1 l) b.0)
    step_ok (PStmt-F.Do body test line) around h l =
        let b = both_true _ _ h in plain _ _ _ (stacks.do_passes code f names knows result test _ line (whole body (in_loop around) b.1 l) b.0)
    step_ok (PStmt-F.For first test third body line) around h l =
        let a = both_true _ _ h in
        let b = both_true _ _ a.0 in
        let c = both_true _ _ b.0 in
        plain _ _ _ (stacks.for_passes code f names knows result first test third _ line (whole body (in_loop around) a.1 l) c.0 c.1 b.1)
    step_ok (PStmt-F.Break line) around h l = plain _ _ _ (stacks.exit_passes code f names knows result line (λ exits. exits.breaks) (λ exits n b c. b))
    step_ok (PStmt-F.Continue line) around h l = plain _ _ _ (stacks.exit_passes code f names knows result line (λ exits. exits.continues) (λ exits n b c. c))
    step_ok (PStmt-F.Return value line) around h l = plain _ _ _ (stacks.return_passes code f names knows result value line h)
    step_ok (PStmt-F.Switch on arms line) around h l =
        let b = both_true _ _ (both_true _ _ (both_true _ _ h).0).0 in
        plain _ _ _ (stacks.switch_passes code f names knows result on _ line (all_arms arms (in_switch around) b.1 l) b.0)

    rolled : (y : Layer) → StmtOk (roll-PStmt (map-PStmt Child ArmChild PStmt PArm (λ x. x.0) (λ x. x.0) y))
    rolled y around h l =
        let x = map-PStmt Child ArmChild PStmt PArm (λ x. x.0) (λ x. x.0) y in
        let fine = subst (λ c. c.is_fine around ≡ true) (check_roll names result x) h in
        let locals = subst (λ c. all_local c.blocks ≡ true) (check_roll names result x) l in
        subst TreePasses (sym (stmt_code_roll sh x)) (step_ok y around fine locals)

    arm_rolled : (y : PArm-F Child ArmChild) → ArmOk (roll-PArm (map-PArm Child ArmChild PStmt PArm (λ x. x.0) (λ x. x.0) y))
    arm_rolled y around h l =
        let x = map-PArm Child ArmChild PStmt PArm (λ x. x.0) (λ x. x.0) y in
        let fine = subst (λ c. c.is_fine around ≡ true) (arm_check_roll names result x) h in
        let locals = subst (λ c. all_local c.blocks ≡ true) (arm_check_roll names result x) l in
        subst (λ (c : ArmCode). Passing c.code) (sym (arm_code_roll sh x)) (stacks.sequence_passes code f names knows result _ (all_pass y.list around fine locals))

    pub tree_passes : (x : PStmt) → StmtOk x
    tree_passes = ind-PStmt StmtOk ArmOk (λ x y is. subst (λ z. StmtOk (roll-PStmt z)) is (rolled y)) (λ x y is. subst (λ z. ArmOk (roll-PArm z)) is (arm_rolled y))
