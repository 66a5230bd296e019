-- ScopeNames that are visible before a statement are visible after it.
use Rattle.std.proofs.Common.{◌≡◌, ℕ, ◌+◌, Bool, true, false, List, [], ◌∷◌, ◌++◌, length, take, map, Option, Some, None, refl, sym, ap, ◌∙◌, subst}
use Rattle.std.proofs.lemmas.List.{append-nil}
use Rattle.nm_base.specs.declared.operator.Ctype.{Ctype}
use Rattle.c_tree.specs.declared.program.PLabel.{PLabel}
use Rattle.c_tree.specs.declared.program.PArm.{PArm}
use Rattle.c_tree.specs.declared.program.PStmt.{PStmt}
use Rattle.c_tree.specs.declared.program.PStmt.TheVariants as p
use Rattle.c_tree.specs.declared.program.Start.{Start}
use Rattle.c_tree.specs.declared.tree.Declr.{Declr}
use Rattle.c_tree.specs.declared.tree.Vars.{Vars}
use Rattle.c_tree.specs.declared.tree.Expr.{Expr}
use Rattle.c_tree.specs.declared.tree.Label.{Label}
use Rattle.c_tree.specs.declared.tree.Arm.{Arm, roll-Arm}
use Rattle.c_tree.specs.declared.tree.Stmt.{Stmt, roll-Stmt}
use Rattle.c_tree.specs.declared.tree.Stmt.TheOpen.{Stmt-F, Arm-F}
use Rattle.c_tree.specs.declared.tree.Stmt.TheFolds.{ind-Stmt, map-Stmt, map-Arm}
use Rattle.c_checker.specs.declared.fault.CheckFault.{CheckFault}
use Rattle.c_checker.specs.declared.headings.Heading.{Heading}
use Rattle.c_checker.specs.declared.entries.Entry.{Entry}
use Rattle.c_checker.specs.declared.state.Body.{Body}
use Rattle.c_checker.specs.declared.state.Around.{Around}
use Rattle.c_tree.specs.declared.program.Function.{Function}
use Rattle.c_checker.specs.Found.{Found, fine, pure, note, lift, ◌>>=◌}
use Rattle.c_checker.specs.Scope.{ScopeNames}
use Rattle.c_checker.specs.Statements.{Writes, visible, value, optional, size, new_local, add_local, declare, declares, locals, begin_block, slots, entry_of}
use Rattle.c_checker.specs.Statements.{case_label, new_label, label_faults, label, constant_pattern, labels, outside, inside_loop, inside_switch, StmtPart, ArmPart, sequence}
use Rattle.c_checker.specs.Statements.{else_part, return_faults, arms}
use Rattle.c_checker.specs.Statements.{block_from, block, if_stmt, while_stmt, do_stmt, controls, for_stmt, return_stmt, switch_stmt, arm}
use Rattle.c_checker.specs.Statements.{plain, stmt_step, arm_step, stmt_of, arm_of}
use Rattle.c_tree.specs.declared.program.Slot.{Slot}
use Rattle.c_tree.specs.declared.tree.Head.{Head}
use Rattle.c_checker.specs.declared.state.File.{File}
use Rattle.c_checker.specs.Units.{param_entries, body_begin, body_of}
use Rattle.c_checker.proofs.StmtForms.{stmt_roll, arm_roll}
use Rattle.c_checker.proofs.TypedLists.{Front, front_same, front_more, front_then}

take_front : (a b : List Entry) → Front a b → take (length a) b ≡ a
take_front [] b f = refl
take_front (x ∷ xs) b f = ap (take (length (x ∷ xs))) f.is ∙ ap (λ l. x ∷ l) (take_front xs (xs ++ f.rest) (front_more xs f.rest))

-- the names before it are names after it, in front
pub record Kept {A : Type 0} (m : Writes A) : Type 0 where
  pub front : (s : Body) → Front s.entries (m s).state.entries

-- the names after it are the names before it
pub record Same {A : Type 0} (m : Writes A) : Type 0 where
  pub same : (s : Body) → (m s).state.entries ≡ s.entries

kept_pure : {A : Type 0} (x : A) → Kept (pure x)
kept_pure x = record { front = λ s. front_same s.entries }

kept_note : (faults : List CheckFault) → Kept (note faults)
kept_note faults = record { front = λ s. front_same s.entries }

kept_lift : {A : Type 0} (found : Found (Unit {0}) A) → Kept (lift found)
kept_lift found = record { front = λ s. front_same s.entries }

kept_bind : {A B : Type 0} {m : Writes A} {f : A → Writes B} → Kept m → ((x : A) → Kept (f x)) → Kept (m >>= f)
kept_bind {m = m} {f = f} a b = record { front = λ s. front_then (a.front s) ((b (m s).value).front (m s).state) }

kept_map : {A B : Type 0} {m : Writes A} (f : A → B) → Kept m → Kept (m >>= (λ x. pure (f x)))
kept_map f a = kept_bind {f = λ x. pure (f x)} a (λ x. kept_pure (f x))

module _ (functions : List Heading) where
  kept_value : (used : Bool) (e : Expr) → Kept (value functions used e)
  kept_value used e = record { front = λ s. front_same s.entries }

  kept_optional : (used : Bool) (e : Option Expr) → Kept (optional functions used e)
  kept_optional used None = kept_pure None
  kept_optional used (Some e) = kept_map Some (kept_value used e)

  -- ---- locals

  kept_new_local : (of : Ctype) (block : ℕ) (d : Declr) (n : Option ℕ) → Kept (new_local of block d n)
  kept_new_local of block d n = record { front = λ s. front_more s.entries (entry_of of d n (slots s) ∷ []) }

  kept_add_local : (of : Ctype) (from block : ℕ) (d : Declr) → Kept (add_local functions of from block d)
  kept_add_local of from block d = record { front = λ s. ((kept_new_local of block d (size (visible functions s) d.size d.line).value)).front s }

  kept_declare : (of : Ctype) (from block : ℕ) (d : Declr) → Kept (declare functions of from block d)
  kept_declare of from block d =
      kept_bind {f = λ slot. optional functions true d.start >>= (λ x. pure (record { slot = slot; value = x; line = d.line }))} (kept_add_local of from block d) (λ slot.
      kept_map (λ x. record { slot = slot; value = x; line = d.line }) (kept_optional true d.start))

  kept_declares : (of : Ctype) (from block : ℕ) (before : List Start) (ds : List Declr) → Kept (declares functions of from block before ds)
  kept_declares of from block before [] = kept_pure before
  kept_declares of from block before (d ∷ more) =
      kept_bind {f = λ x. declares functions of from block (before ++ x ∷ []) more} (kept_declare of from block d) (λ x. kept_declares of from block (before ++ x ∷ []) more)

  kept_locals : (from block : ℕ) (before : List Start) (vs : List Vars) → Kept (locals functions from block before vs)
  kept_locals from block before [] = kept_pure before
  kept_locals from block before (v ∷ more) =
      kept_bind {f = λ xs. locals functions from block xs more} (kept_declares v.of from block before v.list) (λ xs. kept_locals from block xs more)

  kept_begin : (from : ℕ) (vs : List Vars) → Kept (begin_block functions from vs)
  kept_begin from vs = record { front = λ s. (kept_locals from s.blocks [] vs).front (record s { blocks = s.blocks + 1 }) }

  -- ---- statements

  abbrev KeptPart : StmtPart → Type 0
  KeptPart x = (around : Around) → Kept (x.check around)

  abbrev AllKept : List StmtPart → Type 0
  AllKept [] = Unit {0}
  AllKept (x ∷ xs) = KeptPart x × AllKept xs

  kept_sequence : (before : List PStmt) (xs : List StmtPart) (around : Around) → AllKept xs → Kept (sequence before xs around)
  kept_sequence before [] around h = kept_pure before
  kept_sequence before (x ∷ more) around h =
      kept_bind {f = λ y. sequence (before ++ y ∷ []) more around} (h.0 around) (λ y. kept_sequence (before ++ y ∷ []) more around h.1)

  -- A block leaves the names as they were.
  same_block : (from : ℕ) (vs : List Vars) (xs : List StmtPart) (line : ℕ) (around : Around) → AllKept xs → Same (block_from functions from vs xs line around)
  same_block from vs xs line around h = record {
    same = λ s.
        let inner = (kept_bind {f = λ _. sequence [] xs around} (kept_begin from vs) (λ _. kept_sequence [] xs around h)).front s in
        take_front s.entries _ inner;
  }

  kept_same : {A : Type 0} {m : Writes A} → Same m → Kept m
  kept_same a = record { front = λ s. record { rest = []; is = a.same s ∙ sym (append-nil s.entries) } }

  kept_block : (vs : List Vars) (xs : List StmtPart) (line : ℕ) (around : Around) → AllKept xs → Kept (block functions vs xs line around)
  kept_block vs xs line around h = record { front = λ s. (kept_same (same_block (length s.entries) vs xs line around h)).front s }

  kept_if : (test : Expr) (first : StmtPart) (second : Option StmtPart) (line : ℕ) (around : Around) → KeptPart first → Kept (else_part second around)
      → Kept (if_stmt functions test first second line around)
  kept_if test first second line around a b =
      kept_bind {f = λ x. first.check around >>= (λ y. else_part second around >>= (λ z. pure (p.If x y z line)))} (kept_value true test) (λ x.
      kept_bind {f = λ y. else_part second around >>= (λ z. pure (p.If x y z line))} (a around) (λ y. kept_map (λ z. p.If x y z line) b))

  kept_while : (test : Expr) (body : StmtPart) (line : ℕ) → KeptPart body → Kept (while_stmt functions test body line)
  kept_while test body line a =
      kept_bind {f = λ x. body.check inside_loop >>= (λ y. pure (p.While x y line))} (kept_value true test) (λ x. kept_map (λ y. p.While x y line) (a inside_loop))

  kept_do : (body : StmtPart) (test : Expr) (line : ℕ) → KeptPart body → Kept (do_stmt functions body test line)
  kept_do body test line a =
      kept_bind {f = λ y. value functions true test >>= (λ x. pure (p.Do y x line))} (a inside_loop) (λ y. kept_map (λ x. p.Do y x line) (kept_value true test))

  kept_controls : (first test third : Option Expr) → Kept (controls functions first test third)
  kept_controls first test third =
      kept_bind {f = λ x. optional functions true test >>= (λ y. optional functions false third >>= (λ z. pure (x, y, z)))} (kept_optional false first) (λ x.
      kept_bind {f = λ y. optional functions false third >>= (λ z. pure (x, y, z))} (kept_optional true test) (λ y. kept_map (λ z. (x, y, z)) (kept_optional false third)))

  kept_for : (first test third : Option Expr) (body : StmtPart) (line : ℕ) → KeptPart body → Kept (for_stmt functions first test third body line)
  kept_for first test third body line a =
      kept_bind {f = λ c. body.check inside_loop >>= (λ b. pure (p.For c.0 c.1 c.2 b line))} (kept_controls first test third) (λ c. kept_map (λ b. p.For c.0 c.1 c.2 b line) (a inside_loop))

  kept_return : (result : Option Ctype) (e : Option Expr) (line : ℕ) → Kept (return_stmt functions result e line)
  kept_return result e line =
      kept_bind {f = λ _. optional functions true e >>= (λ x. pure (p.Return x line))} (kept_note (return_faults result e line)) (λ _. kept_map (λ x. p.Return x line) (kept_optional true e))

  -- ---- switches

  kept_new_label : (before : List PLabel) (n : Option ℕ) (line : ℕ) → Kept (new_label before n line)
  kept_new_label before n line = kept_bind {f = λ _. pure (record { value = n; line = line } ∷ [])} (kept_note (label_faults before n line)) (λ _. kept_pure (record { value = n; line = line } ∷ []))

  kept_case : (before : List PLabel) (n : Option ℕ) (line : ℕ) → Kept (case_label before n line)
  kept_case before None line = kept_pure []
  kept_case before (Some n) line = kept_new_label before (Some n) line

  kept_label : (names : ScopeNames) (before : List PLabel) (e : Option Expr) (line : ℕ) → Kept (label names before e line)
  kept_label names before None line = kept_new_label before None line
  kept_label names before (Some e) line = kept_bind {f = λ n. case_label before n line} (kept_lift (constant_pattern names e)) (λ n. kept_case before n line)

  kept_labels : (names : ScopeNames) (before these : List PLabel) (ls : List Label) → Kept (labels names before these ls)
  kept_labels names before these [] = kept_pure these
  kept_labels names before these (l ∷ more) =
      kept_bind {f = λ xs. labels names before (these ++ xs) more} (kept_label names (before ++ these) l.value l.line) (λ xs. kept_labels names before (these ++ xs) more)

  kept_arm : (these : List Label) (xs : List StmtPart) (before : List PLabel) (line : ℕ) (around : Around) → AllKept xs → Kept (arm functions these xs before line around)
  kept_arm these xs before line around h = record {
    front = λ s. (kept_bind {B = PArm} {f = λ ls. sequence [] xs around >>= (λ ys. pure (record { labels = ls; list = ys }))} (kept_labels (visible functions s) before [] these) (λ ls.
        kept_map (λ ys. record { labels = ls; list = ys }) (kept_sequence [] xs around h))).front s;
  }

  abbrev KeptArm : ArmPart → Type 0
  KeptArm x = (before : List PLabel) (line : ℕ) (around : Around) → Kept (x.check before line around)

  abbrev AllKeptArms : List ArmPart → Type 0
  AllKeptArms [] = Unit {0}
  AllKeptArms (x ∷ xs) = KeptArm x × AllKeptArms xs

  kept_arms : (xs : List ArmPart) (before : List PLabel) (these : List PArm) (line : ℕ) (around : Around) → AllKeptArms xs → Kept (arms xs before these line around)
  kept_arms [] before these line around h = kept_pure these
  kept_arms (x ∷ more) before these line around h =
      kept_bind {f = λ y. arms more (before ++ y.labels) (these ++ y ∷ []) line around} (h.0 before line around) (λ y. kept_arms more (before ++ y.labels) (these ++ y ∷ []) line around h.1)

  kept_switch : (on : Expr) (xs : List ArmPart) (line : ℕ) (around : Around) → AllKeptArms xs → Kept (switch_stmt functions on xs line around)
  kept_switch on xs line around h =
      kept_bind {f = λ x. arms xs [] [] line (inside_switch around) >>= (λ ys. pure (p.Switch x ys line))} (kept_value true on) (λ x.
      kept_map (λ ys. p.Switch x ys line) (kept_arms xs [] [] line (inside_switch around) h))

  -- ---- each form

  pub record KeepsNames (x : StmtPart) : Type 0 where
    pub check : KeptPart x
    pub body : (from : ℕ) → Same (x.body from)

  keeps_plain : (line : ℕ) (check : Around → Writes PStmt) → ((around : Around) → Kept (check around)) → KeepsNames (plain functions line check)
  keeps_plain line check h = record {
    check = h;
    body = λ from. same_block from [] (record { check = check; body = λ _. check outside } ∷ []) line outside (h, tt);
  }

module _ (functions : List Heading) (result : Option Ctype) where
  abbrev TreeKeeps : Stmt → Type 0
  TreeKeeps x = KeepsNames functions (stmt_of functions result x)

  abbrev ArmKeeps : Arm → Type 0
  ArmKeeps x = KeptArm functions (arm_of functions result x)

  abbrev Child : Type 0
  Child = (x : Stmt) × TreeKeeps x

  abbrev ArmChild : Type 0
  ArmChild = (x : Arm) × ArmKeeps x

  abbrev parts : List Child → List StmtPart
  parts xs = map (stmt_of functions result) (map (λ x. x.0) xs)

  all_kept : (xs : List Child) → AllKept functions (parts xs)
  all_kept [] = tt
  all_kept (x ∷ xs) = (x.1.check, all_kept xs)

  all_arms : (xs : List ArmChild) → AllKeptArms functions (map (arm_of functions result) (map (λ x. x.0) xs))
  all_arms [] = tt
  all_arms (x ∷ xs) = (x.1, all_arms xs)

  abbrev trees : Stmt-F Child ArmChild → Stmt-F Stmt Arm
  trees y = map-Stmt Child ArmChild Stmt Arm (λ x. x.0) (λ x. x.0) y

  step_keeps : (y : Stmt-F Child ArmChild) → KeepsNames functions (stmt_step functions result (map-Stmt Stmt Arm StmtPart ArmPart (stmt_of functions result) (arm_of functions result) (trees y)))
  step_keeps (Stmt-F.Block vars list line) = record {
    check = λ around. kept_block functions vars (parts list) line around (all_kept list);
    body = λ from. same_block functions from vars (parts list) line outside (all_kept list);
  }
  step_keeps (Stmt-F.Empty line) = keeps_plain functions line _ (λ around. kept_pure (p.Empty line))
  step_keeps (Stmt-F.Run e line) = keeps_plain functions line _ (λ around. kept_map (λ x. p.Run x line) (kept_value functions false e))
  step_keeps (Stmt-F.If test first None line) = keeps_plain functions line _ (λ around. kept_if functions test (stmt_of functions result first.0) None line around first.1.check (kept_pure None))
  step_keeps (Stmt-F.If test first (Some second) line) = keeps_plain functions line _ (λ around.
      kept_if functions test (stmt_of functions result first.0) (Some (stmt_of functions result second.0)) line around first.1.check (kept_map Some (second.1.check around)))
  step_keeps (Stmt-F.While test body line) = keeps_plain functions line _ (λ around. kept_while functions test (stmt_of functions result body.0) line body.1.check)
  step_keeps (Stmt-F.Do body test line) = keeps_plain functions line _ (λ around. kept_do functions (stmt_of functions result body.0) test line body.1.check)
  step_keeps (Stmt-F.For first test third body line) = keeps_plain functions line _ (λ around. kept_for functions first test third (stmt_of functions result body.0) line body.1.check)
  step_keeps (Stmt-F.Break line) = keeps_plain functions line _ (λ around. record { front = λ s. front_same s.entries })
  step_keeps (Stmt-F.Continue line) = keeps_plain functions line _ (λ around. record { front = λ s. front_same s.entries })
  step_keeps (Stmt-F.Return e line) = keeps_plain functions line _ (λ around. kept_return functions result e line)
  step_keeps (Stmt-F.Switch on list line) = keeps_plain functions line _ (λ around. kept_switch functions on _ line around (all_arms list))

  abbrev arm_trees : Arm-F Child ArmChild → Arm-F Stmt Arm
  arm_trees y = map-Arm Child ArmChild Stmt Arm (λ x. x.0) (λ x. x.0) y

  arm_step_keeps : (y : Arm-F Child ArmChild) → KeptArm functions (arm_step functions result (map-Arm Stmt Arm StmtPart ArmPart (stmt_of functions result) (arm_of functions result) (arm_trees y)))
  arm_step_keeps y before line around = kept_arm functions y.labels (parts y.list) before line around (all_kept y.list)

  rolled : (x : Stmt-F Stmt Arm) (y : Stmt-F Child ArmChild) → trees y ≡ x → TreeKeeps (roll-Stmt x)
  rolled x y is = subst (λ z. TreeKeeps (roll-Stmt z)) is (subst (KeepsNames functions) (sym (stmt_roll functions result (trees y))) (step_keeps y))

  arm_rolled : (x : Arm-F Stmt Arm) (y : Arm-F Child ArmChild) → arm_trees y ≡ x → ArmKeeps (roll-Arm x)
  arm_rolled x y is = subst (λ z. ArmKeeps (roll-Arm z)) is (subst (KeptArm functions) (sym (arm_roll functions result (arm_trees y))) (arm_step_keeps y))

  -- A function's body leaves the names as they were.
  pub body_same : (x : Stmt) (from : ℕ) (s : Body) → ((stmt_of functions result x).body from s).state.entries ≡ s.entries
  body_same x from s = ((ind-Stmt TreeKeeps ArmKeeps rolled arm_rolled x).body from).same s

abbrev function_of : List ℕ → Head → List Slot → List Slot → PStmt → Function
function_of name head xs locals made = record { name = name; result = head.result; params = xs; locals = locals; body = made; line = head.line }

-- After a function's body the names before it are left.
pub body_left : (file : File) (head : Head) (xs : List Slot) (body : Stmt) → take (length file.entries) (body_of file head xs body).state.entries ≡ file.entries
body_left file head xs body =
    ap (take (length file.entries)) (body_same file.headings head.result body (length file.entries) (body_begin file xs))
    ∙ take_front file.entries (file.entries ++ param_entries 0 xs) (front_more file.entries (param_entries 0 xs))

-- what is known where a body breaks no rule
pub body_done : (file left : File) (head : Head) (xs : List Slot) (body : Stmt) (made : PStmt) (t : Body) (name : List ℕ) (entries : List Entry)
    → (stmt_of file.headings head.result body).body (length file.entries) (body_begin file xs) ≡ fine made t
    → name ≡ head.name → left ≡ record file { texts = []; entries = [] } → entries ≡ take (length file.entries) t.entries
    → ((body_of file head xs body).faults ≡ [])
    × (function_of name head xs t.locals made ≡ (body_of file head xs body).value)
    × (record left { texts = t.texts; entries = entries } ≡ record file { texts = (body_of file head xs body).state.texts })
body_done file left head xs body made t name entries h n l e =
    let same : entries ≡ file.entries = e ∙ ap (λ (u : Body). take (length file.entries) u.entries) (sym (ap (λ (x : Found Body PStmt). x.state) h)) ∙ body_left file head xs body in (
      ap (λ (x : Found Body PStmt). x.faults) h,
      ap (λ m. function_of m head xs t.locals made) n ∙ ap (λ (b : Found Body PStmt). function_of head.name head xs b.state.locals b.value) (sym h),
      ap (λ (u : File). record u { texts = t.texts; entries = entries }) l
          ∙ ap (λ es. record file { texts = t.texts; entries = es }) same
          ∙ ap (λ (b : Found Body PStmt). record file { texts = b.state.texts }) (sym h),
    )
