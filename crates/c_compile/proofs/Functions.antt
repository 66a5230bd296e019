-- The code of a function, as it is written.
use Rattle.std.proofs.Common.{◌≡◌, ℕ, suc, ◌+◌, ◌<◌, Bool, true, List, [], ◌∷◌, map, length, get_or, refl, sym, ap, ◌∙◌, subst, arith}
use Rattle.std.specs.Prelude.{◌&&◌, ◌==◌, nat_le}
use Rattle.std.specs.List.{list_all}
use Rattle.std.proofs.lemmas.Bool.{eq-eqb, le-leb}
use Rattle.c_tree.specs.declared.program.Global.{Global}
use Rattle.c_tree.specs.declared.program.Function.{Function}
use Rattle.c_tree.specs.declared.program.Start.{Start}
use Rattle.c_tree.specs.declared.program.PArm.{PArm}
use Rattle.c_tree.specs.declared.program.PStmt.{PStmt, roll-PStmt, Block}
use Rattle.c_tree.specs.declared.program.PStmt.TheVariants.{rolls-Block}
use Rattle.c_tree.specs.declared.program.PStmt.TheOpen.{PStmt-F}
use Rattle.c_tree.specs.declared.program.PStmt.TheFolds.{ind-PStmt, map-PStmt}
use Rattle.c_tree.specs.Storage.{words_of, words_of_slot}
use Rattle.c_tree.specs.Expr.{slots_of, frame_words}
use Rattle.stack_code.specs.declared.instr.Instr.TheVariants as instr
use Rattle.stack_code.specs.declared.code.Variable.{Variable}
use Rattle.stack_code.specs.declared.code.CodeFunction.{CodeFunction}
use Rattle.stack_code.specs.Code.{Placed, FunctionCode}
use Rattle.stack_code.specs.Blocks.{is_kept, blocks_nest}
use Rattle.c_compile.specs.Asm.{Laid, ◌⨾◌}
use Rattle.c_compile.specs.ExprCode.{Shape}
use Rattle.c_compile.specs.Variables.{slots_from}
use Rattle.c_compile.specs.StmtCode as spec
use Rattle.c_compile.specs.StmtCode.{Blocks, Exits, StmtCode, ArmCode, stmt_code, arm_code, put, body_code, shape, function_code}
use Rattle.c_compile.specs.private.Emitted.{after, code_of_stmt, code_of_inside, body_of_stmt, inside_of_stmt, end_of_stmt}
use Rattle.c_compile.specs.declared.body.Body.{Body}
use Rattle.c_compile.specs.private.Body.{steps_of, blocks_of, IsLaidOut, Wrote, Opened}
use Rattle.c_compile.proofs.Emit.{seq}
use Rattle.c_compile.proofs.ByStmt.{stmt_is}
use Rattle.c_compile.proofs.Levels.{stmt_code_roll}
use Rattle.c_compile.proofs.Making.{words_both}

-- ---- the body

module _ (sh : Shape) {a b c d e : Body} where
  pub body_written : (s : PStmt) (line end : ℕ) → steps_of a ≡ [] → blocks_of a ≡ [] → end ≡ end_of_stmt sh s 1 → Wrote a b (λ blocks. put blocks (instr.Line line))
      → steps_of c ≡ after (steps_of b) (body_of_stmt sh s (record { breaks = end; continues = end }) (blocks_of b)) → blocks_of c ≡ inside_of_stmt sh s (blocks_of b)
      → Wrote c d (λ blocks. put blocks (instr.Push 0)) → Wrote d e (λ blocks. put blocks instr.Return) → steps_of e ≡ body_code sh (stmt_code sh s) line 0
  unfolding after body_of_stmt inside_of_stmt end_of_stmt
  body_written s line end none outside at h1 h2 g2 h3 h4 =
      let code = stmt_code sh s in
      let exits : ℕ → Exits = λ n. record { breaks = n; continues = n } in
      let inside = code.inside [] in
      let at_b : blocks_of b ≡ [] = h1.blocks ∙ outside in
      let at_c : blocks_of c ≡ inside = g2 ∙ ap (λ bs. code.inside bs) at_b in
      let e1 : steps_of b ≡ after (steps_of a) (put [] (instr.Line line)) = h1.steps ∙ ap (λ bs. after (steps_of a) (put bs (instr.Line line))) outside in
      let e2 : steps_of c ≡ after (steps_of b) (code.body (exits end) []) = h2 ∙ ap (λ bs. after (steps_of b) (code.body (exits end) bs)) at_b in
      let e3 : steps_of d ≡ after (steps_of c) (put inside (instr.Push 0)) = h3.steps ∙ ap (λ bs. after (steps_of c) (put bs (instr.Push 0))) at_c in
      let e4 : steps_of e ≡ after (steps_of d) (put inside instr.Return) = h4.steps ∙ ap (λ bs. after (steps_of d) (put bs instr.Return)) (h3.blocks ∙ at_c) in
      let Q : ℕ → Laid = λ n. put [] (instr.Line line) ⨾ (code.body (exits n) [] ⨾ (put inside (instr.Push 0) ⨾ put inside instr.Return)) in
      let last = seq (steps_of c) (steps_of d) (steps_of e) (put inside (instr.Push 0)) (put inside instr.Return) e3 e4 in
      let rest = seq (steps_of b) (steps_of c) (steps_of e) (code.body (exits end) []) (put inside (instr.Push 0) ⨾ put inside instr.Return) e2 last in
      let all = seq (steps_of a) (steps_of b) (steps_of e) (put [] (instr.Line line)) (code.body (exits end) [] ⨾ (put inside (instr.Push 0) ⨾ put inside instr.Return)) e1 rest in
      all ∙ ap (λ l. after l (Q end)) none ∙ ap (λ n. Q n 0) at

-- a block that stays open
module _ (sh : Shape) where
  block_steps : (locals : List Start) (list : List PStmt) (line : ℕ) (exits : Exits) (blocks : Blocks)
      → code_of_inside sh locals list exits (map (λ x. x.slot) locals ∷ blocks) ≡ body_of_stmt sh (Block locals list line) exits blocks
  unfolding code_of_inside body_of_stmt
  block_steps locals list line exits blocks = sym (ap (λ c. c.body exits blocks) (stmt_is sh (Block locals list line) (PStmt-F.Block locals list line) (rolls-Block locals list line)))

  block_inside : (locals : List Start) (list : List PStmt) (line : ℕ) (blocks : Blocks) → (map (λ x. x.slot) locals ∷ blocks) ≡ inside_of_stmt sh (Block locals list line) blocks
  unfolding inside_of_stmt
  block_inside locals list line blocks = sym (ap (λ c. c.inside blocks) (stmt_is sh (Block locals list line) (PStmt-F.Block locals list line) (rolls-Block locals list line)))

module _ (sh : Shape) {a b c : Body} where
  pub outermost_steps : (s : PStmt) (locals : List Start) (list : List PStmt) (line : ℕ) (exits : Exits) (slots : List ℕ) → s ≡ Block locals list line → slots ≡ map (λ x. x.slot) locals
      → Opened a b slots → Wrote b c (code_of_inside sh locals list exits) → steps_of c ≡ after (steps_of a) (body_of_stmt sh s exits (blocks_of a))
  outermost_steps s locals list line exits slots is at o w =
      w.steps
      ∙ ap (λ l. after l (code_of_inside sh locals list exits (blocks_of b))) o.steps
      ∙ ap (λ bs. after (steps_of a) (code_of_inside sh locals list exits bs)) (o.blocks ∙ ap (λ l. l ∷ blocks_of a) at)
      ∙ ap (after (steps_of a)) (block_steps sh locals list line exits (blocks_of a))
      ∙ ap (λ z. after (steps_of a) (body_of_stmt sh z exits (blocks_of a))) (sym is)

  pub outermost_blocks : (s : PStmt) (locals : List Start) (list : List PStmt) (line : ℕ) (exits : Exits) (slots : List ℕ) → s ≡ Block locals list line → slots ≡ map (λ x. x.slot) locals
      → Opened a b slots → Wrote b c (code_of_inside sh locals list exits) → blocks_of c ≡ inside_of_stmt sh s (blocks_of a)
  outermost_blocks s locals list line exits slots is at o w =
      w.blocks ∙ o.blocks ∙ ap (λ l. l ∷ blocks_of a) at ∙ block_inside sh locals list line (blocks_of a) ∙ ap (λ z. inside_of_stmt sh z (blocks_of a)) (sym is)

-- another statement is itself the body
module _ (sh : Shape) where
  abbrev NoBlock : PStmt → Type 0
  NoBlock s = (locals : List Start) (list : List PStmt) (line : ℕ) → s ≡ Block locals list line → ⊥

  abbrev Plain : StmtCode → Type 0
  Plain c = (c.body ≡ c.code) × (c.inside ≡ (λ blocks. blocks))

  abbrev PlainStmt : PStmt → Type 0
  PlainStmt s = NoBlock s → Plain (stmt_code sh s)

  abbrev Child : Type 0
  Child = (x : PStmt) × PlainStmt x

  abbrev ArmChild : Type 0
  ArmChild = (x : PArm) × Unit {0}

  layer_plain : (y : PStmt-F PStmt PArm) → NoBlock (roll-PStmt y) → Plain (spec.stmt_step sh (map-PStmt PStmt PArm StmtCode ArmCode (stmt_code sh) (arm_code sh) y))
  layer_plain (PStmt-F.Block locals list line) n = absurd (n locals list line (rolls-Block locals list line))
  layer_plain (PStmt-F.Empty line) n = (refl, refl)
  layer_plain (PStmt-F.Run part line) n = (refl, refl)
  layer_plain (PStmt-F.If test first second line) n = (refl, refl)
  layer_plain (PStmt-F.While test body line) n = (refl, refl)
  layer_plain (PStmt-F.Do body test line) n = (refl, refl)
  layer_plain (PStmt-F.For first test third body line) n = (refl, refl)
  layer_plain (PStmt-F.Break line) n = (refl, refl)
  layer_plain (PStmt-F.Continue line) n = (refl, refl)
  layer_plain (PStmt-F.Return value line) n = (refl, refl)
  layer_plain (PStmt-F.Switch on arms line) n = (refl, refl)

  plain_stmt : (s : PStmt) → PlainStmt s
  plain_stmt = ind-PStmt PlainStmt (λ _. Unit {0}) (λ x y is n. subst Plain (sym (stmt_code_roll sh x)) (layer_plain x n)) (λ x y is. tt)

  pub plain_steps : (s : PStmt) (exits : Exits) (blocks : Blocks) → NoBlock s → code_of_stmt sh s exits blocks ≡ body_of_stmt sh s exits blocks
  unfolding code_of_stmt body_of_stmt
  plain_steps s exits blocks n = ap (λ f. f exits blocks) (sym (plain_stmt s n).0)

  pub plain_inside : (s : PStmt) (blocks : Blocks) → NoBlock s → blocks ≡ inside_of_stmt sh s blocks
  unfolding inside_of_stmt
  plain_inside s blocks n = ap (λ f. f blocks) (sym (plain_stmt s n).1)

-- ---- the function

pub function_is : (globals : List Global) (functions : List Function) (texts : List (List ℕ)) (fn : Function) (name : List ℕ) (steps : List Placed) (param_words whole param_count : ℕ)
    (slots : List Variable) → name ≡ fn.name → steps ≡ body_code (shape globals functions texts fn) (stmt_code (shape globals functions texts fn) fn.body) fn.line 0
    → param_words ≡ words_of words_of_slot fn.params → whole ≡ frame_words fn → param_count ≡ length fn.params → slots ≡ slots_from 0 (slots_of fn)
    → let f : FunctionCode = record { name = name; steps = steps; line = fn.line; param_words = param_words; frame_words = whole; param_count = param_count; slots = slots } in f ≡ function_code
    globals functions texts fn
function_is globals functions texts fn name steps param_words whole param_count slots e1 e2 e3 e4 e5 e6 =
    let F : List ℕ → List Placed → ℕ → ℕ → ℕ → List Variable → FunctionCode = λ a b c d e f. record
    { name = a; steps = b; line = fn.line; param_words = c; frame_words = d; param_count = e; slots = f } in
    let body = body_code (shape globals functions texts fn) (stmt_code (shape globals functions texts fn) fn.body) fn.line 0 in
    ap (λ x. F x steps param_words whole param_count slots) e1
    ∙ ap (λ x. F fn.name x param_words whole param_count slots) e2
    ∙ ap (λ x. F fn.name body x whole param_count slots) e3
    ∙ ap (λ x. F fn.name body (words_of words_of_slot fn.params) x param_count slots) e4
    ∙ ap (λ x. F fn.name body (words_of words_of_slot fn.params) (frame_words fn) x slots) e5
    ∙ ap (λ x. F fn.name body (words_of words_of_slot fn.params) (frame_words fn) (length fn.params) x) e6

pub frame_is : (fn : Function) (params locals whole : ℕ) → params ≡ words_of words_of_slot fn.params → locals ≡ words_of words_of_slot fn.locals → whole ≡ params + locals
    → whole ≡ words_of words_of_slot (slots_of fn)
frame_is fn params locals whole p l w = let b = words_both fn.params fn.locals in omega (arith, p, l, w, b)

both_hold : (a b : Bool) → a ≡ true → b ≡ true → (a && b) ≡ true
both_hold a b h g = ap (λ x. x && b) h ∙ g

all_known : (ns : List ℕ) (count : ℕ) → ((k : ℕ) → k < length ns → get_or ns k 0 < count + 1) → list_all (λ n. nat_le n count) ns ≡ true
all_known [] count h = refl
all_known (n ∷ ns) count h =
    let first = h 0 (omega arith) in
    both_hold (nat_le n count) (list_all (λ n. nat_le n count) ns) (le-leb n count (omega (arith, first))) (all_known ns count (λ k lt. h (suc k) (omega (arith, lt))))

pub function_kept : (b : Body) (f : CodeFunction) → IsLaidOut b → f.instrs ≡ b.instrs → f.inside ≡ b.inside → f.blocks ≡ b.blocks → is_kept f ≡ true
function_kept b f fine e1 e2 e3 =
    let long : (length b.inside.items == length b.instrs.items) ≡ true = eq-eqb (length b.inside.items) (length b.instrs.items) fine.long in
    let known = all_known b.inside.items (length b.blocks.items) fine.known in
    let nest : blocks_nest 0 b.blocks.items ≡ true = fine.nest in
    let all = both_hold (length b.inside.items == length b.instrs.items && list_all (λ n. nat_le n (length b.blocks.items)) b.inside.items) (blocks_nest 0 b.blocks.items)
    (both_hold (length b.inside.items == length b.instrs.items) (list_all (λ n. nat_le n (length b.blocks.items)) b.inside.items) long known) nest in
    ap (λ l. is_kept (record f { instrs = l })) e1 ∙ ap (λ l. is_kept (record f { instrs = b.instrs; inside = l })) e2
    ∙ ap (λ l. is_kept (record f { instrs = b.instrs; inside = b.inside; blocks = l })) e3 ∙ all
