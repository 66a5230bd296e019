-- The code of a checked statement finds its operands: it begins and ends with none, and its jumps lead to places with none.
use Rattle.std.proofs.Common.{◌≡◌, ℕ, zero, suc, ◌+◌, Bool, true, false, List, [], ◌∷◌, map, length, Option, Some, None, refl, sym, ap, ◌∙◌, subst, arith}
use Rattle.std.specs.Prelude.{not, slice_get, is_none, is_some}
use Rattle.std.specs.List.{list_all, list_any}
use Rattle.nm_base.specs.declared.operator.Ctype.{Ctype}
use Rattle.nm_base.specs.declared.operator.Ctype.TheVariants.{Int}
use Rattle.nm_base.specs.declared.operator.BinaryOp.TheVariants.{Equal}
use Rattle.c_tree.specs.declared.program.Slot.{Slot}
use Rattle.c_tree.specs.declared.program.Start.{Start}
use Rattle.c_tree.specs.declared.program.PLabel.{PLabel}
use Rattle.c_tree.specs.declared.program.PExpr.{PExpr}
use Rattle.c_tree.specs.Storage.{words_of_slot, words_before}
use Rattle.c_tree.specs.Stmt.{is_default}
use Rattle.c_tree.specs.Typing.{Declarations, sort_of}
use Rattle.c_tree.specs.Checks.{value_fits, effect_fits, test_fits, start_fits, return_fits, is_scalar}
use Rattle.stack_code.specs.declared.instr.Instr.{Instr}
use Rattle.stack_code.specs.declared.instr.Instr.TheVariants as instr
use Rattle.stack_code.specs.Code.{Placed, FunctionCode, Code}
use Rattle.stack_code.specs.Valid.{Operand, Value, Place, is_scalar_at}
use Rattle.c_compile.specs.Asm.{end_of, ◌⨾◌}
use Rattle.c_compile.specs.ExprCode.{Shape, expr_code}
use Rattle.c_compile.specs.StmtCode as code_of
use Rattle.c_compile.specs.StmtCode.{Exits, Blocks, StmtCode, ArmCode, put, value_code, test_code, effect_code, zeros, zero_by, start_by, starts, sequence_code, block_code, else_code, else_ends}
use Rattle.c_compile.specs.StmtCode.{if_code, while_code, do_code, for_code, switch_code, case_code, cases_code, arms_cases, arms_code, arms_ends, place_of_label, test_ends}
use Rattle.c_compile.proofs.Lies.{LiesAt, split_at, end_at, in_block_at}
use Rattle.c_compile.proofs.Lengths as lengths
use Rattle.c_compile.proofs.ForPlaces.{for_at, for_laid}
use Rattle.c_compile.proofs.Parts.{both_true}
use Rattle.c_compile.proofs.Finds as finds
use Rattle.c_compile.proofs.Finds.{Finds}
use Rattle.c_compile.proofs.ExprStacks as exprs
use Rattle.c_compile.proofs.ExprStacks.{Knows}

module _ (code : Code) (f : FunctionCode) (names : Declarations) (knows : Knows code f names) (result : Option Ctype) where
  abbrev pub sh : Shape
  sh = record { globals = names.globals; functions = names.functions; texts = names.texts; slots = names.slots }

  abbrev pub It : ℕ → ℕ → List Operand → Type 0
  It n p s = Finds code f n p s

  abbrev Lies : ℕ → ℕ → List Placed → Type 0
  Lies p q xs = LiesAt f.steps p q xs

  abbrev Holds : ℕ → Instr → Blocks → Type 0
  Holds p i blocks = slice_get f.steps p ≡ Some (record { instr = i; entered = blocks })

  moved : {p q n : ℕ} {s : List Operand} → p ≡ q → It n q s → It n p s
  moved {n = n} {s = s} e h = subst (λ k. It n k s) (sym e) h

  -- ---- single instructions

  -- a Line takes one of the instructions to come
  line_at : (n p line : ℕ) (blocks : Blocks) → Holds p (instr.Line line) blocks → It n (p + 1) [] → It (suc n) p []
  line_at n p line blocks h g = finds.at code f (suc n) p [] (instr.Line line) blocks h refl (λ m le. g.by m (omega (arith, le)))

  at_line : (n p line : ℕ) (blocks : Blocks) → Holds p (instr.Line line) blocks → It n (p + 1) [] → It n p []
  at_line n p line blocks h g = finds.at code f n p [] (instr.Line line) blocks h refl (λ m le. g.by m (omega (arith, le)))

  drop_at : (n p : ℕ) (s : List Operand) (blocks : Blocks) → Holds p instr.Drop blocks → It n (p + 1) s → It n p (Value ∷ s)
  drop_at n p s blocks h g = finds.at code f n p (Value ∷ s) instr.Drop blocks h refl (λ m le. g.by m (omega (arith, le)))

  return_at : (n p : ℕ) (blocks : Blocks) → Holds p instr.Return blocks → It n p (Value ∷ [])
  return_at n p blocks h = finds.at code f n p (Value ∷ []) instr.Return blocks h refl (λ m le. refl)

  push_at : (n p bits : ℕ) (s : List Operand) (blocks : Blocks) → Holds p (instr.Push bits) blocks → It n (p + 1) (Value ∷ s) → It n p s
  push_at n p bits s blocks h g = finds.at code f n p s (instr.Push bits) blocks h refl (λ m le. g.by m (omega (arith, le)))

  -- ---- expressions

  value_at : (e : PExpr) → value_fits names result e ≡ true → (blocks : Blocks) (p q n : ℕ) (s : List Operand) → Lies p q (value_code sh e blocks p) → It n q (Value ∷ s) → It n p s
  value_at e v blocks p q n s h g =
      let x = exprs.value_facts code f (length names.texts) (sort_of names e) (expr_code sh e) (exprs.expr_stacks code f names knows e) v in
      (x.value.by s).by blocks p q n (in_block_at f.steps blocks ((expr_code sh e).value p) p q h) g

  test_at : (o : Option PExpr) → test_fits names result o ≡ true → (exit : ℕ) (blocks : Blocks) (p q n : ℕ) → Lies p q (test_code sh o exit blocks p) → It n q [] → It n exit [] → It n p []
  test_at None v exit blocks p q n h g x = moved h g
  test_at (Some e) v exit blocks p q n h g x =
      let m = end_of (value_code sh e blocks) p in
      let s = split_at f.steps (value_code sh e blocks p) (put blocks (instr.JumpZero exit) m) p q h in
      value_at e v blocks p m n [] s.0 (finds.test_at code f n m exit [] blocks s.1.0 (moved s.1.1 g) x)

  effect_at : (o : Option PExpr) → effect_fits names result o ≡ true → (blocks : Blocks) (p q n : ℕ) → Lies p q (effect_code sh o blocks p) → It n q [] → It n p []
  effect_at None v blocks p q n h g = moved h g
  effect_at (Some e) v blocks p q n h g =
      let m = end_of (value_code sh e blocks) p in
      let s = split_at f.steps (value_code sh e blocks p) (put blocks instr.Drop m) p q h in
      let x = exprs.effect_facts code f (length names.texts) (sort_of names e) (expr_code sh e) (exprs.expr_stacks code f names knows e) v in
      (x.by []).by blocks p m n (in_block_at f.steps blocks ((expr_code sh e).value p) p m s.0) (drop_at n m [] blocks s.1.0 (moved s.1.1 g))

  -- ---- statements

  abbrev pub Passes : (Exits → Blocks → ℕ → List Placed) → Type 0
  Passes asm = (exits : Exits) (blocks : Blocks) (p q n : ℕ) → Lies p q (asm exits blocks p) → It n q [] → It n exits.breaks [] → It n exits.continues [] → It n p []

  pub record StmtPasses (c : StmtCode) : Type 0 where
    pub passes : Passes c.code
    pub body_passes : Passes c.body
    pub ends : (exits : Exits) (blocks : Blocks) (p : ℕ) → end_of (c.code exits blocks) p ≡ c.ends p

  abbrev pub AllPass : List StmtCode → Type 0
  AllPass [] = Unit {0}
  AllPass (c ∷ cs) = StmtPasses c × AllPass cs

  pub sequence_passes : (cs : List StmtCode) → AllPass cs → Passes (sequence_code cs)
  sequence_passes [] r exits blocks p q n h g b c = moved h g
  sequence_passes (x ∷ xs) r exits blocks p q n h g b c =
      let m = end_of (x.code exits blocks) p in
      let s = split_at f.steps (x.code exits blocks p) (sequence_code xs exits blocks m) p q h in
      r.0.passes exits blocks p m n s.0 (sequence_passes xs r.1 exits blocks m q n s.1 g b c) b c

  -- ---- blocks

  turned : (b : Bool) → not b ≡ true → b ≡ false
  turned true h = cc
  turned false h = refl

  nothing_there : (o : Option ℕ) → is_none o ≡ true → o ≡ None
  nothing_there None h = refl
  nothing_there (Some n) h = cc

  -- the slot is no parameter that names an array
  abbrev pub is_local : ℕ → Bool
  is_local i = elim (slice_get names.slots i) [ None ↦ false | Some x ↦ not x.array_param ]

  zero_at :
      (i : ℕ) (o : Option Slot) → slice_get names.slots i ≡ o → is_local i ≡ true → (blocks : Blocks) (p q n : ℕ)
      → Lies p q (zero_by sh o (words_before words_of_slot names.slots i) blocks p) → It n q [] → It n p []
  zero_at i None e l blocks p q n h g = moved h g
  zero_at i (Some x) e l blocks p q n h g =
      let scalar = subst (λ (o : Option Slot). elim o [ None ↦ false | Some x ↦ not x.array_param ] ≡ true) e l in
      let fit = knows.whole_slot i x e (turned x.array_param scalar) in
      let after = moved h.1 g in
      finds.at code f n p [] (instr.Zero (words_before words_of_slot names.slots i) (words_of_slot x)) blocks h.0 fit (λ m le. after.by m (omega (arith, le)))

  zeros_at : (xs : List Start) → list_all is_local (map (λ x. x.slot) xs) ≡ true → (blocks : Blocks) (p q n : ℕ) → Lies p q (zeros sh xs blocks p) → It n q [] → It n p []
  zeros_at [] l blocks p q n h g = moved h g
  zeros_at (x ∷ xs) l blocks p q n h g =
      let a = zero_by sh (slice_get names.slots x.slot) (words_before words_of_slot names.slots x.slot) blocks in
      let b = both_true (is_local x.slot) (list_all is_local (map (λ x. x.slot) xs)) l in
      let m = end_of a p in
      let s = split_at f.steps (a p) (zeros sh xs blocks m) p q h in
      zero_at x.slot (slice_get names.slots x.slot) refl b.0 blocks p m n s.0 (zeros_at xs b.1 blocks m q n s.1 g)

  -- a scalar's place is that of a scalar
  scalar_fits : (i : ℕ) (o : Option Slot) → slice_get names.slots i ≡ o → is_scalar names result o ≡ true → list_any (is_scalar_at (words_before words_of_slot names.slots i)) f.slots ≡ true
  scalar_fits i None e h = cc
  scalar_fits i (Some x) e h =
      let b = both_true (not x.array_param) (is_none x.length) h in
      knows.scalar_slot i x e (turned x.array_param b.0) (nothing_there x.length b.1)

  -- an initialiser's value is stored in a local
  stored_at :
      (i : ℕ) → is_scalar names result (slice_get names.slots i) ≡ true → (blocks : Blocks) (p q n : ℕ)
      → Lies p q ((put blocks (instr.LocalPlace (words_before words_of_slot names.slots i)) ⨾ (put blocks instr.Swap ⨾ (put blocks instr.Store ⨾ put blocks instr.Drop))) p) → It n q []
      → It n p (Value ∷ [])
  stored_at i l blocks p q n h g =
      let place = words_before words_of_slot names.slots i in
      let fit = scalar_fits i (slice_get names.slots i) refl l in
      let first = finds.single code f (instr.LocalPlace place) (Value ∷ []) (Place ∷ Value ∷ []) fit (λ p next k. k) in
      let rest = finds.seq code f (exprs.place_below code f []) (finds.seq code f (exprs.store code f []) (exprs.drop_value code f [])) in
      (finds.seq code f first rest).by blocks p q n h g

  start_at :
      (x : Start) (o : Option PExpr) → start_fits names result (record x { value = o }) ≡ true → (blocks : Blocks) (p q n : ℕ) → Lies p q (start_by sh x.slot x.line o blocks p) → It n q []
      → It n p []
  start_at x None v blocks p q n h g = moved h g
  start_at x (Some e) v blocks p q n h g =
      let fit = both_true (value_fits names result e) (is_scalar names result (slice_get names.slots x.slot)) v in
      let m = end_of (value_code sh e blocks) (p + 1) in
      let last = put blocks (instr.LocalPlace (words_before words_of_slot names.slots x.slot)) ⨾ (put blocks instr.Swap ⨾ (put blocks instr.Store ⨾ put blocks instr.Drop)) in
      let s = split_at f.steps (value_code sh e blocks (p + 1)) (last m) (p + 1) q h.1 in
      at_line n p x.line blocks h.0 (value_at e fit.0 blocks (p + 1) m n [] s.0 (stored_at x.slot fit.1 blocks m q n s.1 g))

  starts_at : (xs : List Start) → list_all (start_fits names result) xs ≡ true → (blocks : Blocks) (p q n : ℕ) → Lies p q (starts sh xs blocks p) → It n q [] → It n p []
  starts_at [] v blocks p q n h g = moved h g
  starts_at (x ∷ xs) v blocks p q n h g =
      let fit = both_true (start_fits names result x) (list_all (start_fits names result) xs) v in
      let a = start_by sh x.slot x.line x.value blocks in
      let m = end_of a p in
      let s = split_at f.steps (a p) (starts sh xs blocks m) p q h in
      start_at x x.value fit.0 blocks p m n s.0 (starts_at xs fit.1 blocks m q n s.1 g)

  pub block_passes :
      (locals : List Start) (cs : List StmtCode) → AllPass cs → list_all (start_fits names result) locals ≡ true → list_all is_local (map (λ x. x.slot) locals) ≡ true
      → Passes (block_code sh locals cs)
  block_passes locals cs r v l exits blocks p q n h g b c =
      let inner = map (λ x. x.slot) locals ∷ blocks in
      let m = end_of (zeros sh locals inner) p in
      let k = end_of (starts sh locals inner) m in
      let s = split_at f.steps (zeros sh locals inner p) ((starts sh locals inner ⨾ sequence_code cs exits inner) m) p q h in
      let s2 = split_at f.steps (starts sh locals inner m) (sequence_code cs exits inner k) m q s.1 in
      zeros_at locals l inner p m n s.0 (starts_at locals v inner m k n s2.0 (sequence_passes cs r exits inner k q n s2.1 g b c))

  -- ---- choices and loops

  abbrev pub ElsePasses : Option StmtCode → Type 0
  ElsePasses None = Unit {0}
  ElsePasses (Some c) = StmtPasses c

  else_passes : (o : Option StmtCode) → ElsePasses o → Passes (else_code o)
  else_passes None r exits blocks p q n h g b c = moved h g
  else_passes (Some x) r exits blocks p q n h g b c = r.passes exits blocks p q n h g b c

  else_end : (o : Option StmtCode) → ElsePasses o → (exits : Exits) (blocks : Blocks) (p : ℕ) → end_of (else_code o exits blocks) p ≡ else_ends o p
  else_end None r exits blocks p = omega arith
  else_end (Some x) r exits blocks p = r.ends exits blocks p

  pub if_passes :
      (test : PExpr) (x : StmtCode) (o : Option StmtCode) (line : ℕ) → StmtPasses x → ElsePasses o → value_fits names result test ≡ true
      → Passes (λ exits blocks. put blocks (instr.Line line) ⨾ if_code sh test x o exits blocks)
  if_passes test x o line r e v exits blocks p q n h g b c =
      let m0 = end_of (expr_code sh test).value (p + 1) in
      let b0 = x.ends (m0 + 1) + 1 in
      let m = end_of (value_code sh test blocks) (p + 1) in
      let k = end_of (x.code exits blocks) (m + 1) in
      let k_is : k + 1 ≡ b0 = ap (λ j. j + 1) (r.ends exits blocks (m + 1)) ∙ ap (λ j. x.ends (j + 1) + 1) (lengths.value_end sh blocks test (p + 1)) in
      let tail2 = put blocks (instr.Jump (else_ends o b0)) ⨾ else_code o exits blocks in
      let tail1 = put blocks (instr.JumpZero b0) ⨾ (x.code exits blocks ⨾ tail2) in
      let s1 = split_at f.steps (value_code sh test blocks (p + 1)) (tail1 m) (p + 1) q h.1 in
      let s2 = split_at f.steps (x.code exits blocks (m + 1)) (tail2 k) (m + 1) q s1.1.1 in
      let q_is : k + 1 + length (else_code o exits blocks (k + 1)) ≡ q = end_at f.steps (else_code o exits blocks (k + 1)) (k + 1) q s2.1.1 in
      let else_is : else_ends o b0 ≡ q = ap (else_ends o) (sym k_is) ∙ sym (else_end o e exits blocks (k + 1)) ∙ q_is in
      let second = else_passes o e exits blocks (k + 1) q n s2.1.1 g b c in
      let over = finds.jump_at code f n k (else_ends o b0) [] blocks s2.1.0 (moved else_is g) in
      let first = r.passes exits blocks (m + 1) k n s2.0 over b c in
      at_line n p line blocks h.0 (value_at test v blocks (p + 1) m n [] s1.0 (finds.test_at code f n m b0 [] blocks s1.1.0 first (moved (sym k_is) second)))

  -- a loop from its Line on: what holds with one instruction less at the Line holds behind it
  round : {q p : ℕ} (line : ℕ) (blocks : Blocks) → Holds p (instr.Line line) blocks → ((n : ℕ) → It n q [] → It n p [] → It n (p + 1) []) → (n : ℕ) → It n q [] → It n p []
  round {q = q} {p = p} line blocks h k zero g = finds.none_finds code f p []
  round {q = q} {p = p} line blocks h k (suc n) g =
      let less = finds.fewer code f n (omega arith) g in
      line_at n p line blocks h (k n less (round line blocks h k n less))

  pub while_passes : (test : PExpr) (x : StmtCode) (line : ℕ) → StmtPasses x → value_fits names result test ≡ true → Passes (λ exits blocks. while_code sh test x line blocks)
  while_passes test x line r v exits blocks p q n h g b c =
      let back0 = x.ends (test_ends sh (Some test) (p + 1)) in
      let exits0 : Exits = record { breaks = back0 + 1; continues = back0 } in
      let test0 = test_code sh (Some test) (back0 + 1) blocks in
      let e = end_of test0 (p + 1) in
      let back = end_of (x.code exits0 blocks) e in
      let back_is : back ≡ back0 = r.ends exits0 blocks e ∙ ap x.ends (lengths.test_end sh blocks (Some test) (back0 + 1) (p + 1)) in
      let tail = x.code exits0 blocks ⨾ put blocks (instr.Jump p) in
      let s1 = split_at f.steps (test0 (p + 1)) (tail e) (p + 1) q h.1 in
      let s2 = split_at f.steps (x.code exits0 blocks e) (put blocks (instr.Jump p) back) e q s1.1 in
      let q_is : back0 + 1 ≡ q = ap (λ k. k + 1) (sym back_is) ∙ s2.1.1 in
      round line blocks h.0 (λ n g again.
      let out = moved q_is g in
      let turn = finds.jump_at code f n back p [] blocks s2.1.0 again in
      let body = r.passes exits0 blocks e back n s2.0 turn out (moved (sym back_is) turn) in
      test_at (Some test) v (back0 + 1) blocks (p + 1) e n s1.0 body out) n g

  pub do_passes : (test : PExpr) (x : StmtCode) (line : ℕ) → StmtPasses x → value_fits names result test ≡ true → Passes (λ exits blocks. do_code sh x test line blocks)
  do_passes test x line r v exits blocks p q n h g b c =
      let again0 = x.ends (p + 1) in
      let back0 = test_ends sh (Some test) again0 in
      let exits0 : Exits = record { breaks = back0 + 1; continues = again0 } in
      let test0 = test_code sh (Some test) (back0 + 1) blocks in
      let again = end_of (x.code exits0 blocks) (p + 1) in
      let back = end_of test0 again in
      let again_is : again ≡ again0 = r.ends exits0 blocks (p + 1) in
      let back_is : back ≡ back0 = lengths.test_end sh blocks (Some test) (back0 + 1) again ∙ ap (test_ends sh (Some test)) again_is in
      let tail = test0 ⨾ put blocks (instr.Jump p) in
      let s1 = split_at f.steps (x.code exits0 blocks (p + 1)) (tail again) (p + 1) q h.1 in
      let s2 = split_at f.steps (test0 again) (put blocks (instr.Jump p) back) again q s1.1 in
      let q_is : back0 + 1 ≡ q = ap (λ k. k + 1) (sym back_is) ∙ s2.1.1 in
      round line blocks h.0 (λ n g first.
      let out = moved q_is g in
      let turn = finds.jump_at code f n back p [] blocks s2.1.0 first in
      let tests = test_at (Some test) v (back0 + 1) blocks again back n s2.0 turn out in
      r.passes exits0 blocks (p + 1) again n s1.0 tests out (moved (sym again_is) tests)) n g

  pub for_passes :
      (first test third : Option PExpr) (x : StmtCode) (line : ℕ) → StmtPasses x → effect_fits names result first ≡ true → test_fits names result test ≡ true
      → effect_fits names result third ≡ true → Passes (λ exits blocks. for_code sh first test third x line blocks)
  for_passes first test third x line r v1 v2 v3 exits blocks p q n h g b c =
      let w = for_at sh blocks first test third x p q in
      let l = for_laid sh blocks first test third x f.steps line p q r.ends h in
      let inside = λ (n : ℕ) (g : It n q []) (later : It n w.top []).
      let turn = finds.jump_at code f n w.back w.top [] blocks l.back_at later in
      let thirds = effect_at third v3 blocks w.again w.back n l.third_at turn in
      let body = r.passes w.exits blocks w.start w.again n l.body_at thirds g thirds in
      test_at test v2 q blocks (w.top + 1) w.start n l.test_at body g in
      let tests = inside n g (round line blocks l.top_at inside n g) in
      let over = finds.jump_at code f n w.over (w.top + 1) [] blocks l.over_at tests in
      at_line n p line blocks l.line_at (effect_at first v1 blocks (p + 1) w.over n l.first_at over)

  pub empty_passes : (line : ℕ) → Passes (λ exits blocks. put blocks (instr.Line line))
  empty_passes line exits blocks p q n h g b c = at_line n p line blocks h.0 (moved h.1 g)

  pub run_passes : (part : PExpr) (line : ℕ) → effect_fits names result (Some part) ≡ true → Passes (λ exits blocks. put blocks (instr.Line line) ⨾ effect_code sh (Some part) blocks)
  run_passes part line v exits blocks p q n h g b c = at_line n p line blocks h.0 (effect_at (Some part) v blocks (p + 1) q n h.1 g)

  -- ---- ways out

  pub exit_passes :
      (line : ℕ) (to : Exits → ℕ) (leads : (exits : Exits) (n : ℕ) → It n exits.breaks [] → It n exits.continues [] → It n (to exits) [])
      → Passes (λ exits blocks. put blocks (instr.Line line) ⨾ put blocks (instr.Jump (to exits)))
  exit_passes line to leads exits blocks p q n h g b c = at_line n p line blocks h.0 (finds.jump_at code f n (p + 1) (to exits) [] blocks h.1.0 (leads exits n b c))

  pub return_passes :
      (o : Option PExpr) (line : ℕ) → return_fits names result o ≡ true → Passes (λ exits blocks. put blocks (instr.Line line) ⨾ (code_of.returned sh o blocks ⨾ put blocks instr.Return))
  return_passes None line v exits blocks p q n h g b c =
      at_line n p line blocks h.0 (push_at n (p + 1) 0 [] blocks h.1.0 (return_at n (p + 1 + 1) blocks h.1.1.0))
  return_passes (Some e) line v exits blocks p q n h g b c =
      let m = end_of (value_code sh e blocks) (p + 1) in
      let s = split_at f.steps (value_code sh e blocks (p + 1)) (put blocks instr.Return m) (p + 1) q h.1 in
      at_line n p line blocks h.0 (value_at e (both_true (is_some result) (value_fits names result e) v).1 blocks (p + 1) m n [] s.0 (return_at n m blocks s.1.0))

  -- ---- switches

  -- a case keeps the switch's value, or takes it off and jumps
  case_at : (o : Option ℕ) (target : ℕ) (blocks : Blocks) (p q n : ℕ) → Lies p q (case_code sh o target blocks p) → It n q (Value ∷ []) → It n target [] → It n p (Value ∷ [])
  case_at None target blocks p q n h g x = moved h g
  case_at (Some bits) target blocks p q n h g x =
      let p2 = p + 1 + 1 in
      let p4 = p2 + 1 + 1 in
      let q_is : p + 6 ≡ q = omega (arith, h.1.1.1.1.1.1) in
      let over = finds.jump_at code f n (p4 + 1) target [] blocks h.1.1.1.1.1.0 x in
      let taken = drop_at n p4 [] blocks h.1.1.1.1.0 over in
      let test = finds.test_at code f n (p2 + 1) (p + 6) (Value ∷ []) blocks h.1.1.1.0 taken (moved q_is g) in
      let compared = finds.at code f n p2 (Value ∷ Value ∷ Value ∷ []) (instr.Binary Equal Int) blocks h.1.1.0 refl (λ m le. test.by m (omega (arith, le))) in
      let pushed = push_at n (p + 1) bits (Value ∷ Value ∷ []) blocks h.1.0 compared in
      finds.at code f n p (Value ∷ []) instr.Dup blocks h.0 refl (λ m le. pushed.by m (omega (arith, le)))

  cases_at : (xs : List PLabel) (target : ℕ) (blocks : Blocks) (p q n : ℕ) → Lies p q (cases_code sh xs target blocks p) → It n q (Value ∷ []) → It n target [] → It n p (Value ∷ [])
  cases_at [] target blocks p q n h g x = moved h g
  cases_at (l ∷ xs) target blocks p q n h g x =
      let a = case_code sh l.value target blocks in
      let m = end_of a p in
      let s = split_at f.steps (a p) (cases_code sh xs target blocks m) p q h in
      case_at l.value target blocks p m n s.0 (cases_at xs target blocks m q n s.1 g x) x

  pub record ArmPasses (c : ArmCode) : Type 0 where
    pub passes : Passes c.code
    pub ends : (exits : Exits) (blocks : Blocks) (p : ℕ) → end_of (c.code exits blocks) p ≡ c.ends p

  abbrev pub AllArms : List ArmCode → Type 0
  AllArms [] = Unit {0}
  AllArms (c ∷ cs) = ArmPasses c × AllArms cs

  -- each arm may be gone on from, and so may the end
  abbrev Targets : ℕ → List ArmCode → ℕ → Type 0
  Targets n [] start = It n start []
  Targets n (c ∷ cs) start = It n start [] × Targets n cs (c.ends start)

  first_target : (n : ℕ) (cs : List ArmCode) (start : ℕ) → Targets n cs start → It n start []
  first_target n [] start t = t
  first_target n (c ∷ cs) start t = t.0

  arms_targets :
      (cs : List ArmCode) → AllArms cs → (exits : Exits) (blocks : Blocks) (p q n : ℕ) → Lies p q (arms_code sh cs exits blocks p) → It n q [] → It n exits.breaks []
      → It n exits.continues [] → Targets n cs p
  arms_targets [] r exits blocks p q n h g b c = moved h g
  arms_targets (x ∷ xs) r exits blocks p q n h g b c =
      let m = end_of (x.code exits blocks) p in
      let s = split_at f.steps (x.code exits blocks p) (arms_code sh xs exits blocks m) p q h in
      let more = arms_targets xs r.1 exits blocks m q n s.1 g b c in
      (r.0.passes exits blocks p m n s.0 (first_target n xs m more) b c, subst (λ k. Targets n xs k) (r.0.ends exits blocks p) more)

  arms_cases_at : (cs : List ArmCode) (start : ℕ) (blocks : Blocks) (p q n : ℕ) → Lies p q (arms_cases sh cs start blocks p) → It n q (Value ∷ []) → Targets n cs start → It n p (Value ∷ [])
  arms_cases_at [] start blocks p q n h g t = moved h g
  arms_cases_at (c ∷ cs) start blocks p q n h g t =
      let a = cases_code sh c.labels start blocks in
      let m = end_of a p in
      let s = split_at f.steps (a p) (arms_cases sh cs (c.ends start) blocks m) p q h in
      cases_at c.labels start blocks p m n s.0 (arms_cases_at cs (c.ends start) blocks m q n s.1 g t.1) t.0

  place_at : (test : PLabel → Bool) (cs : List ArmCode) (n start : ℕ) → Targets n cs start → It n (place_of_label sh test cs start) []
  place_at test [] n start t = t
  place_at test (c ∷ cs) n start t = by_label (list_any test c.labels) (place_at test cs n (c.ends start) t.1)
    where
      by_label : (z : Bool) → It n (place_of_label sh test cs (c.ends start)) [] → It n (elim z [ true ↦ start | false ↦ place_of_label sh test cs (c.ends start) ]) []
      by_label true x = t.0
      by_label false x = x

  arms_end : (cs : List ArmCode) → AllArms cs → (exits : Exits) (blocks : Blocks) (p : ℕ) → end_of (arms_code sh cs exits blocks) p ≡ arms_ends sh cs p
  arms_end [] r exits blocks p = omega arith
  arms_end (c ∷ cs) r exits blocks p =
      lengths.end_of_seq (c.code exits blocks) (arms_code sh cs exits blocks) p ∙ arms_end cs r.1 exits blocks (end_of (c.code exits blocks) p) ∙ ap (arms_ends sh cs) (r.0.ends exits blocks p)

  pub switch_passes : (on : PExpr) (cs : List ArmCode) (line : ℕ) → AllArms cs → value_fits names result on ≡ true → Passes (switch_code sh on cs line)
  switch_passes on cs line r v exits blocks p q n h g b c =
      let cases0 = end_of (expr_code sh on).value (p + 1) in
      let start0 = end_of (arms_cases sh cs 0 []) cases0 + 2 in
      let after0 = arms_ends sh cs start0 in
      let inner : Exits = record { breaks = after0; continues = exits.continues } in
      let m = end_of (value_code sh on blocks) (p + 1) in
      let k = end_of (arms_cases sh cs start0 blocks) m in
      let place = place_of_label sh is_default cs start0 in
      let tail2 = put blocks instr.Drop ⨾ (put blocks (instr.Jump place) ⨾ arms_code sh cs inner blocks) in
      let tail1 = arms_cases sh cs start0 blocks ⨾ tail2 in
      let s1 = split_at f.steps (value_code sh on blocks (p + 1)) (tail1 m) (p + 1) q h.1 in
      let s2 = split_at f.steps (arms_cases sh cs start0 blocks m) (tail2 k) m q s1.1 in
      let m_is : m ≡ cases0 = lengths.value_end sh blocks on (p + 1) in
      let k_is : k ≡ end_of (arms_cases sh cs 0 []) cases0 = lengths.arms_cases_length sh cs start0 0 blocks [] m ∙ ap (λ n. end_of (arms_cases sh cs 0 []) n) m_is in
      let start_is : start0 ≡ k + 1 + 1 = omega (arith, k_is) in
      let after_is : after0 ≡ q = ap (arms_ends sh cs) start_is ∙ sym (arms_end cs r inner blocks (k + 1 + 1)) ∙ end_at f.steps (arms_code sh cs inner blocks (k + 1 + 1)) (k + 1 + 1) q s2.1.1.1 in
      let targets = subst (λ j. Targets n cs j) (sym start_is) (arms_targets cs r inner blocks (k + 1 + 1) q n s2.1.1.1 g (moved after_is g) c) in
      let last = finds.jump_at code f n (k + 1) place [] blocks s2.1.1.0 (place_at is_default cs n start0 targets) in
      let cases = arms_cases_at cs start0 blocks m k n s2.0 (drop_at n k [] blocks s2.1.0 last) targets in
      at_line n p line blocks h.0 (value_at on v blocks (p + 1) m n [] s1.0 cases)

  -- ---- functions

  pub function_finds :
      (c : StmtCode) (line : ℕ) → Passes c.body → ((exits : Exits) (blocks : Blocks) (p : ℕ) → end_of (c.body exits blocks) p ≡ c.ends p)
      → Lies 0 (length f.steps) (code_of.body_code sh c line 0) → (n : ℕ) → It n 0 []
  function_finds c line r ends lies n =
      let after = c.ends (0 + 1) in
      let exits : Exits = record { breaks = after; continues = after } in
      let last = put (c.inside []) (instr.Push 0) ⨾ put (c.inside []) instr.Return in
      let m = end_of (c.body exits []) 1 in
      let m_is : m ≡ after = ends exits [] 1 in
      let s = split_at f.steps (c.body exits [] 1) (last m) 1 (length f.steps) lies.1 in
      let done = push_at n m 0 [] (c.inside []) s.1.0 (return_at n (m + 1) (c.inside []) s.1.1.0) in
      at_line n 0 line [] lies.0 (r exits [] 1 m n s.0 done (moved (sym m_is) done) (moved (sym m_is) done))
