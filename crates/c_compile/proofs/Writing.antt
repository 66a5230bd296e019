-- The parts of statements, as they are written.
use Rattle.std.proofs.Common.{◌≡◌, ℕ, ◌+◌, ◌<◌, true, false, List, [], ◌∷◌, ◌++◌, append_assoc, map, length, drop, get_or, Option, Some, None, Result, refl, sym, ap, ◌∙◌, subst}
use Rattle.std.specs.Prelude.{OnOk, slice_get}
use Rattle.std.specs.List.{list_any}
use Rattle.std.proofs.lemmas.List.{drop_more, append-nil}
use Rattle.nm_base.specs.declared.operator.Ctype.TheVariants.{Int}
use Rattle.nm_base.specs.declared.operator.BinaryOp.TheVariants.{Equal}
use Rattle.c_tree.specs.declared.program.Slot.{Slot}
use Rattle.c_tree.specs.declared.program.Start.{Start}
use Rattle.c_tree.specs.declared.program.PLabel.{PLabel}
use Rattle.c_tree.specs.declared.program.PExpr.{PExpr}
use Rattle.c_tree.specs.declared.program.PArm.{PArm}
use Rattle.c_tree.specs.Storage.{words_before, words_of_slot}
use Rattle.c_tree.specs.Stmt.{is_default}
use Rattle.stack_code.specs.declared.instr.Instr.TheVariants as instr
use Rattle.c_compile.specs.Asm.{Laid, nothing, ◌⨾◌}
use Rattle.c_compile.specs.ExprCode.{Shape}
use Rattle.c_compile.specs.StmtCode.{Blocks, put, effect_code, test_code, returned, zero_by, start_by, case_code, arm_code, place_of_label}
use Rattle.c_compile.specs.private.Emitted.{value_of, code_of_value, code_of_zeros, code_of_starts, code_of_labels, code_of_cases, end_of_list, default_place_of}
use Rattle.c_compile.specs.declared.body.Body.{Body}
use Rattle.c_compile.specs.private.Body.{steps_of, blocks_of, IsLaidOut, Wrote}
use Rattle.c_compile.proofs.Bodies.{wrote_nothing, wrote_both, wrote_as, Onward, onward_more, onward_end}

-- what a call wrote, under another name of the same code
pub named : {E : Type 0} (r : Result (Unit {0}) E) (a b : Body) (x y : Blocks → Laid) → x ≡ y → OnOk r (Wrote a b y) → OnOk r (Wrote a b x)
named r a b x y e h = subst (λ z. OnOk r (Wrote a b z)) (sym e) h

module _ (sh : Shape) where
  pub effect_none : {a : Body} (o : Option PExpr) → o ≡ None → IsLaidOut a → Wrote a a (λ blocks. effect_code sh o blocks)
  effect_none {a = a} o is fine = subst (λ p. Wrote a a (λ blocks. effect_code sh p blocks)) (sym is) (wrote_nothing a fine)

  pub test_none : {a : Body} (o : Option PExpr) (exit : ℕ) → o ≡ None → IsLaidOut a → Wrote a a (λ blocks. test_code sh o exit blocks)
  test_none {a = a} o exit is fine = subst (λ p. Wrote a a (λ blocks. test_code sh p exit blocks)) (sym is) (wrote_nothing a fine)

  pub zero_none : {a : Body} (o : Option Slot) (base : ℕ) → None ≡ o → IsLaidOut a → Wrote a a (λ blocks. zero_by sh o base blocks)
  zero_none {a = a} o base is fine = subst (λ p. Wrote a a (λ blocks. zero_by sh p base blocks)) is (wrote_nothing a fine)

  pub start_none : {a : Body} (slot line : ℕ) (o : Option PExpr) → o ≡ None → IsLaidOut a → Wrote a a (λ blocks. start_by sh slot line o blocks)
  start_none {a = a} slot line o is fine = subst (λ p. Wrote a a (λ blocks. start_by sh slot line p blocks)) (sym is) (wrote_nothing a fine)

  pub case_none : {a : Body} (o : Option ℕ) (target : ℕ) → o ≡ None → IsLaidOut a → Wrote a a (λ blocks. case_code sh o target blocks)
  case_none {a = a} o target is fine = subst (λ p. Wrote a a (λ blocks. case_code sh p target blocks)) (sym is) (wrote_nothing a fine)

  pub returned_some : (o : Option PExpr) (e : PExpr) → o ≡ Some e → (λ blocks. returned sh o blocks) ≡ code_of_value sh e
  unfolding code_of_value value_of
  returned_some o e is = ap (λ p. λ blocks. returned sh p blocks) is

module _ (sh : Shape) {a b c : Body} where
  pub effect_some : (o : Option PExpr) (e : PExpr) → o ≡ Some e → Wrote a b (code_of_value sh e) → Wrote b c (λ blocks. put blocks instr.Drop) → Wrote a c (λ blocks. effect_code sh o blocks)
  unfolding code_of_value value_of
  effect_some o e is h g = subst (λ p. Wrote a c (λ blocks. effect_code sh p blocks)) (sym is) (wrote_both h g)

  pub test_some : (o : Option PExpr) (exit : ℕ) (e : PExpr) → o ≡ Some e → Wrote a b (code_of_value sh e) → Wrote b c (λ blocks. put blocks (instr.JumpZero exit))
      → Wrote a c (λ blocks. test_code sh o exit blocks)
  unfolding code_of_value value_of
  test_some o exit e is h g = subst (λ p. Wrote a c (λ blocks. test_code sh p exit blocks)) (sym is) (wrote_both h g)

  pub start_some : {d e f g : Body} (slot line : ℕ) (o : Option PExpr) (x : PExpr) (place : ℕ) → o ≡ Some x → place ≡ words_before words_of_slot sh.slots slot
      → Wrote a b (λ blocks. put blocks (instr.Line line)) → Wrote b c (code_of_value sh x) → Wrote c d (λ blocks. put blocks (instr.LocalPlace place))
      → Wrote d e (λ blocks. put blocks instr.Swap) → Wrote e f (λ blocks. put blocks instr.Store) → Wrote f g (λ blocks. put blocks instr.Drop) → Wrote a g (λ blocks. start_by sh slot line o blocks)
  unfolding code_of_value value_of
  start_some {g = g} slot line o x place is at h1 h2 h3 h4 h5 h6 =
      let all = wrote_both h1 (wrote_both h2 (wrote_both h3 (wrote_both h4 (wrote_both h5 h6)))) in
      let Q : ℕ → Blocks → Laid = λ n. λ blocks. put blocks (instr.Line line) ⨾
      (code_of_value sh x blocks ⨾ (put blocks (instr.LocalPlace n) ⨾ (put blocks instr.Swap ⨾ (put blocks instr.Store ⨾ put blocks instr.Drop)))) in
      subst (λ p. Wrote a g (λ blocks. start_by sh slot line p blocks)) (sym is) (subst (λ n. Wrote a g (Q n)) at all)

  pub case_some : {d e f g : Body} (o : Option ℕ) (target bits next place : ℕ) → o ≡ Some bits → next ≡ place + 6 → place ≡ length (steps_of a) → Wrote a b (λ blocks. put blocks instr.Dup)
      → Wrote b c (λ blocks. put blocks (instr.Push bits)) → Wrote c d (λ blocks. put blocks (instr.Binary Equal Int)) → Wrote d e (λ blocks. put blocks (instr.JumpZero next))
      → Wrote e f (λ blocks. put blocks instr.Drop) → Wrote f g (λ blocks. put blocks (instr.Jump target)) → Wrote a g (λ blocks. case_code sh o target blocks)
  case_some {g = g} o target bits next place is at p h1 h2 h3 h4 h5 h6 =
      let all = wrote_both h1 (wrote_both h2 (wrote_both h3 (wrote_both h4 (wrote_both h5 h6)))) in
      let Q : ℕ → Blocks → Laid = λ n. λ blocks. put blocks instr.Dup ⨾
      (put blocks (instr.Push bits) ⨾ (put blocks (instr.Binary Equal Int) ⨾ (put blocks (instr.JumpZero n) ⨾ (put blocks instr.Drop ⨾ put blocks (instr.Jump target))))) in
      subst (λ p. Wrote a g (λ blocks. case_code sh p target blocks)) (sym is)
      (wrote_as (λ blocks. case_code sh (Some bits) target blocks) all (ap (λ n. Q n (blocks_of a) (length (steps_of a))) (at ∙ ap (λ n. n + 6) p)))

-- ---- loops

pub drop_all : {A : Type 0} (xs : List A) → drop (length xs) xs ≡ []
drop_all [] = refl
drop_all (x ∷ xs) = drop_all xs

-- what is left at one item, and at none
pub drops : {A : Type 0} (xs : List A) (i : ℕ) (x : A) → i < length xs → x ≡ get_or xs i x → drop i xs ≡ x ∷ drop (i + 1) xs
drops xs i x h is = drop_more xs i x h ∙ ap (λ y. y ∷ drop (i + 1) xs) (sym is)

-- a loop that has come to its end
pub loop_end : {A : Type 0} {a b : Body} (code : List A → Blocks → Laid) (xs : List A) (i : ℕ) → code [] ≡ (λ blocks. nothing) → i ≡ length xs → Onward a b (code (drop i xs)) (code xs)
    → Wrote a b (code xs)
loop_end code xs i none e h = onward_end h (ap (λ n. code (drop n xs)) e ∙ ap code (drop_all xs) ∙ none)

module _ (sh : Shape) where
  pub zeros_none : code_of_zeros sh [] ≡ (λ blocks. nothing)
  unfolding code_of_zeros
  zeros_none = refl

  pub starts_none : code_of_starts sh [] ≡ (λ blocks. nothing)
  unfolding code_of_starts
  starts_none = refl

  pub labels_none : (target : ℕ) → code_of_labels sh [] target ≡ (λ blocks. nothing)
  unfolding code_of_labels
  labels_none target = refl

  pub cases_none : (start : ℕ) → code_of_cases sh [] start ≡ (λ blocks. nothing)
  unfolding code_of_cases
  cases_none start = refl

module _ (sh : Shape) {a b c : Body} where
  pub zeros_more : (xs : List Start) (i : ℕ) (x : Start) → i < length xs → x ≡ get_or xs i x → Onward a b (code_of_zeros sh (drop i xs)) (code_of_zeros sh xs)
      → Wrote b c (λ blocks. zero_by sh (slice_get sh.slots x.slot) (words_before words_of_slot sh.slots x.slot) blocks) → Onward a c (code_of_zeros sh (drop (i + 1) xs)) (code_of_zeros sh xs)
  unfolding code_of_zeros
  zeros_more xs i x lt is h w = onward_more h w (ap (λ l. code_of_zeros sh l) (drops xs i x lt is))

  pub starts_more : (xs : List Start) (i : ℕ) (x : Start) → i < length xs → x ≡ get_or xs i x → Onward a b (code_of_starts sh (drop i xs)) (code_of_starts sh xs)
      → Wrote b c (λ blocks. start_by sh x.slot x.line x.value blocks) → Onward a c (code_of_starts sh (drop (i + 1) xs)) (code_of_starts sh xs)
  unfolding code_of_starts
  starts_more xs i x lt is h w = onward_more h w (ap (λ l. code_of_starts sh l) (drops xs i x lt is))

  pub labels_more : (xs : List PLabel) (target i : ℕ) (x : PLabel) → i < length xs → x ≡ get_or xs i x → Onward a b (code_of_labels sh (drop i xs) target) (code_of_labels sh xs target)
      → Wrote b c (λ blocks. case_code sh x.value target blocks) → Onward a c (code_of_labels sh (drop (i + 1) xs) target) (code_of_labels sh xs target)
  unfolding code_of_labels
  labels_more xs target i x lt is h w = onward_more h w (ap (λ l. code_of_labels sh l target) (drops xs i x lt is))

  pub cases_more : (xs : List PArm) (first i start next : ℕ) (x : PArm) → i < length xs → x ≡ get_or xs i x → next ≡ end_of_list sh x.list start
      → Onward a b (code_of_cases sh (drop i xs) start) (code_of_cases sh xs first) → Wrote b c (code_of_labels sh x.labels start)
      → Onward a c (code_of_cases sh (drop (i + 1) xs) next) (code_of_cases sh xs first)
  unfolding code_of_cases code_of_labels end_of_list
  cases_more xs first i start next x lt is at h w =
      subst (λ n. Onward a c (code_of_cases sh (drop (i + 1) xs) n) (code_of_cases sh xs first)) (sym at) (onward_more h w (ap (λ l. code_of_cases sh l start) (drops xs i x lt is)))

module _ (sh : Shape) {a b : Body} where
  pub cases_end : (xs : List PArm) (first start i : ℕ) → i ≡ length xs → Onward a b (code_of_cases sh (drop i xs) start) (code_of_cases sh xs first) → Wrote a b (code_of_cases sh xs first)
  cases_end xs first start i e h = onward_end h (ap (λ n. code_of_cases sh (drop n xs) start) e ∙ ap (λ l. code_of_cases sh l start) (drop_all xs) ∙ cases_none sh start)

-- ---- the arm with `default`

module _ (sh : Shape) where
  pub default_here : (xs : List PArm) (i start : ℕ) (x : PArm) → i < length xs → x ≡ get_or xs i x → list_any is_default x.labels ≡ true → default_place_of sh (drop i xs) start ≡ start
  unfolding default_place_of
  default_here xs i start x lt is h =
      ap (λ l. default_place_of sh l start) (drops xs i x lt is) ∙ ap
      (λ t. elim t [ true ↦ start | false ↦ place_of_label sh is_default (map (arm_code sh) (drop (i + 1) xs)) ((arm_code sh x).ends start) ]) h

  pub default_later : (xs : List PArm) (i start next : ℕ) (x : PArm) → i < length xs → x ≡ get_or xs i x → list_any is_default x.labels ≡ false → next ≡ end_of_list sh x.list start
      → default_place_of sh (drop i xs) start ≡ default_place_of sh (drop (i + 1) xs) next
  unfolding default_place_of end_of_list
  default_later xs i start next x lt is h at =
      ap (λ l. default_place_of sh l start) (drops xs i x lt is)
      ∙ ap (λ t. elim t [ true ↦ start | false ↦ place_of_label sh is_default (map (arm_code sh) (drop (i + 1) xs)) ((arm_code sh x).ends start) ]) h
      ∙ ap (λ n. default_place_of sh (drop (i + 1) xs) n) (sym at)

  pub default_none : (xs : List PArm) (i start : ℕ) → i ≡ length xs → default_place_of sh (drop i xs) start ≡ start
  unfolding default_place_of
  default_none xs i start e = ap (λ n. default_place_of sh (drop n xs) start) e ∙ ap (λ l. default_place_of sh l start) (drop_all xs)

-- ---- a list that is made item by item

pub map_more : {A B : Type 0} (f : A → B) (xs : List A) (i : ℕ) (made more : List B) (x : A) → i < length xs → x ≡ get_or xs i x → more ≡ made ++ f x ∷ [] → made ++ map f (drop i xs) ≡ map f xs
    → more ++ map f (drop (i + 1) xs) ≡ map f xs
map_more f xs i made more x lt is e inv =
    ap (λ l. l ++ map f (drop (i + 1) xs)) e
    ∙ append_assoc made (f x ∷ []) (map f (drop (i + 1) xs))
    ∙ ap (λ l. made ++ map f l) (sym (drops xs i x lt is))
    ∙ inv

pub map_end : {A B : Type 0} (f : A → B) (xs : List A) (i : ℕ) (made : List B) → i ≡ length xs → made ++ map f (drop i xs) ≡ map f xs → made ≡ map f xs
map_end f xs i made e inv =
    sym (append-nil made) ∙ ap (λ l. made ++ map f l) (sym (drop_all xs)) ∙ ap (λ n. made ++ map f (drop n xs)) (sym e) ∙ inv
