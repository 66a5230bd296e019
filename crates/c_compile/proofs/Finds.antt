-- Paths through code on which each instruction finds the operands that it takes.
use Rattle.std.proofs.Common.{◌≡◌, ℕ, zero, suc, ◌+◌, ◌≤◌, Bool, true, List, [], ◌∷◌, ◌++◌, Some, refl, sym, ap, ◌∙◌, subst, arith}
use Rattle.std.specs.Prelude.{slice_get}
use Rattle.stack_code.specs.declared.instr.Instr.{Instr}
use Rattle.stack_code.specs.declared.instr.Instr.TheVariants as instr
use Rattle.stack_code.specs.Code.{FunctionCode, Code}
use Rattle.stack_code.specs.Valid.{Operand, Value, Place, ArrayPlace, ArrayLength, names_fit, follows, follows_if_any, finds, pushed, below, go_on, taking}
use Rattle.c_compile.specs.Asm.{Asm, nothing, one, end_of, ◌⨾◌, choose}
use Rattle.c_compile.proofs.Lies.{BlockAt, block_split, block_end}
use Rattle.c_compile.proofs.Sorts.{and_true}

-- ---- operands that are pushed and taken off

pub pushed_append : (a b s : List Operand) → pushed (a ++ b) s ≡ pushed b (pushed a s)
pushed_append [] b s = refl
pushed_append (k ∷ a) b s = pushed_append a b (k ∷ s)

below_both : (k : Operand) (s t : List Operand) → below (k ∷ s) (k ∷ t) ≡ below s t
below_both Value s t = refl
below_both Place s t = refl
below_both ArrayPlace s t = refl
below_both ArrayLength s t = refl

below_pushed : (ks s t : List Operand) → below (pushed ks s) (pushed ks t) ≡ below s t
below_pushed [] s t = refl
below_pushed (k ∷ ks) s t = below_pushed ks (k ∷ s) (k ∷ t) ∙ below_both k s t

pub taking_pushed : (ks s : List Operand) (next : List Operand → Bool) → taking ks (pushed ks s) next ≡ next s
taking_pushed ks s next = ap (λ o. go_on o next) (below_pushed ks [] s)

module _ (code : Code) (f : FunctionCode) where
  -- whatever way the tests go, so many instructions from a place on find their operands, and fewer do
  pub record Finds (n p : ℕ) (s : List Operand) : Type 0 where
    pub by : (m : ℕ) → m ≤ n → finds code f m p s ≡ true

  pub fewer : {n p : ℕ} {s : List Operand} (k : ℕ) → k ≤ n → Finds n p s → Finds k p s
  fewer k le h = record { by = λ m lt. h.by m (omega (arith, le, lt)) }

  pub none_finds : (p : ℕ) (s : List Operand) → Finds 0 p s
  none_finds p s = record { by = λ m le. by_count m le }
    where
      by_count : (m : ℕ) → m ≤ 0 → finds code f m p s ≡ true
      by_count zero le = refl
      by_count (suc m) le = absurd (omega (arith, le))

  -- an instruction that fits, and what follows it with one instruction less to come
  abbrev pub FollowsWell : ℕ → Instr → ℕ → List Operand → Type 0
  FollowsWell n i p s = (m : ℕ) → suc m ≤ n → follows code f i p s (λ q t. finds code f m q t) ≡ true

  pub at :
      (n p : ℕ) (s : List Operand) (i : Instr) (entered : List (List ℕ)) → slice_get f.steps p ≡ Some (record { instr = i; entered = entered }) → names_fit code.variables f.slots i ≡ true
      → FollowsWell n i p s → Finds n p s
  at n p s i entered e fit h = record { by = λ m le. by_count m le }
    where
      by_count : (m : ℕ) → m ≤ n → finds code f m p s ≡ true
      by_count zero le = refl
      by_count (suc m) le =
          ap (λ o. follows_if_any code f o p s (λ q t. finds code f m q t)) e ∙ and_true (names_fit code.variables f.slots i) (follows code f i p s (λ q t. finds code f m q t)) fit (h m le)

  -- what finds its operands behind a part, with these, does so before it, with those
  pub record Leads (asm : Asm) (s t : List Operand) : Type 0 where
    pub by : (blocks : List (List ℕ)) (p q n : ℕ) → BlockAt f.steps blocks p q (asm p) → Finds n q t → Finds n p s

  pub no_code : (s : List Operand) → Leads nothing s s
  no_code s = record { by = λ blocks p q n h g. subst (λ k. Finds n k s) (sym h) g }

  pub seq : {a b : Asm} {s t u : List Operand} → Leads a s t → Leads b t u → Leads (a ⨾ b) s u
  seq {a = a} {b = b} x y = record {
    by = λ blocks p q n h g.
        let d = block_split f.steps blocks (a p) (b (end_of a p)) p q h in
        x.by blocks p (end_of a p) n d.0 (y.by blocks (end_of a p) q n d.1 g);
  }

  -- what an instruction that doesn't jump does to the operands
  abbrev pub Steps : Instr → List Operand → List Operand → Type 0
  Steps i s t = (p : ℕ) (next : ℕ → List Operand → Bool) → next (p + 1) t ≡ true → follows code f i p s next ≡ true

  pub single : (i : Instr) (s t : List Operand) → names_fit code.variables f.slots i ≡ true → Steps i s t → Leads (one i) s t
  single i s t fit k = record {
    by = λ blocks p q n h g.
        let g2 = subst (λ j. Finds n j t) (sym h.1) g in
        at n p s i blocks h.0 fit (λ m le. k p (λ j r. finds code f m j r) (g2.by m (omega (arith, le))));
  }

  pub jump_at : (n p target : ℕ) (s : List Operand) (entered : List (List ℕ)) → slice_get f.steps p ≡ Some (record { instr = instr.Jump target; entered = entered }) → Finds n target s → Finds n p s
  jump_at n p target s entered e h = at n p s (instr.Jump target) entered e refl (λ m le. h.by m (omega (arith, le)))

  pub test_at :
      (n p target : ℕ) (s : List Operand) (entered : List (List ℕ)) → slice_get f.steps p ≡ Some (record { instr = instr.JumpZero target; entered = entered }) → Finds n (p + 1) s
      → Finds n target s → Finds n p (Value ∷ s)
  test_at n p target s entered e h g =
      at n p (Value ∷ s) (instr.JumpZero target) entered e refl (λ m le. and_true _ _ (h.by m (omega (arith, le))) (g.by m (omega (arith, le))))

  pub chosen : {test a b : Asm} {s t : List Operand} → Leads test s (Value ∷ s) → Leads a s t → Leads b s t → Leads (choose test a b) s t
  chosen {test = test} {a = a} {b = b} {s = s} {t = t} x y z = record {
    by = λ blocks p q n h g.
        let m = end_of test p in
        let first = m + 1 in
        let k = end_of a first in
        let second = k + 1 in
        let tail = instr.Jump (end_of b second) ∷ b second in
        let d = block_split f.steps blocks (test p) (instr.JumpZero second ∷ (a first ++ tail)) p q h in
        let e = block_split f.steps blocks (a first) tail first q d.1.1 in
        let last : end_of b second ≡ q = block_end f.steps blocks (b second) second q e.1.1 in
        let over = jump_at n k (end_of b second) t blocks e.1.0 (subst (λ j. Finds n j t) (sym last) g) in
        let zeroes = z.by blocks second q n e.1.1 g in
        let others = y.by blocks first k n e.0 over in
        x.by blocks p m n d.0 (test_at n m second s blocks d.1.0 others zeroes);
  }
