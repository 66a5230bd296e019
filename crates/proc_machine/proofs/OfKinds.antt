-- Operands of some kinds, when they are taken off.
use Rattle.std.proofs.Common.{◌-◌, ◌≡◌, ℕ, zero, suc, ◌+◌, ◌<◌, ◌≤◌, ◌^◌, Bool, true, false, List, [], ◌∷◌, length, drop, Option, Some, None, refl, ap, subst, arith}
use Rattle.std.specs.Prelude.{IsTrue, ◌&&◌, slice_index}
use Rattle.stack_code.specs.Machine.{below}
use Rattle.stack_code.specs.Valid.{Operand, Value, Place, ArrayPlace, ArrayLength, same_operand, pushed, go_on}
use Rattle.stack_code.specs.Valid as valid
use Rattle.proc_machine.specs.private.Sound.{IsOf, AreOf}

pub both : (a b : Bool) → (a && b) ≡ true → (a ≡ true) × (b ≡ true)
both true b h = (refl, h)
both false b h = cc

-- what is below operands that are taken, whatever comes next
pub taken : (o : Option (List Operand)) (next : ℕ → List Operand → Bool) → ((n : ℕ) → IsTrue (go_on o (next n))) → (t : List Operand) × (o ≡ Some t) × ((n : ℕ) → IsTrue (next n t))
taken None next h = let no : false ≡ true = h 0 in cc
taken (Some t) next h = (t, refl, h)

same_is : (a b : Operand) → same_operand a b ≡ true → b ≡ a
same_is Value Value h = refl
same_is Place Place h = refl
same_is ArrayPlace ArrayPlace h = refl
same_is ArrayLength ArrayLength h = refl
same_is Value Place h = cc
same_is Value ArrayPlace h = cc
same_is Value ArrayLength h = cc
same_is Place Value h = cc
same_is Place ArrayPlace h = cc
same_is Place ArrayLength h = cc
same_is ArrayPlace Value h = cc
same_is ArrayPlace Place h = cc
same_is ArrayPlace ArrayLength h = cc
same_is ArrayLength Value h = cc
same_is ArrayLength Place h = cc
same_is ArrayLength ArrayPlace h = cc

-- these are the topmost
abbrev pub Tops : List Operand → List ℕ → Type 0
Tops [] xs = Unit {0}
Tops (k ∷ ks) [] = ⊥
Tops (k ∷ ks) (x ∷ xs) = IsOf k x × Tops ks xs

pub taken_are : (ws kinds t : List Operand) (xs : List ℕ) → AreOf kinds xs → valid.below ws kinds ≡ Some t → AreOf t (drop (length ws) xs) × Tops ws xs
taken_are [] kinds t xs a e = let same : kinds ≡ t = cc in (subst (λ (z : List Operand). AreOf z xs) same a, tt)
taken_are (k ∷ ws) [] t xs a e = cc
taken_are (k ∷ ws) (x ∷ kinds) t [] a e = absurd a
taken_are (k ∷ ws) (x ∷ kinds) t (v ∷ vs) a e = by (λ d. taken_are ws kinds t vs a.1 d) (same_operand k x) refl e
  where
    by : (valid.below ws kinds ≡ Some t → AreOf t (drop (length ws) vs) × Tops ws vs) → (b : Bool) → same_operand k x ≡ b → (elim b [ true ↦ valid.below ws kinds | false ↦ None ]) ≡ Some t
        → AreOf t (drop (length ws) vs) × (IsOf k v × Tops ws vs)
    by rest true s d = let r = rest d in (r.0, (subst (λ (z : Operand). IsOf z v) (same_is k x s) a.0, r.1))
    by rest false s d = cc

pub tops_length : (ws : List Operand) (xs : List ℕ) → Tops ws xs → length ws ≤ length xs
tops_length [] xs t = omega arith
tops_length (k ∷ ws) [] t = absurd t
tops_length (k ∷ ws) (x ∷ xs) t = let r = tops_length ws xs t.1 in omega (arith, r)

abbrev pub is_word : Operand → Bool
is_word Place = false
is_word k = true

abbrev pub all_words : List Operand → Bool
all_words [] = true
all_words (k ∷ ks) = is_word k && all_words ks

word_is : (k : Operand) (x : ℕ) → is_word k ≡ true → IsOf k x → x < 2 ^ 32
word_is Value x h t = t
word_is ArrayPlace x h t = t
word_is ArrayLength x h t = t
word_is Place x h t = cc

pub tops_words : (ws : List Operand) (xs : List ℕ) → Tops ws xs → all_words ws ≡ true → (j : ℕ) → j < length ws → slice_index xs j < 2 ^ 32
tops_words [] xs t a j h = absurd (omega (arith, h))
tops_words (k ∷ ws) [] t a j h = absurd t
tops_words (k ∷ ws) (x ∷ xs) t a zero h = word_is k x (both (is_word k) (all_words ws) a).0 t.0
tops_words (k ∷ ws) (x ∷ xs) t a (suc j) h = tops_words ws xs t.1 (both (is_word k) (all_words ws) a).1 j (omega (arith, h))

pub are_length : (ks : List Operand) (xs : List ℕ) → AreOf ks xs → length ks ≡ length xs
are_length [] [] a = refl
are_length [] (x ∷ xs) a = absurd a
are_length (k ∷ ks) [] a = absurd a
are_length (k ∷ ks) (x ∷ xs) a = ap suc (are_length ks xs a.1)

pub none_left : (ks : List Operand) (xs : List ℕ) → AreOf ks xs → valid.is_empty ks ≡ true → xs ≡ []
none_left [] [] a h = refl
none_left [] (x ∷ xs) a h = absurd a
none_left (k ∷ ks) xs a h = cc

pub below_is : (xs : List ℕ) → below xs ≡ drop 1 xs
below_is [] = refl
below_is (x ∷ xs) = refl

pub below_two : (xs : List ℕ) → below (below xs) ≡ drop 2 xs
below_two [] = refl
below_two (x ∷ []) = refl
below_two (x ∷ y ∷ xs) = refl

pub below_length : (xs : List ℕ) → length (below xs) ≤ length xs - 1
below_length [] = omega arith
below_length (x ∷ xs) = omega arith

-- many pushed
pub pushed_words : (ks s : List Operand) → all_words ks ≡ true → all_words s ≡ true → all_words (pushed ks s) ≡ true
pushed_words [] s h g = g
pushed_words (k ∷ ks) s h g = let b = both (is_word k) (all_words ks) h in pushed_words ks (k ∷ s) b.1 (join (is_word k) (all_words s) b.0 g)
  where
    join : (a b : Bool) → a ≡ true → b ≡ true → (a && b) ≡ true
    join true b h g = g
    join false b h g = cc

pub pushed_length : (ks s : List Operand) → length (pushed ks s) ≡ length ks + length s
pushed_length [] s = let e : length s ≡ 0 + length s = omega arith in e
pushed_length (k ∷ ks) s = let r = pushed_length ks (k ∷ s) in omega (arith, r)
