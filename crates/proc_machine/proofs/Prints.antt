-- What a format prints, byte by byte.
use Rattle.std.proofs.Common.{◌≡◌, ℕ, zero, suc, ◌+◌, ◌-◌, ◌/◌, ◌%◌, ◌<◌, Bool, true, false, List, [], ◌∷◌, ◌++◌, length, drop, refl, sym, ap, ◌∙◌, arith, append_assoc}
use Rattle.std.specs.Prelude.{slice_index, ◌==◌}
use Rattle.std.proofs.Common.{get_or}
use Rattle.c_tree.specs.Print.{digit, digits, converted, printed_from, first_of_values, later_values}

pub digits_after : (k b n : ℕ) (after : List ℕ) → digits k b n after ≡ digits k b n [] ++ after
digits_after zero b n after = refl
digits_after (suc k) b n after = by (digits_after k b (n / b) (digit (n % b) ∷ after)) (digits_after k b (n / b) (digit (n % b) ∷ [])) (n / b)
  where
    by : digits k b (n / b) (digit (n % b) ∷ after) ≡ digits k b (n / b) [] ++ digit (n % b) ∷ after → digits k b (n / b) (digit (n % b) ∷ []) ≡ digits k b (n / b) [] ++ digit (n % b) ∷ [] → (q : ℕ)
        → (elim q [ zero ↦ digit (n % b) ∷ after | suc p ↦ digits k b (n / b) (digit (n % b) ∷ after) ]) ≡
        (elim q [ zero ↦ digit (n % b) ∷ [] | suc p ↦ digits k b (n / b) (digit (n % b) ∷ []) ]) ++ after
    by h i zero = refl
    by h i (suc p) = h ∙ sym (append_assoc (digits k b (n / b) []) (digit (n % b) ∷ []) after) ∙ ap (λ l. l ++ after) (sym i)

pub one_digit : (k j b n : ℕ) → k ≡ suc j → n / b ≡ 0 → digits k b n [] ≡ digit (n % b) ∷ []
one_digit k j b n e z = ap (λ i. digits i b n []) e ∙ ap (λ (q : ℕ). elim q [ zero ↦ digit (n % b) ∷ [] | suc p ↦ digits j b (n / b) (digit (n % b) ∷ []) ]) z

pub more_digits : (k j b n : ℕ) → k ≡ suc j → 0 < n / b → digits k b n [] ≡ digits j b (n / b) [] ++ digit (n % b) ∷ []
more_digits k j b n e h =
    let q : n / b ≡ suc (n / b - 1) = omega (arith, h) in
    ap (λ i. digits i b n []) e
    ∙ ap (λ (q : ℕ). elim q [ zero ↦ digit (n % b) ∷ [] | suc p ↦ digits j b (n / b) (digit (n % b) ∷ []) ]) q
    ∙ digits_after j b (n / b) (digit (n % b) ∷ [])

-- ---- formats

pub drop_one : (xs : List ℕ) (i : ℕ) → i < length xs → drop i xs ≡ get_or xs i 0 ∷ drop (i + 1) xs
drop_one [] i h = absurd (omega (arith, h))
drop_one (y ∷ xs) zero h = refl
drop_one (y ∷ xs) (suc i) h = drop_one xs i (omega (arith, h)) ∙ ap (λ k. get_or xs i 0 ∷ drop k (y ∷ xs)) (let s : suc (i + 1) ≡ suc i + 1 = omega arith in s)

pub first_dropped : (values : List ℕ) (t : ℕ) → first_of_values (drop t values) ≡ slice_index values t
first_dropped [] zero = refl
first_dropped [] (suc t) = refl
first_dropped (v ∷ vs) zero = refl
first_dropped (v ∷ vs) (suc t) = first_dropped vs t

pub later_dropped : (values : List ℕ) (t : ℕ) → later_values (drop t values) ≡ drop (t + 1) values
later_dropped [] zero = refl
later_dropped [] (suc t) = let e : suc t + 1 ≡ suc (t + 1) = omega arith in ap (λ k. drop k []) (sym e)
later_dropped (v ∷ vs) zero = refl
later_dropped (v ∷ vs) (suc t) = let e : suc t + 1 ≡ suc (t + 1) = omega arith in later_dropped vs t ∙ ap (λ k. drop k (v ∷ vs)) (sym e)

percent : (b : ℕ) → b ≡ 37 → (b == 37) ≡ true
percent b e = ap (λ x. x == 37) e

module _ (bs values : List ℕ) (b : ℕ) where
  pub sign_begins : b ≡ 37 → printed_from false (b ∷ bs) values ≡ printed_from true bs values
  sign_begins e = ap (λ (t : Bool). elim t [ true ↦ printed_from true bs values | false ↦ b ∷ printed_from false bs values ]) (percent b e)

  pub byte_is : (b == 37) ≡ false → printed_from false (b ∷ bs) values ≡ b ∷ printed_from false bs values
  byte_is e = ap (λ (t : Bool). elim t [ true ↦ printed_from true bs values | false ↦ b ∷ printed_from false bs values ]) e

  pub sign_is : b ≡ 37 → printed_from true (b ∷ bs) values ≡ b ∷ printed_from false bs values
  sign_is e =
      ap (λ (t : Bool). elim t [ true ↦ 37 ∷ printed_from false bs values | false ↦ converted b (first_of_values values) ++ printed_from false bs (later_values values) ]) (percent b e)
      ∙ ap (λ x. x ∷ printed_from false bs values) (sym e)

  pub value_is : (b == 37) ≡ false → printed_from true (b ∷ bs) values ≡ converted b (first_of_values values) ++ printed_from false bs (later_values values)
  value_is e =
      ap (λ (t : Bool). elim t [ true ↦ 37 ∷ printed_from false bs values | false ↦ converted b (first_of_values values) ++ printed_from false bs (later_values values) ]) e

-- what is printed already, and what is still to come
pub next_shown : (text values out out2 shown whole : List ℕ) (i t t2 : ℕ) (a a2 : Bool) → i < length text → out ++ printed_from a (drop i text) (drop t values) ≡ whole
    → printed_from a (get_or text i 0 ∷ drop (i + 1) text) (drop t values) ≡ shown ++ printed_from a2 (drop (i + 1) text) (drop t2 values) → out2 ≡ out ++ shown
    → out2 ++ printed_from a2 (drop (i + 1) text) (drop t2 values) ≡ whole
next_shown text values out out2 shown whole i t t2 a a2 lt h r n =
    ap (λ l. l ++ printed_from a2 (drop (i + 1) text) (drop t2 values)) n
    ∙ append_assoc out shown (printed_from a2 (drop (i + 1) text) (drop t2 values))
    ∙ ap (λ l. out ++ l) (sym r)
    ∙ ap (λ l. out ++ printed_from a l (drop t values)) (sym (drop_one text i lt))
    ∙ h
