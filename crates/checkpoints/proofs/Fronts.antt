-- The worlds with at most k events stand first.
use Rattle.std.proofs.Common.{◌≡◌, ℕ, zero, suc, ◌+◌, ◌-◌, ◌<◌, ◌≤◌, true, false, List, [], ◌∷◌, length, take, slice_index_or, refl, sym, ap, ◌∙◌, subst, arith, ⊎_elim}
use Rattle.std.specs.Prelude.{All, nat_le, cond, Some, slice_get}
use Rattle.std.specs.List.{AllPairs}
use Rattle.std.proofs.lemmas.Bool.{cases_lt}
use Rattle.std.proofs.lemmas.Option.{same_Some, slice_get-get_or}
use Rattle.std.proofs.lemmas.List.{take_all, get_or_default}
use Rattle.std.proofs.lemmas.List.Elements.{All-tail}
use Rattle.world.specs.Worlds.{Parts}
use Rattle.checkpoints.specs.Kept.{up_to}
use Rattle.checkpoints.proofs.Thinning.{pairs_first, pairs_rest}

test_true : (k n : ℕ) → n ≤ k → nat_le n k ≡ true
test_true k n le = search arith

test_false : (k n : ℕ) → k < n → nat_le n k ≡ false
test_false k n lt = search arith

module _ {P M : Type 0} (k : ℕ) where
  kept_first : (w : Parts P M) (xs : List (Parts P M)) → w.events ≤ k → up_to k (w ∷ xs) ≡ w ∷ up_to k xs
  kept_first w xs le = ap (λ b. cond b (w ∷ up_to k xs) (up_to k xs)) (test_true k w.events le)

  none_left : (xs : List (Parts P M)) → All (λ w. k < w.events) xs → up_to k xs ≡ []
  none_left [] h = refl
  none_left (w ∷ xs) h =
      ap (λ b. cond b (w ∷ up_to k xs) (up_to k xs)) (test_false k w.events (h 0 w (omega arith)))
      ∙ none_left xs (All-tail (λ v. k < v.events) w xs h)

  pub all_are : (xs : List (Parts P M)) → All (λ w. w.events ≤ k) xs → xs ≡ up_to k xs
  all_are [] h = refl
  all_are (w ∷ xs) h =
      ap (λ l. w ∷ l) (all_are xs (All-tail (λ v. v.events ≤ k) w xs h)) ∙ sym (kept_first w xs (h 0 w (omega arith)))

  -- the n-th is the first with more than k events
  pub front_is : (xs : List (Parts P M)) (n : ℕ) (d : Parts P M) → AllPairs (λ v w. v.events < w.events) xs
      → n < length xs
      → k < (slice_index_or xs n d).events → ((i : ℕ) → i < n → (slice_index_or xs i d).events ≤ k)
      → take n xs ≡ up_to k xs
  front_is [] n d rises lt more first = absurd (omega (arith, lt))
  front_is (w ∷ xs) zero d rises lt more first =
      let behind = pairs_first (λ v u. v.events < u.events) w xs rises in
      sym (ap (λ b. cond b (w ∷ up_to k xs) (up_to k xs)) (test_false k w.events more)
      ∙ none_left xs (λ i e within. omega (arith, more, behind i e within)))
  front_is (w ∷ xs) (suc n) d rises lt more first =
      let rises = pairs_rest (λ v u. v.events < u.events) w xs rises in
      let rest = front_is xs n d rises (omega (arith, lt)) more (λ i below. first (suc i) (omega (arith, below))) in
      ap (λ l. w ∷ l) rest ∙ sym (kept_first w xs (first 0 (omega arith)))

  pub all_front : (xs : List (Parts P M)) (n : ℕ) → length xs ≤ n
      → ((i : ℕ) (d : Parts P M) → i < n → (slice_index_or xs i d).events ≤ k) → take n xs ≡ up_to k xs
  all_front xs n le h = take_all n xs le ∙ all_are xs (λ i d lt. h i d (omega (arith, lt, le)))

  -- the n-th has no more than k events either
  pub one_more_few : (xs : List (Parts P M)) (n : ℕ) (e : Parts P M) → n < length xs
      → (slice_index_or xs n e).events ≤ k
      → ((i : ℕ) (d : Parts P M) → i < n → (slice_index_or xs i d).events ≤ k)
      → (i : ℕ) (d : Parts P M) → i < n + 1 → (slice_index_or xs i d).events ≤ k
  one_more_few xs n e lt few first i d below =
      ⊎_elim (λ before. first i d before)
      (λ last. let at : i ≡ n = omega (arith, below, last) in
      subst (λ j. (slice_index_or xs j d).events ≤ k) (sym at)
      (subst (λ w. w.events ≤ k) (get_or_default xs n e d lt) few))
      (cases_lt i n)

-- the last has the most events
pub last_is_longest : {P M : Type 0} (xs : List (Parts P M)) (v : Parts P M) → AllPairs (λ v w. v.events < w.events) xs
    → 0 < length xs
    → v ≡ slice_index_or xs (length xs - 1) v → All (λ w. w.events ≤ v.events) xs
last_is_longest xs v rises some is i d within =
    ⊎_elim (λ before. let lt = rises i (length xs - 1) v before (omega (arith, some)) in
    subst (λ w. w.events ≤ v.events) (get_or_default xs i v d within) (omega (arith, lt, ap (λ w. w.events) is)))
    (λ last. let at : i ≡ length xs - 1 = omega (arith, within, last) in
    subst (λ j. (slice_index_or xs j d).events ≤ v.events) (sym at)
    (subst (λ w. w.events ≤ v.events) (get_or_default xs (length xs - 1) v d (omega (arith, some)))
    (subst (λ w. w.events ≤ v.events) is (omega arith))))
    (cases_lt i (length xs - 1))

pub longest_from_last : {P M : Type 0} (xs : List (Parts P M)) (v : Parts P M)
    → AllPairs (λ v w. v.events < w.events) xs → Some v ≡ slice_get xs (length xs - 1)
    → All (λ w. w.events ≤ v.events) xs
longest_from_last [] v rises e = λ k d lt. absurd (omega (arith, lt))
longest_from_last (x ∷ xs) v rises e =
    last_is_longest (x ∷ xs) v rises (omega arith)
    (same_Some _ _ (e ∙ slice_get-get_or (x ∷ xs) (length (x ∷ xs) - 1) v (omega arith)))
