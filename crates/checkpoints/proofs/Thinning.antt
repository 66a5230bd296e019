-- What is left of a list where every other element goes.
use Rattle.std.proofs.Common.{◌≡◌, ℕ, zero, suc, ◌+◌, ◌*◌, ◌≤◌, ◌<◌, List, [], ◌∷◌, ◌++◌, length, take, drop, refl, ap, ◌∙◌, arith}
use Rattle.std.specs.Prelude.{All, slice_index_or, slice_set}
use Rattle.std.specs.List.{AllPairs, swap}
use Rattle.std.proofs.lemmas.List.{append-nil, drop_all}
use Rattle.std.proofs.lemmas.List.Elements.{All-cons, All-head, All-tail}
use Rattle.checkpoints.specs.Kept.{evens}

module _ {A : Type 0} where
  -- the first i are kept, and every other one from j on will be
  abbrev pub left_at : ℕ → ℕ → List A → List A
  left_at i j xs = take i xs ++ evens (drop j xs)

  -- the i-th and the j-th element in each other's place
  abbrev exchanged : A → List A → ℕ → ℕ → List A
  exchanged d xs i j = slice_set (slice_set xs i (slice_index_or xs j d)) j (slice_index_or xs i d)

  evens_from : (d x : A) (xs : List A) (j : ℕ) → j < length xs
      → slice_index_or xs j d ∷ evens (drop (suc (suc j)) (slice_set xs j x)) ≡ evens (drop j xs)
  evens_from d x [] j lt = absurd (omega (arith, lt))
  evens_from d x (y ∷ []) zero lt = refl
  evens_from d x (y ∷ z ∷ xs) zero lt = refl
  evens_from d x (y ∷ xs) (suc j) lt = evens_from d x xs j (omega (arith, lt))

  exchange : (d : A) (xs : List A) (i j : ℕ) → i ≤ j → j < length xs
      → left_at (suc i) (suc (suc j)) (exchanged d xs i j) ≡ left_at i j xs
  exchange d [] i j le lt = absurd (omega (arith, lt))
  exchange d (x ∷ []) zero zero le lt = refl
  exchange d (x ∷ y ∷ xs) zero zero le lt = refl
  exchange d (x ∷ xs) zero (suc j) le lt = evens_from d x xs j (omega (arith, lt))
  exchange d (x ∷ xs) (suc i) zero le lt = absurd (omega (arith, le))
  exchange d (x ∷ xs) (suc i) (suc j) le lt = ap (λ l. x ∷ l) (exchange d xs i j (omega (arith, le)) (omega (arith, lt)))

  pub one_kept : (xs : List A) (i j : ℕ) → i ≤ j → j < length xs
      → left_at (suc i) (suc (suc j)) (swap xs i j) ≡ left_at i j xs
  one_kept [] i j le lt = absurd (omega (arith, lt))
  one_kept (x ∷ xs) i j le lt = exchange x (x ∷ xs) i j le lt

  pub all_kept : (xs : List A) (i j : ℕ) → length xs ≤ j → left_at i j xs ≡ take i xs
  all_kept xs i j le = ap (λ l. take i xs ++ evens l) (drop_all j xs le) ∙ append-nil (take i xs)

  pub length_evens : (xs : List A) → 2 * length (evens xs) ≤ length xs + 1
  length_evens [] = omega arith
  length_evens (x ∷ []) = omega arith
  length_evens (x ∷ y ∷ xs) = omega (arith, length_evens xs)

  pub all_evens : (P : A → Type 0) (xs : List A) → All P xs → All P (evens xs)
  all_evens P [] h = h
  all_evens P (x ∷ []) h = h
  all_evens P (x ∷ y ∷ xs) h =
      All-cons P x (evens xs) (All-head P x (y ∷ xs) h) (all_evens P xs (All-tail P y xs (All-tail P x (y ∷ xs) h)))

  module _ (R : A → A → Type 0) where
    pub pairs_first : (x : A) (xs : List A) → AllPairs R (x ∷ xs) → All (R x) xs
    pairs_first x xs h k d lt = h 0 (suc k) d (omega arith) (omega (arith, lt))

    pub pairs_rest : (x : A) (xs : List A) → AllPairs R (x ∷ xs) → AllPairs R xs
    pairs_rest x xs h i j d lt within = h (suc i) (suc j) d (omega (arith, lt)) (omega (arith, within))

    pub pairs_more : (x : A) (xs : List A) → All (R x) xs → AllPairs R xs → AllPairs R (x ∷ xs)
    pairs_more x xs first rest zero zero d lt within = absurd (omega (arith, lt))
    pairs_more x xs first rest zero (suc j) d lt within = first j d (omega (arith, within))
    pairs_more x xs first rest (suc i) zero d lt within = absurd (omega (arith, lt))
    pairs_more x xs first rest (suc i) (suc j) d lt within = rest i j d (omega (arith, lt)) (omega (arith, within))

    pub pairs_evens : (xs : List A) → AllPairs R xs → AllPairs R (evens xs)
    pairs_evens [] h = h
    pairs_evens (x ∷ []) h = h
    pairs_evens (x ∷ y ∷ xs) h =
        let rest = pairs_rest x (y ∷ xs) h in
        pairs_more x (evens xs) (all_evens (R x) xs (All-tail (R x) y xs (pairs_first x (y ∷ xs) h)))
        (pairs_evens xs (pairs_rest y xs rest))
