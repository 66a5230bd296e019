-- What is kept stays in order when one more is kept and when some are dropped.
use Rattle.std.proofs.Common.{◌≡◌, ℕ, ◌<◌, ◌≤◌, Bool, true, false, List, [], ◌∷◌, ◌++◌, length, take, slice_index_or, refl, sym, subst, arith}
use Rattle.std.specs.Prelude.{nat_lt, cond}
use Rattle.std.specs.List.{AllPairs}
use Rattle.std.proofs.lemmas.Bool.{ltb-true}
use Rattle.std.proofs.lemmas.List.{length-append, length-take, get_or-take}
use Rattle.std.proofs.lemmas.List.Quantifiers.{all_pairs_push}
use Rattle.world.specs.Worlds.{Parts}
use Rattle.checkpoints.specs.Kept.{AreKept, AreBelow, evens, thinned}
use Rattle.checkpoints.proofs.Thinning.{length_evens, all_evens, pairs_evens}

module _ {P M : Type 0} where
  push_kept : (xs : List (Parts P M)) (w : Parts P M) → AllPairs (λ v u. v.events < u.events) xs
      → AreBelow w.events xs → length xs < 16
      → AreKept (xs ++ w ∷ [])
  push_kept xs w rises below room = record {
    rises = all_pairs_push (λ v u. v.events < u.events) xs w rises below;
    few = omega (arith, length-append xs (w ∷ []), room);
  }

  pub kept_one_more : (xs : List (Parts P M)) (w : Parts P M) → AreKept xs → AreBelow w.events xs
      → AreKept (thinned xs ++ w ∷ [])
  kept_one_more xs w h below = by (nat_lt (length xs) 16) refl
    where
      by : (b : Bool) → nat_lt (length xs) 16 ≡ b → AreKept ((cond b xs (evens xs)) ++ w ∷ [])
      by true e = push_kept xs w h.rises below (ltb-true (length xs) 16 e)
      by false e = push_kept (evens xs) w (pairs_evens (λ v u. v.events < u.events) xs h.rises)
          (all_evens (λ v. v.events < w.events) xs below) (omega (arith, length_evens xs, h.few))

  pub kept_front : (xs : List (Parts P M)) (n : ℕ) → n ≤ length xs → AreKept xs → AreKept (take n xs)
  kept_front xs n le h = record {
    rises = λ i j d lt within.
        let short = length-take n xs in
        subst (λ v. v.events < (slice_index_or (take n xs) j d).events)
        (sym (get_or-take n xs i d (omega (arith, lt, within, short))))
        (subst (λ v. (slice_index_or xs i d).events < v.events)
        (sym (get_or-take n xs j d (omega (arith, within, short)))) (h.rises i j d lt (omega (arith, within, short))));
    few = omega (arith, length-take n xs, h.few);
  }
