-- A seat that is taken out of its row, and put back.
use Rattle.std.proofs.Common.{◌≡◌, ℕ, zero, suc, ◌+◌, ◌-◌, ◌<◌, List, [], ◌∷◌, ◌++◌, length, length-append, length-set, take, set, get_or, get_or-set_same, refl, sym, ap, ◌∙◌, subst, inl, inr, arith}
use Rattle.std.specs.Prelude.{map}
use Rattle.std.specs.List.{swap, swap_remove}
use Rattle.std.proofs.Math.Seq.{set-append_seam, take-append_seam, get_or-append_seam}
use Rattle.std.proofs.Math.ListN.{get_or-append}
use Rattle.std.proofs.lemmas.Bool.{cases_lt}
use Rattle.std.proofs.lemmas.List.{set-append_left}
use Rattle.std.proofs.lemmas.List.Edits.{swap_is}
use Rattle.world.proofs.Places.{map_length}

-- the last element apart
last_apart : {X : Type 0} (xs : List X) → 0 < length xs → (ys : List X) × (z : X) × (xs ≡ ys ++ z ∷ [])
last_apart [] h = absurd (omega (arith, h))
last_apart (x ∷ []) h = ([], x, refl)
last_apart (x ∷ y ∷ xs) h = let r = last_apart (y ∷ xs) (omega arith) in (x ∷ r.0, r.1, ap (λ zs. x ∷ zs) r.2)

set_twice : {X : Type 0} (xs : List X) (i : ℕ) (u v : X) → set (set xs i u) i v ≡ set xs i v
set_twice [] i u v = refl
set_twice (x ∷ xs) zero u v = refl
set_twice (x ∷ xs) (suc i) u v = ap (λ ys. x ∷ ys) (set_twice xs i u v)

-- the element at i was taken out, where the last one stands in for it; another is put there, and the last one back
module _ {X : Type 0} (ys : List X) (z : X) (d y : X) where
  abbrev xs : List X
  xs = ys ++ z ∷ []

  taken_out : (i : ℕ) → swap_remove xs i d ≡ take (length ys) (set xs i z)
  taken_out i =
      let n : length xs - 1 ≡ length ys = omega (arith, length-append ys (z ∷ [])) in
      ap (λ k. take k (set xs i (get_or xs k d))) n ∙ ap (λ v. take (length ys) (set xs i v)) (get_or-append_seam ys z [] d)

  put_before : (i : ℕ) → i < length ys → swap (swap_remove xs i d ++ y ∷ []) i (length ys) ≡ set xs i y
  put_before i l =
      let us = set ys i z in
      let m : length us ≡ length ys = length-set ys i z in
      let ws = us ++ y ∷ [] in
      let within : i < length us = omega (arith, l, m) in
      let front : swap_remove xs i d ≡ us =
      taken_out i ∙ ap (take (length ys)) (set-append_left ys (z ∷ []) i z l) ∙ ap (λ k. take k (us ++ z ∷ [])) (sym m) ∙ take-append_seam us (z ∷ []) in
      let at_end : get_or ws (length ys) d ≡ y = ap (λ k. get_or ws k d) (sym m) ∙ get_or-append_seam us y [] d in
      let at_place : get_or ws i d ≡ z = get_or-append us (y ∷ []) d i within ∙ get_or-set_same ys i z d l in
      let placed : set ws i y ≡ set ys i y ++ y ∷ [] = set-append_left us (y ∷ []) i y within ∙ ap (λ vs. vs ++ y ∷ []) (set_twice ys i z y) in
      let m' : length (set ys i y) ≡ length ys = length-set ys i y in
      ap (λ vs. swap (vs ++ y ∷ []) i (length ys)) front
      ∙ sym (swap_is ws i (length ys) d (omega (arith, within, length-append us (y ∷ []))) (omega (arith, m, length-append us (y ∷ []))))
      ∙ ap (λ v. set (set ws i v) (length ys) (get_or ws i d)) at_end ∙ ap (λ v. set (set ws i y) (length ys) v) at_place
      ∙ ap (λ vs. set vs (length ys) z) placed ∙ ap (λ k. set (set ys i y ++ y ∷ []) k z) (sym m') ∙ set-append_seam (set ys i y) y [] z
      ∙ sym (set-append_left ys (z ∷ []) i y l)

  put_last : swap (swap_remove xs (length ys) d ++ y ∷ []) (length ys) (length ys) ≡ set xs (length ys) y
  put_last =
      let m = length ys in
      let ws = ys ++ y ∷ [] in
      let front : swap_remove xs m d ≡ ys = taken_out m ∙ ap (take m) (set-append_seam ys z [] z) ∙ take-append_seam ys (z ∷ []) in
      let at_end : get_or ws m d ≡ y = get_or-append_seam ys y [] d in
      let within : m < length ws = omega (arith, length-append ys (y ∷ [])) in
      ap (λ vs. swap (vs ++ y ∷ []) m m) front
      ∙ sym (swap_is ws m m d within within)
      ∙ ap (λ v. set (set ws m v) m v) at_end
      ∙ ap (λ vs. set vs m y) (set-append_seam ys y [] y) ∙ set-append_seam ys y [] y
      ∙ sym (set-append_seam ys z [] y)

  put_again : (i : ℕ) → i < length xs → swap (swap_remove xs i d ++ y ∷ []) i (length ys) ≡ set xs i y
  put_again i l = elim (cases_lt i (length ys)) [
    | inl h ↦ put_before i h
    | inr h ↦ let e : i ≡ length ys = omega (arith, l, h, length-append ys (z ∷ [])) in subst (λ j. swap (swap_remove xs j d ++ y ∷ []) j (length ys) ≡ set xs j y) (sym e) put_last
  ]

back_again : {X : Type 0} (xs : List X) (i k : ℕ) (d y : X) → i < length xs → k + 1 ≡ length xs → swap (swap_remove xs i d ++ y ∷ []) i k ≡ set xs i y
back_again xs i k d y l h =
    let r = last_apart xs (omega (arith, l)) in
    let n : k ≡ length r.0 = omega (arith, h, ap length r.2, length-append r.0 (r.1 ∷ [])) in
    ap (λ k. swap (swap_remove xs i d ++ y ∷ []) i k) n
    ∙ ap (λ xs. swap (swap_remove xs i d ++ y ∷ []) i (length r.0)) r.2 ∙ put_again r.0 r.1 d y i (omega (arith, l, ap length r.2)) ∙ ap (λ xs. set xs i y) (sym r.2)

map_set : {X Y : Type 0} (f : X → Y) (xs : List X) (i : ℕ) (y : X) → map f (set xs i y) ≡ set (map f xs) i (f y)
map_set f [] i y = refl
map_set f (x ∷ xs) zero y = refl
map_set f (x ∷ xs) (suc i) y = ap (λ ys. f x ∷ ys) (map_set f xs i y)

-- another seat is put at the place of the one that was taken out
pub is_there : {S P : Type 0} (f : S → P) (xs : List S) (now : List P) (i : ℕ) → map f xs ≡ now → i < length now → (zs ys : List S) (k : ℕ) (d y : S) → zs ≡ swap_remove xs i d → ys ≡ swap (zs ++ y ∷ []) i k → k + 1 ≡ length xs → map f ys ≡ set now i (f y)
is_there f xs now i seen below zs ys k d y r h n =
    let inside : i < length xs = omega (arith, below, ap length seen, map_length f xs) in
    ap (map f) (h ∙ ap (λ zs. swap (zs ++ y ∷ []) i k) r ∙ back_again xs i k d y inside n) ∙ map_set f xs i y ∙ ap (λ ps. set ps i (f y)) seen
