-- A list whose elements fit, split at one of them.
use Rattle.std.proofs.Common.{◌≡◌, length, List, [], ◌∷◌, ◌++◌, refl, sym, ap, ◌∙◌, subst, inl, inr, arith, append_assoc}
use Rattle.std.specs.Prelude.{Contains, ◌⊎◌}
use Rattle.std.proofs.lemmas.List.{length_push, same_from_push, append-nil}
use mathlib.Core.Path.{subst₂}
use Rattle.std.proofs.lemmas.List.Elements.{Contains-append_left, Contains-push_cases}
use Rattle.event_list.proofs.Members.{cons_cases}
use Rattle.nm_base.specs.Fitting.{EachFits, none, more}

-- the elements before x fit, and x fits them
pub record SplitAt {X : Type 0} (Fits : List X → X → Type 0) (xs : List X) (x : X) : Type 0 where
  pub before : List X
  pub after : List X
  pub whole : xs ≡ before ++ (x ∷ after)
  pub begins : EachFits Fits before
  pub fits : Fits before x

pub split_at : {X : Type 0} {Fits : List X → X → Type 0} {xs : List X} → EachFits Fits xs → (x : X) → Contains xs x → SplitAt Fits xs x
split_at none x h = absurd (omega (arith, h.1))
split_at {Fits = Fits} (more {xs = ys} {x = y} g f) x h =
    elim (Contains-push_cases ys y x h) [
      | inl o ↦ let ih = split_at g x o in
          record { before = ih.before; after = ih.after ++ y ∷ []; whole = ap (λ zs. zs ++ y ∷ []) ih.whole ∙ append_assoc ih.before (x ∷ ih.after) (y ∷ []); begins = ih.begins; fits = ih.fits }
      | inr n ↦ record { before = ys; after = []; whole = ap (λ z. ys ++ z ∷ []) n; begins = g; fits = subst (λ z. Fits ys z) n f }
    ]

-- an element before it is in the list
pub from_before : {X : Type 0} {Fits : List X → X → Type 0} {xs : List X} {x : X} (c : SplitAt Fits xs x) (y : X) → Contains c.before y → Contains xs y
from_before {x = x} c y h = rw c.whole (Contains-append_left c.before (x ∷ c.after) y h)

-- the list without its last element
last_of : {X : Type 0} {Fits : List X → X → Type 0} {zs : List X} → EachFits Fits zs → (xs : List X) (x : X) → zs ≡ xs ++ x ∷ [] → EachFits Fits xs × Fits xs x
last_of none xs x e = absurd (omega (arith, ap length e, length_push xs x))
last_of {Fits = Fits} (more {xs = ys} {x = y} g f) xs x e =
    let s = same_from_push ys xs y x e in
    (subst (EachFits Fits) s.0 g, subst₂ Fits s.0 s.1 f)

pub front : {X : Type 0} {Fits : List X → X → Type 0} (xs : List X) (x : X) → EachFits Fits (xs ++ x ∷ []) → EachFits Fits xs
front xs x g = (last_of g xs x refl).0

pub last : {X : Type 0} {Fits : List X → X → Type 0} (xs : List X) (x : X) → EachFits Fits (xs ++ x ∷ []) → Fits xs x
last xs x g = (last_of g xs x refl).1

-- a list is empty, or has a last element
pub snoc_view : {X : Type 0} (xs : List X) → (xs ≡ []) ⊎ ((ys : List X) × (y : X) × (xs ≡ ys ++ y ∷ []))
snoc_view [] = inl refl
snoc_view (x ∷ xs) = elim (snoc_view xs) [
  | inl e ↦ inr ([], x, ap (λ l. x ∷ l) e)
  | inr r ↦ inr (x ∷ r.0, r.1, ap (λ l. x ∷ l) r.2)
]

nil_front : {X : Type 0} (xs ys : List X) → [] ≡ xs ++ ys → [] ≡ xs
nil_front [] ys e = refl
nil_front (x ∷ xs) ys e = cc

prefix_of : {X : Type 0} {Fits : List X → X → Type 0} {zs : List X} → EachFits Fits zs → (xs ys : List X) → zs ≡ xs ++ ys → EachFits Fits xs
prefix_of {Fits = Fits} none xs ys e = subst (EachFits Fits) (nil_front xs ys e) none
prefix_of {Fits = Fits} (more {xs = zs} {x = z} g f) xs ys e = elim (snoc_view ys) [
  | inl n ↦ subst (EachFits Fits) (e ∙ ap (λ l. xs ++ l) n ∙ append-nil xs) (more g f)
  | inr r ↦ prefix_of g xs r.0 (same_from_push zs (xs ++ r.0) z r.1 (e ∙ ap (λ l. xs ++ l) r.2 ∙ sym (append_assoc xs r.0 (r.1 ∷ [])))).0
]

-- the first elements fit
pub prefix : {X : Type 0} {Fits : List X → X → Type 0} (xs ys : List X) → EachFits Fits (xs ++ ys) → EachFits Fits xs
prefix xs ys g = prefix_of g xs ys refl

-- a list splits at each of its elements
pub contains_split : {X : Type 0} (xs : List X) (x : X) → Contains xs x → (ys : List X) × (zs : List X) × (xs ≡ ys ++ (x ∷ zs))
contains_split [] x h = absurd (omega (arith, h.1))
contains_split (y ∷ xs) x h = elim (cons_cases y xs x h) [
  | inl e ↦ ([], xs, ap (λ z. z ∷ xs) e)
  | inr o ↦ let r = contains_split xs x o in (y ∷ r.0, r.1, ap (λ l. y ∷ l) r.2)
]
