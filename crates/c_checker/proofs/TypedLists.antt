-- Lists that begin with others, and tests of several parts.
use Rattle.std.proofs.Common.{◌≡◌, ℕ, zero, suc, Bool, true, false, List, [], ◌∷◌, ◌++◌, length, Some, refl, sym, ap, ◌∙◌, append_assoc}
use Rattle.std.specs.Prelude.{◌&&◌, not, slice_get}
use Rattle.std.proofs.lemmas.List.{append-nil}
use Rattle.c_checker.specs.declared.fault.CheckFault.{CheckFault}
use Rattle.c_checker.specs.Found.{unless}

-- ---- tests

pub both_true : (a b : Bool) → (a && b) ≡ true → (a ≡ true) × (b ≡ true)
both_true true b h = (refl, h)
both_true false b h = cc

pub and_true : {a b : Bool} → a ≡ true → b ≡ true → (a && b) ≡ true
and_true {a = a} {b = b} h g = ap (λ x. x && b) h ∙ g

pub not_true : (a : Bool) → not a ≡ true → a ≡ false
not_true true h = sym h
not_true false h = refl

pub not_false : (a : Bool) → a ≡ false → not a ≡ true
not_false a h = ap not h

-- ---- lists

pub record Front {A : Type 0} (a b : List A) : Type 0 where
  pub rest : List A
  pub is : b ≡ a ++ rest

pub front_same : {A : Type 0} (a : List A) → Front a a
front_same a = record { rest = []; is = sym (append-nil a) }

pub front_more : {A : Type 0} (a b : List A) → Front a (a ++ b)
front_more a b = record { rest = b; is = refl }

pub front_then : {A : Type 0} {a b c : List A} → Front a b → Front b c → Front a c
front_then {a = a} h g = record { rest = h.rest ++ g.rest; is = g.is ∙ ap (λ x. x ++ g.rest) h.is ∙ append_assoc a h.rest g.rest }

get_left : {A : Type 0} (xs ys : List A) (i : ℕ) (x : A) → slice_get xs i ≡ Some x → slice_get (xs ++ ys) i ≡ Some x
get_left [] ys i x h = cc
get_left (y ∷ xs) ys zero x h = h
get_left (y ∷ xs) ys (suc i) x h = get_left xs ys i x h

pub front_get : {A : Type 0} {a b : List A} (i : ℕ) (x : A) → Front a b → slice_get a i ≡ Some x → slice_get b i ≡ Some x
front_get {a = a} i x f h = ap (λ l. slice_get l i) f.is ∙ get_left a f.rest i x h

-- the first after some
pub get_next : {A : Type 0} (xs : List A) (x : A) (ys : List A) → slice_get (xs ++ x ∷ ys) (length xs) ≡ Some x
get_next [] x ys = refl
get_next (y ∷ xs) x ys = get_next xs x ys

-- an added one, in a longer list
pub front_last : {A : Type 0} (xs : List A) (x : A) {b : List A} → Front (xs ++ x ∷ []) b → slice_get b (length xs) ≡ Some x
front_last xs x f = front_get (length xs) x f (get_next xs x [])

pub nil_left : {A : Type 0} (a b : List A) → a ++ b ≡ [] → a ≡ []
nil_left [] b h = refl
nil_left (x ∷ a) b h = cc

pub nil_right : {A : Type 0} (a b : List A) → a ++ b ≡ [] → b ≡ []
nil_right [] b h = h
nil_right (x ∷ a) b h = cc

pub not_nil : {A : Type 0} (x : A) (a b : List A) → (x ∷ a) ++ b ≡ [] → ⊥
not_nil x a b h = cc

pub unless_none : (b : Bool) (f : CheckFault) → unless b f ≡ [] → b ≡ true
unless_none true f h = refl
unless_none false f h = cc
