-- The texts of the elements of a list, one after the other.
use Rattle.std.proofs.Common.{◌≡◌, ℕ, ◌+◌, ◌<◌, List, [], ◌∷◌, ◌++◌, length, take, drop, get_or, Option, Result, Ok, Err, refl, sym, ap, ◌∙◌, subst, append_assoc, append-nil}
use Rattle.std.specs.Prelude.{⊤}
use Rattle.std.specs.Result.{IsErr}
use Rattle.std.specs.List.{flat_map}
use Rattle.std.proofs.lemmas.List.{take-append-drop, take_more}
use Rattle.nm_outside.specs.declared.cabinet.Failed.{Failed}
use Rattle.report.specs.Printing.{Prints}
use Rattle.report.proofs.Pieces.{prints_more, failed_first}

pub flat_append : {A : Type 0} (f : A → List ℕ) (xs ys : List A) → flat_map f (xs ++ ys) ≡ flat_map f xs ++ flat_map f ys
flat_append f [] ys = refl
flat_append f (x ∷ xs) ys = ap (λ (zs : List ℕ). f x ++ zs) (flat_append f xs ys) ∙ sym (append_assoc (f x) (flat_map f xs) (flat_map f ys))

flat_more : {A : Type 0} (f : A → List ℕ) (xs : List A) (i : ℕ) (d : A) → i < length xs → flat_map f (take (i + 1) xs) ≡ flat_map f (take i xs) ++ f (get_or xs i d)
flat_more f xs i d low =
    ap (flat_map f) (take_more xs i d low) ∙ flat_append f (take i xs) (get_or xs i d ∷ [])
    ∙ ap (λ (zs : List ℕ). flat_map f (take i xs) ++ zs) (append-nil (f (get_or xs i d)))

flat_all : {A : Type 0} (f : A → List ℕ) (xs : List A) (i : ℕ) → flat_map f xs ≡ flat_map f (take i xs) ++ flat_map f (drop i xs)
flat_all f xs i = ap (flat_map f) (sym (take-append-drop i xs)) ∙ flat_append f (take i xs) (drop i xs)

module _ {A : Type 0} (a b c : Option (List ℕ)) (f g h : ℕ) (text_of : A → List ℕ) (xs : List A) (i : ℕ) (d : A) (low : i < length xs)
    (before : Prints a b f g (flat_map text_of (take i xs)) (Ok tt)) where
  pub each_more : (r : Result ⊤ Failed) → r ≡ Ok tt → Prints b c g h (text_of (get_or xs i d)) r → Prints a c f h (flat_map text_of (take (i + 1) xs)) (Ok tt)
  each_more r is one =
      let more = prints_more a b c f g h (flat_map text_of (take i xs)) (text_of (get_or xs i d)) (Ok tt) before (subst (Prints b c g h (text_of (get_or xs i d))) is one) in
      subst (λ t. Prints a c f h t (Ok tt)) (sym (flat_more text_of xs i d low)) more

  pub each_failed : (r s : Result ⊤ Failed) (e : Failed) → r ≡ Err e → IsErr s → Prints b c g h (text_of (get_or xs i d)) r → Prints a c f h (flat_map text_of xs) s
  each_failed r s e is fails one =
      let so_far = flat_map text_of (take i xs) ++ text_of (get_or xs i d) in
      let more = prints_more a b c f g h (flat_map text_of (take i xs)) (text_of (get_or xs i d)) r before one in
      let all = flat_all text_of xs (i + 1) ∙ ap (λ (zs : List ℕ). zs ++ flat_map text_of (drop (i + 1) xs)) (flat_more text_of xs i d low) in
      subst (λ t. Prints a c f h t s) (sym all) (failed_first a c f h so_far (flat_map text_of (drop (i + 1) xs)) r s e is fails more)
