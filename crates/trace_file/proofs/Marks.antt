-- What is looked up beside the entries, when one more comes.
use Rattle.std.proofs.Common.{◌≡◌, ℕ, suc, zero, ◌+◌, ◌<◌, ◌≤◌, max, Bool, true, false, cond, ◌||◌, ◌&&◌, not, eqb, ltb, leb, List, [], ◌∷◌, ◌++◌, length, map, set, get_or, refl, sym, ap, ◌∙◌, subst, arith, get_or-set_same, get_or-set_other, inl, inr, eq-eqb, append_assoc}
use Rattle.std.specs.List.{list_any}
use Rattle.std.proofs.lemmas.Bool.{le-ltb, cases_eq, ne_eqb}
use Rattle.std.proofs.lemmas.List.{map-append}
use Rattle.std.proofs.lemmas.Bool.Decides.{nat_tests}
use Rattle.std.proofs.lemmas.List.Folds.{list_any-append}
use Rattle.nm_base.specs.Message.{same_name}
use Rattle.nm_base.specs.declared.letter.LetterId.{LetterId}
use Rattle.nm_base.specs.declared.letter.AcceptNote.{AcceptNote}
use Rattle.trace_file.specs.Rules.{is_late, is_named}
use Rattle.trace_file.specs.private.Indexed.{least}

late_step : (m k l : ℕ) → leb m k || ltb m l ≡ ltb m (max (suc k) l)
late_step m k l = grind (arith, nat_tests)

module _ {X : Type 0} (owner number : X → ℕ) where
  late_cons : (b : Bool) (m k l : ℕ) → (b && leb m k) || ltb m l ≡ ltb m (cond b (max (suc k) l) l)
  late_cons true m k l = late_step m k l
  late_cons false m k l = refl

  -- a number is late where it is below the least that may come
  pub late_below : (xs : List X) (x : X) → is_late owner number xs x ≡ ltb (number x) (least owner number xs (owner x))
  late_below [] x = sym (le-ltb (number x) 0 (omega arith))
  late_below (y ∷ xs) x =
      ap (λ b. (eqb (owner x) (owner y) && leb (number x) (number y)) || b) (late_below xs x) ∙ late_cons (eqb (owner x) (owner y)) (number x) (number y) (least owner number xs (owner x))

  one_more : (b : Bool) (m l : ℕ) → cond b (max (suc m) 0) 0 ≡ cond b (max 0 (suc m)) 0
  one_more true m l = omega arith
  one_more false m l = refl

  swapped : (b c : Bool) (m k l : ℕ) → cond b (max (suc k) (cond c (max l (suc m)) l)) (cond c (max l (suc m)) l) ≡ cond c (max (cond b (max (suc k) l) l) (suc m)) (cond b (max (suc k) l) l)
  swapped true true m k l = omega arith
  swapped true false m k l = refl
  swapped false true m k l = refl
  swapped false false m k l = refl

  pub least_more : (xs : List X) (x : X) (p : ℕ) → least owner number (xs ++ x ∷ []) p ≡ cond (eqb p (owner x)) (max (least owner number xs p) (suc (number x))) (least owner number xs p)
  least_more [] x p = one_more (eqb p (owner x)) (number x) 0
  least_more (y ∷ xs) x p =
      ap (λ l. cond (eqb p (owner y)) (max (suc (number y)) l) l) (least_more xs x p) ∙ swapped (eqb p (owner y)) (eqb p (owner x)) (number x) (number y) (least owner number xs p)

  -- the mark of the new element's owner becomes one above its number
  pub marks_set : (marks : List ℕ) (xs : List X) (x : X) → length marks ≡ 32 → owner x < 32 → ((p : ℕ) → p < 32 → get_or marks p 0 ≡ least owner number xs p)
      → least owner number xs (owner x) ≤ number x → (p : ℕ) → p < 32 → get_or (set marks (owner x) (number x + 1)) p 0 ≡ least owner number (xs ++ x ∷ []) p
  marks_set marks xs x len lt marked le p p-lt =
      elim (cases_eq p (owner x)) [
        | inl same ↦ (let within : owner x < length marks = omega arith in
            let top : number x + 1 ≡ max (least owner number xs (owner x)) (suc (number x)) = omega arith in
            let itself : eqb (owner x) (owner x) ≡ true = eq-eqb (owner x) (owner x) refl in
            subst (λ (q : ℕ). get_or (set marks (owner x) (number x + 1)) q 0 ≡ least owner number (xs ++ x ∷ []) q) (sym same)
            (get_or-set_same marks (owner x) (number x + 1) 0 within ∙ top
            ∙ sym (least_more xs x (owner x) ∙ ap (λ b. cond b (max (least owner number xs (owner x)) (suc (number x))) (least owner number xs (owner x))) itself)))
        | inr other ↦ get_or-set_other marks (owner x) p (number x + 1) 0 other ∙ marked p p-lt
            ∙ sym (least_more xs x p ∙ ap (λ b. cond b (max (least owner number xs p) (suc (number x))) (least owner number xs p)) (ne_eqb p (owner x) other))
      ]

or_false : (b : Bool) → b || false ≡ b
or_false true = refl
or_false false = refl

or_swap : (a b c : Bool) → (a || b) || c ≡ (a || c) || b
or_swap true b c = refl
or_swap false true true = refl
or_swap false true false = refl
or_swap false false true = refl
or_swap false false false = refl

pub named_note : (notes : List AcceptNote) (lost : List LetterId) (a : AcceptNote) (q : LetterId) → is_named (notes ++ a ∷ []) lost q ≡ is_named notes lost q || same_name q a.id
named_note notes lost a q =
    let ids = map (λ (b : AcceptNote). b.id) notes in
    ap (λ (xs : List LetterId). list_any (same_name q) (xs ++ lost)) (map-append (λ (b : AcceptNote). b.id) notes (a ∷ []))
    ∙ list_any-append (same_name q) (ids ++ a.id ∷ []) lost
    ∙ ap (λ b. b || list_any (same_name q) lost) (list_any-append (same_name q) ids (a.id ∷ []) ∙ ap (λ b. list_any (same_name q) ids || b) (or_false (same_name q a.id)))
    ∙ or_swap (list_any (same_name q) ids) (same_name q a.id) (list_any (same_name q) lost)
    ∙ ap (λ b. b || same_name q a.id) (sym (list_any-append (same_name q) ids lost))

pub named_lost : (notes : List AcceptNote) (lost : List LetterId) (id : LetterId) (q : LetterId) → is_named notes (lost ++ id ∷ []) q ≡ is_named notes lost q || same_name q id
named_lost notes lost id q =
    let ids = map (λ (b : AcceptNote). b.id) notes in
    ap (list_any (same_name q)) (sym (append_assoc ids lost (id ∷ [])))
    ∙ list_any-append (same_name q) (ids ++ lost) (id ∷ [])
    ∙ ap (λ b. list_any (same_name q) (ids ++ lost) || b) (or_false (same_name q id))

eqb_flip : (m n : ℕ) → eqb m n ≡ eqb n m
eqb_flip m n = grind (arith, nat_tests)

same_flip : (p q : LetterId) → same_name p q ≡ same_name q p
same_flip p q = ap (λ b. b && eqb p.number q.number) (eqb_flip p.sender.no q.sender.no) ∙ ap (λ b. eqb q.sender.no p.sender.no && b) (eqb_flip p.number q.number)

or_cond : (b c : Bool) → cond b true c ≡ c || b
or_cond true true = refl
or_cond true false = refl
or_cond false true = refl
or_cond false false = refl

-- what a set has after an insertion
pub inserted : (key q : LetterId) (c : Bool) → cond (same_name key q) true c ≡ c || same_name q key
inserted key q c = or_cond (same_name key q) c ∙ ap (λ b. c || b) (same_flip key q)

pub broken : {A : Type 0} (b : Bool) (x y : A) → b ≡ true → cond b x y ≡ x
broken true x y e = refl
broken false x y e = absurd cc

pub passed : {A : Type 0} (b : Bool) (x y : A) → b ≡ false → cond b x y ≡ y
passed true x y e = absurd cc
passed false x y e = refl

pub or_left : (a b : Bool) → a ≡ true → a || b ≡ true
or_left true b e = refl
or_left false b e = absurd cc

pub or_right : (a b : Bool) → b ≡ true → a || b ≡ true
or_right true b e = refl
or_right false true e = refl
or_right false false e = absurd cc

pub neither : (a b : Bool) → a ≡ false → b ≡ false → a || b ≡ false
neither false b e f = f
neither true b e f = absurd cc

abbrev pub are_zero : List ℕ → Bool
are_zero [] = true
are_zero (zero ∷ xs) = are_zero xs
are_zero (suc x ∷ xs) = false

pub zero_at : (xs : List ℕ) → are_zero xs ≡ true → (p : ℕ) → get_or xs p 0 ≡ 0
zero_at [] e p = refl
zero_at (zero ∷ xs) e zero = refl
zero_at (zero ∷ xs) e (suc p) = zero_at xs e p
zero_at (suc x ∷ xs) e p = absurd cc

pub not_false : (b : Bool) → not b ≡ false → b ≡ true
not_false true e = refl
not_false false e = sym e

pub not_true : (b : Bool) → not b ≡ true → b ≡ false
not_true true e = sym e
not_true false e = refl
