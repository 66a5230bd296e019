-- Texts that are printed one after the other.
use Rattle.std.proofs.Common.{
  ◌≡◌,
  ℕ,
  ◌+◌,
  List,
  [],
  ◌++◌,
  length,
  take,
  drop,
  fold,
  get_or,
  ◌∷◌,
  ◌<◌,
  Bor,
  Option,
  None,
  Some,
  Ok,
  Err,
  Result,
  refl,
  ap,
  sym,
  ◌∙◌,
  subst,
  arith,
  append_assoc,
  append-nil,
}
use Rattle.std.specs.Prelude.{⊤, is_err, true}
use Rattle.std.specs.Result.{IsErr}
use Rattle.std.specs.Io.KnownBytes.{Appends}
use Rattle.std.proofs.KnownBytes.{Appends-trans}
use Rattle.std.proofs.lemmas.List.{take-append-drop, drop_more}
use Rattle.nm_outside.proofs.Parts.{part_given}
use Rattle.nm_outside.specs.declared.cabinet.Failed.{Failed}
use Rattle.nm_outside.specs.Causes.{Rose, BelongsTo}
use Rattle.report.specs.Printing.{Prints, joined}

appends_none : (a : Option (List ℕ)) → Appends a a []
appends_none None = tt
appends_none (Some xs) = sym (append-nil xs)

pub prints_nothing : (a : Option (List ℕ)) (n : ℕ) → Prints a a n n [] (Ok tt)
prints_nothing a n = record { ok = appends_none a; err = tt; cause = record { later = omega arith; rose = tt; still = refl } }

-- a failure within the first of two texts
pub prints_part : (a b : Option (List ℕ)) (f g : ℕ) (x y : List ℕ) (e e' : Failed) → Prints a b f g x (Err e) → Prints a b f g (x ++ y) (Err e')
prints_part a b f g x y e e' h =
    let n = h.err.0 in
    let all : x ++ y ≡ take n x ++ (drop n x ++ y) = ap (λ (xs : List ℕ). xs ++ y) (sym (take-append-drop n x)) ∙ append_assoc (take n x) (drop n x) y in
    record { ok = tt; err = part_given a b (x ++ y) (take n x) (drop n x ++ y) all h.err.2; cause = h.cause }

-- one text, and then another
pub prints_more : (a b c : Option (List ℕ)) (f g h : ℕ) (x y : List ℕ) (r : Result ⊤ Failed) → Prints a b f g x (Ok tt) → Prints b c g h y r → Prints a c f h (x ++ y) r
prints_more a b c f g h x y (Ok done) one two = record {
  ok = Appends-trans a b c x y one.ok two.ok;
  err = tt;
  cause = record { later = omega (arith, one.cause.later, two.cause.later); rose = tt; still = two.cause.still ∙ one.cause.still };
}
prints_more a b c f g h x y (Err e) one two =
    let n = two.err.0 in
    let all : x ++ y ≡ (x ++ take n y) ++ drop n y = ap (λ (xs : List ℕ). x ++ xs) (sym (take-append-drop n y)) ∙ sym (append_assoc x (take n y) (drop n y)) in
    record {
      ok = tt;
      err = part_given a c (x ++ y) (x ++ take n y) (drop n y) all (Appends-trans a b c x (take n y) one.ok two.err.2);
      cause = record { later = omega (arith, one.cause.later, two.cause.later); rose = subst (λ m. Rose m h) one.cause.still two.cause.rose; still = tt };
    }

-- a text failed, and so does a longer one
pub still_failed : (a b : Option (List ℕ)) (f g : ℕ) (x y : List ℕ) (s : Result ⊤ Failed) → IsErr s → Prints a b f g x s → Prints a b f g (x ++ y) s
still_failed a b f g x y (Err e) fails h = prints_part a b f g x y e e h
still_failed a b f g x y (Ok done) fails h = cc

-- the same by an answer that is handed on
pub failed_on : (a b : Option (List ℕ)) (f g : ℕ) (x : List ℕ) (r s : Result ⊤ Failed) (e : Failed) → r ≡ Err e → IsErr s → Prints a b f g x r → Prints a b f g x s
failed_on a b f g x r (Err e') e is fails h = let given = subst (Prints a b f g x) is h in record { ok = tt; err = given.err; cause = given.cause }
failed_on a b f g x r (Ok done) e is fails h = cc

-- the first of two texts failed
pub failed_first : (a b : Option (List ℕ)) (f g : ℕ) (x y : List ℕ) (r s : Result ⊤ Failed) (e : Failed) → r ≡ Err e → IsErr s → Prints a b f g x r → Prints a b f g (x ++ y) s
failed_first a b f g x y r s e is fails h = still_failed a b f g x y s fails (failed_on a b f g x r s e is fails h)

pub same_text : (a b : Option (List ℕ)) (f g : ℕ) (x y : List ℕ) (r : Result ⊤ Failed) → x ≡ y → Prints a b f g x r → Prints a b f g y r
same_text a b f g x y r is h = subst (λ t. Prints a b f g t r) is h

-- the first of two texts was given, and what the second did is the answer
pub both : (a b c : Option (List ℕ)) (f g h : ℕ) (x y : List ℕ) (r s : Result ⊤ Failed) → r ≡ Ok tt → Prints a b f g x r → Prints b c g h y s → Prints a c f h (x ++ y) s
both a b c f g h x y r s is one two = prints_more a b c f g h x y s (subst (Prints a b f g x) is one) two

-- no fault was counted where a text was given
pub still_after : {was now : ℕ} (r : Result ⊤ Failed) → r ≡ Ok tt → BelongsTo (is_err r) was now → now ≡ was
still_after (Ok done) is h = h.still
still_after (Err e) is h = cc

-- a fault that is handed on was counted
pub failed_after : {old was now : ℕ} (r s : Result ⊤ Failed) (e : Failed) → r ≡ Err e → IsErr s → was ≡ old → BelongsTo (is_err r) was now → BelongsTo (is_err s) old now
failed_after {now = now} (Err e') (Err f) e is fails same h = subst (λ n. BelongsTo true n now) same h
failed_after (Ok done) s e is fails same h = cc
failed_after (Err e') (Ok done) e is fails same h = cc

-- ---- pieces

joined_from : (text : List ℕ) (pieces : List (Bor (List ℕ))) → fold (λ t p. t ++ p.now) text pieces ≡ text ++ joined pieces
joined_from text [] = sym (append-nil text)
joined_from text (p ∷ ps) = joined_from (text ++ p.now) ps ∙ append_assoc text p.now (joined ps) ∙ ap (λ (xs : List ℕ). text ++ xs) (sym (joined_from p.now ps))

joined_append : (ps qs : List (Bor (List ℕ))) → joined (ps ++ qs) ≡ joined ps ++ joined qs
joined_append [] qs = refl
joined_append (p ∷ ps) qs =
    joined_from p.now (ps ++ qs) ∙ ap (λ (xs : List ℕ). p.now ++ xs) (joined_append ps qs) ∙ sym (append_assoc p.now (joined ps) (joined qs))
    ∙ ap (λ (xs : List ℕ). xs ++ joined qs) (sym (joined_from p.now ps))

-- a piece between those before it and those behind it
pub joined_at : (pieces : List (Bor (List ℕ))) (i : ℕ) (d : Bor (List ℕ)) → i < length pieces
    → joined pieces ≡ (joined (take i pieces) ++ (get_or pieces i d).now) ++ joined (drop (i + 1) pieces)
joined_at pieces i d low =
    let p = get_or pieces i d in
    ap joined (sym (take-append-drop i pieces) ∙ ap (λ (qs : List (Bor (List ℕ))). take i pieces ++ qs) (drop_more pieces i d low))
    ∙ joined_append (take i pieces) (p ∷ drop (i + 1) pieces) ∙ ap (λ (xs : List ℕ). joined (take i pieces) ++ xs) (joined_from p.now (drop (i + 1) pieces))
    ∙ sym (append_assoc (joined (take i pieces)) p.now (joined (drop (i + 1) pieces)))
