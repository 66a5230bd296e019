-- Lists that a loop reads one after another.
use Rattle.std.proofs.Common.{◌≡◌, ℕ, zero, suc, ◌+◌, ◌<◌, max, Bool, true, false, List, [], ◌∷◌, ◌++◌, length, Option, Some, None, Result, Ok, Err, refl, sym, ap, ◌∙◌, arith, append_assoc}
use Rattle.std.specs.Prelude.{if◌then◌else◌}
use Rattle.std.proofs.lemmas.List.{append-nil}
use Rattle.c_lexer.specs.declared.token.Token.{Token}
use Rattle.c_lexer.specs.declared.token.Mark.{Mark}
use Rattle.c_parser.specs.declared.fault.TokenFault.{TokenFault}
use Rattle.c_parser.specs.declared.fault.TokenFault.TheVariants.{Syntax, Deep, Memory}
use Rattle.c_lexer.specs.Lexemes.{◌>>=◌}
use Rattle.c_parser.specs.private.Reader.{Failure, Wrong, Reader, Fails, if_found, at_mark}
use Rattle.c_parser.specs.private.ReadStmt.{consed, repeated, separated}

abbrev pub Read : Type 0 → Type 0
Read A = Result ((List A × ℕ) × List Token) Failure

-- what is read after these
abbrev pub with_front : {A : Type 0} → List A → ℕ → Read A → Read A
with_front before height (Ok y) = Ok ((before ++ y.0.0, max height y.0.1), y.1)
with_front before height (Err f) = Err f

module _ {A : Type 0} where
  front_nothing : (r : Read A) → with_front [] 0 r ≡ r
  front_nothing (Ok y) = let e : max 0 y.0.1 ≡ y.0.1 = omega arith in rw e refl
  front_nothing (Err f) = refl

  front_consed : (before : List A) (height : ℕ) (x : A × ℕ) (r : Read A) → with_front before height (r >>= λ xs. consed x xs) ≡ with_front (before ++ x.0 ∷ []) (max height x.1) r
  front_consed before height x (Ok y) =
      let e : max height (max x.1 y.0.1) ≡ max (max height x.1) y.0.1 = omega arith in
      ap (λ (n : ℕ). Ok ((before ++ x.0 ∷ y.0.0, n), y.1)) e ∙ ap (λ (l : List A). Ok ((l, max (max height x.1) y.0.1), y.1)) (sym (append_assoc before (x.0 ∷ []) y.0.0))
  front_consed before height x (Err f) = refl

  front_fails : (f : TokenFault) (before : List A) (height : ℕ) (r : Read A) → Fails f r → Fails f (with_front before height r)
  front_fails (Syntax k) before height r e = ap (with_front before height) e
  front_fails (Deep k) before height r e = ap (with_front before height) e
  front_fails Memory before height r e = tt

  front_end : (before : List A) (height : ℕ) (rest : List Token) → with_front before height (Ok (([], 0), rest)) ≡ Ok ((before, height), rest)
  front_end before height rest =
      let e : max height 0 ≡ height = omega arith in
      ap (λ (n : ℕ). Ok ((before ++ [], n), rest)) e ∙ ap (λ (l : List A). Ok ((l, height), rest)) (append-nil before)

  fails_along : {B : Type 0} (f : TokenFault) (r : Result B Failure) (g : B → Read A) → Fails f r → Fails f (r >>= g)
  fails_along (Syntax k) r g e = ap (λ q. q >>= g) e
  fails_along (Deep k) r g e = ap (λ q. q >>= g) e
  fails_along Memory r g e = tt

  fails_as : (f : TokenFault) (r s : Read A) → r ≡ s → Fails f r → Fails f s
  fails_as (Syntax k) r s e h = sym e ∙ h
  fails_as (Deep k) r s e h = sym e ∙ h
  fails_as Memory r s e h = tt

-- ---- up to where they stop

module _ {A : Type 0} (stops : List Token → Option (List Token)) (item : Reader (A × ℕ)) where
  -- what is left to read gives what all gives, and the steps are enough
  abbrev pub Repeats : List A → ℕ → List Token → Read A → Type 0
  Repeats before height ts all = (n : ℕ) × (length ts < n) × (with_front before height (repeated stops item n ts) ≡ all)

  abbrev one_more : ℕ → List Token → Read A
  one_more n ts = item ts >>= λ x. repeated stops item n x.1 >>= λ xs. consed x.0 xs

  abbrev nothing : List Token → Read A
  nothing rest = Ok (([], 0), rest)

  pub repeats_end : (before : List A) (height : ℕ) (ts rest : List Token) (all : Read A) → stops ts ≡ Some rest → Repeats before height ts all → all ≡ Ok ((before, height), rest)
  unfolding repeated
  repeats_end before height ts rest all found (zero, lt, e) = absurd (omega (arith, lt))
  repeats_end before height ts rest all found (suc n, lt, e) = sym e ∙ ap (λ o. with_front before height (if_found o (one_more n ts) nothing)) found ∙ front_end before height rest

  pub repeats_fail : (f : TokenFault) (before : List A) (height : ℕ) (ts : List Token) (all : Read A) → stops ts ≡ None → Fails f (item ts) → Repeats before height ts all → Fails f all
  unfolding repeated
  repeats_fail f before height ts all none fails (zero, lt, e) = absurd (omega (arith, lt))
  repeats_fail f before height ts all none fails (suc n, lt, e) =
      let read : repeated stops item (suc n) ts ≡ one_more n ts = ap (λ o. if_found o (one_more n ts) nothing) none in
      fails_as f (with_front before height (one_more n ts)) all (sym (ap (with_front before height) read) ∙ e)
      (front_fails f before height (one_more n ts) (fails_along f (item ts) (λ x. repeated stops item n x.1 >>= λ xs. consed x.0 xs) fails))

  pub repeats_step : (before : List A) (height : ℕ) (ts : List Token) (all : Read A) (x : A × ℕ) (rest : List Token) → stops ts ≡ None → item ts ≡ Ok (x, rest) → length rest < length ts
      → Repeats before height ts all → Repeats (before ++ x.0 ∷ []) (max height x.1) rest all
  unfolding repeated
  repeats_step before height ts all x rest none read less (zero, lt, e) = absurd (omega (arith, lt))
  repeats_step before height ts all x rest none read less (suc n, lt, e) = (
    n,
    omega (arith, lt, less),
    sym (front_consed before height x (repeated stops item n rest))
        ∙ sym (ap (λ r. with_front before height (r >>= λ (y : (A × ℕ) × List Token). repeated stops item n y.1 >>= λ xs. consed y.0 xs)) read)
        ∙ sym (ap (λ o. with_front before height (if_found o (item ts >>= λ (y : (A × ℕ) × List Token). repeated stops item n y.1 >>= λ xs. consed y.0 xs) (λ us. Ok (([], 0), us)))) none) ∙ e,
  )

-- ---- with marks between

module _ {A : Type 0} (more : Mark → Option Bool) (item : Reader (A × ℕ)) where
  abbrev pub Separates : List A → ℕ → List Token → Read A → Type 0
  Separates before height ts all = (n : ℕ) × (length ts < n) × (with_front before height (separated more item n ts) ≡ all)

  abbrev go_on : ℕ → A × ℕ → Bool × List Token → Read A
  go_on n x y = if y.0 then (separated more item n y.1 >>= λ xs. consed x xs) else Ok ((x.0 ∷ [], x.1), y.1)

  pub separates_begin : (ts : List Token) → Separates [] 0 ts (separated more item (length ts + 1) ts)
  separates_begin ts = (length ts + 1, omega arith, front_nothing (separated more item (length ts + 1) ts))

  pub separates_fail : (f : TokenFault) (before : List A) (height : ℕ) (ts : List Token) (all : Read A) → Fails f (item ts) → Separates before height ts all → Fails f all
  unfolding separated
  separates_fail f before height ts all fails (zero, lt, e) = absurd (omega (arith, lt))
  separates_fail (Syntax k) before height ts all fails (suc n, lt, e) = sym e
      ∙ ap (λ r. with_front before height (r >>= λ (x : (A × ℕ) × List Token). if_found (at_mark more x.1) (Err Wrong) (go_on n x.0))) fails
  separates_fail (Deep k) before height ts all fails (suc n, lt, e) = sym e
      ∙ ap (λ r. with_front before height (r >>= λ (x : (A × ℕ) × List Token). if_found (at_mark more x.1) (Err Wrong) (go_on n x.0))) fails
  separates_fail Memory before height ts all fails (suc n, lt, e) = tt

  -- after an item was read
  after_item : (n : ℕ) (before : List A) (height : ℕ) (ts rest : List Token) (all : Read A) (x : A × ℕ) → item ts ≡ Ok (x, rest) → with_front before height (separated more item (suc n) ts) ≡ all
      → with_front before height (if_found (at_mark more rest) (Err Wrong) (go_on n x)) ≡ all
  unfolding separated
  after_item n before height ts rest all x read e = sym (ap (λ r. with_front before height (r >>= λ (y : (A × ℕ) × List Token). if_found (at_mark more y.1) (Err Wrong) (go_on n y.0))) read) ∙ e

  pub separates_wrong : (before : List A) (height : ℕ) (ts : List Token) (all : Read A) (x : A × ℕ) (rest : List Token) → item ts ≡ Ok (x, rest) → at_mark more rest ≡ None
      → Separates before height ts all → all ≡ Err Wrong
  separates_wrong before height ts all x rest read none (zero, lt, e) = absurd (omega (arith, lt))
  separates_wrong before height ts all x rest read none (suc n, lt, e) = sym (after_item n before height ts rest all x read e)
      ∙ ap (λ o. with_front before height (if_found o (Err Wrong) (go_on n x))) none

  pub separates_end : (before : List A) (height : ℕ) (ts : List Token) (all : Read A) (x : A × ℕ) (rest next : List Token) → item ts ≡ Ok (x, rest) → at_mark more rest ≡ Some (false, next)
      → Separates before height ts all → all ≡ Ok ((before ++ x.0 ∷ [], max height x.1), next)
  separates_end before height ts all x rest next read found (zero, lt, e) = absurd (omega (arith, lt))
  separates_end before height ts all x rest next read found (suc n, lt, e) = sym (after_item n before height ts rest all x read e)
      ∙ ap (λ o. with_front before height (if_found o (Err Wrong) (go_on n x))) found

  pub separates_step : (before : List A) (height : ℕ) (ts : List Token) (all : Read A) (x : A × ℕ) (rest next : List Token) → item ts ≡ Ok (x, rest) → at_mark more rest ≡ Some (true, next)
      → length next < length ts → Separates before height ts all → Separates (before ++ x.0 ∷ []) (max height x.1) next all
  separates_step before height ts all x rest next read found less (zero, lt, e) = absurd (omega (arith, lt))
  separates_step before height ts all x rest next read found less (suc n, lt, e) = (
    n,
    omega (arith, lt, less),
    sym (front_consed before height x (separated more item n next))
        ∙ sym (ap (λ o. with_front before height (if_found o (Err Wrong) (go_on n x))) found) ∙ after_item n before height ts rest all x read e,
  )
