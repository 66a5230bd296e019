-- Reading from left to right.
use Rattle.std.specs.Prelude.{◌≡◌, List, [], ◌∷◌, Option, Some, None, Result, Ok, Err}
use Rattle.c_lexer.specs.declared.token.Token.{Token}
use Rattle.c_lexer.specs.declared.token.Tok.{Tok}
use Rattle.c_lexer.specs.declared.token.Tok.TheVariants as tok
use Rattle.c_lexer.specs.declared.token.Mark.{Mark}
use Rattle.c_parser.specs.declared.fault.TokenFault.{TokenFault}
use Rattle.c_parser.specs.declared.fault.TokenFault.TheVariants.{Syntax, Deep, Memory}
use Rattle.c_parser.specs.Walk.{mark}

pub data Failure : Type 0 where
  Wrong : Failure
  TooDeep : Failure

-- a value and the tokens after it
abbrev pub Reader : Type 0 → Type 0
Reader A = List Token → Result (A × List Token) Failure

abbrev pub if_found : {A B : Type 0} → Option A → Result B Failure → (A → Result B Failure) → Result B Failure
if_found None none some = none
if_found (Some x) none some = some x

-- What a function returned, seen by view, is what reading gives, unless memory ran out.
abbrev pub Fails : {B : Type 0} → TokenFault → Result B Failure → Type 0
Fails (Syntax left) read = read ≡ Err Wrong
Fails (Deep left) read = read ≡ Err TooDeep
Fails Memory read = Unit {0}

abbrev pub ParseGives : {A B : Type 0} → (A → B) → Result A TokenFault → Result B Failure → Type 0
ParseGives view (Ok x) read = read ≡ Ok (view x)
ParseGives view (Err e) read = Fails e read

-- There is a value and the fact holds of it, unless memory ran out.
abbrev pub OkOrMemory : {A : Type 0} → Result A TokenFault → (A → Type 0) → Type 0
OkOrMemory (Ok x) P = P x
OkOrMemory (Err Memory) P = Unit {0}
OkOrMemory (Err _) P = ⊥

-- The fact holds where a reading is refused as too deep.
abbrev pub OnDeep : {A : Type 0} → Result A TokenFault → Type 0 → Type 0
OnDeep (Err (Deep left)) P = P
OnDeep _ P = Unit {0}

-- What a function found, seen by view, is what is found.
abbrev pub Finds : {A B : Type 0} → (A → B) → Option A → Option B → Type 0
Finds view None found = found ≡ None
Finds view (Some x) found = found ≡ Some (view x)

abbrev pub of_mark : {A : Type 0} → (Mark → Option A) → Tok → Option A
of_mark f (tok.Mark m) = f m
of_mark f _ = None

abbrev pub with_rest : {A : Type 0} → Option A → List Token → Option (A × List Token)
with_rest None ts = None
with_rest (Some x) ts = Some (x, ts)

-- what the next token is by its mark, and the tokens after it
abbrev pub at_mark : {A : Type 0} → (Mark → Option A) → List Token → Option (A × List Token)
at_mark f [] = None
at_mark f (t ∷ ts) = with_rest (of_mark f t.kind) ts

-- the tokens after a mark that comes next
abbrev pub after : Mark → List Token → Option (List Token)
after m ts = mark m ts

abbrev pub expected : Option (List Token) → Result (List Token) Failure
expected None = Err Wrong
expected (Some ts) = Ok ts

abbrev pub expect : Mark → List Token → Result (List Token) Failure
expect m ts = expected (after m ts)
