-- Turns of the loops over declarations, labels and statements.
use Rattle.std.proofs.Common.{◌≡◌, ◌<◌, length, arith, ℕ, Bool, true, false, List, [], ◌∷◌, Option, Some, None, Err, refl, ap, ◌∙◌}
use Rattle.std.specs.Prelude.{if◌then◌else◌, is_some}
use Rattle.nm_base.specs.declared.operator.Ctype.{Ctype}
use Rattle.c_lexer.specs.declared.token.Token.{Token}
use Rattle.c_parser.specs.declared.fault.TokenFault.{TokenFault}
use Rattle.c_parser.specs.declared.fault.TokenFault.TheVariants.{Syntax, Deep, Memory}
use Rattle.c_parser.specs.private.Reader.{Wrong, Fails, if_found}
use Rattle.c_parser.specs.private.ReadUnit.{at_end}
use Rattle.c_parser.specs.private.ReadStmt.{type_at, no_type, local, declarations, begins_label, no_label, list_end}

pub typed : (ts : List Token) (x : Ctype × List Token) → type_at ts ≡ Some x → no_type ts ≡ None
typed ts x e = ap (λ (o : Option (Ctype × List Token)). if is_some o then None else Some ts) e

pub untyped : (ts : List Token) → type_at ts ≡ None → no_type ts ≡ Some ts
untyped ts e = ap (λ (o : Option (Ctype × List Token)). if is_some o then None else Some ts) e

pub local_is : (limit : ℕ) (ts us : List Token) (of : Ctype) → type_at ts ≡ Some (of, us) → local limit ts ≡ declarations limit of us
unfolding local
local_is limit ts us of e = ap (λ (o : Option (Ctype × List Token)). if_found o (Err Wrong) (λ x. declarations limit x.0 x.1)) e

pub local_fails : (f : TokenFault) (limit : ℕ) (ts us : List Token) (of : Ctype) → type_at ts ≡ Some (of, us) → Fails f (declarations limit of us) → Fails f (local limit ts)
local_fails (Syntax k) limit ts us of e h = local_is limit ts us of e ∙ h
local_fails (Deep k) limit ts us of e h = local_is limit ts us of e ∙ h
local_fails Memory limit ts us of e h = tt

pub labelled : (ts : List Token) → begins_label ts ≡ true → no_label ts ≡ None
labelled ts e = ap (λ (b : Bool). if b then None else Some ts) e

pub unlabelled : (ts : List Token) → begins_label ts ≡ false → no_label ts ≡ Some ts
unlabelled ts e = ap (λ (b : Bool). if b then None else Some ts) e

from_ends : (b : Bool) (ts : List Token) → is_some (if b then Some ts else None) ≡ true → (if b then Some ts else None) ≡ Some ts
from_ends true ts e = refl
from_ends false ts e = cc

from_goes : (b : Bool) (ts : List Token) → is_some (if b then Some ts else None) ≡ false → (if b then Some ts else None) ≡ None
from_goes true ts e = cc
from_goes false ts e = refl

pub ends : (ts : List Token) → is_some (list_end ts) ≡ true → list_end ts ≡ Some ts
ends ts e = from_ends _ ts e

pub goes : (ts : List Token) → is_some (list_end ts) ≡ false → list_end ts ≡ None
goes ts e = from_goes _ ts e

pub more_left : (ts : List Token) → 0 < length ts → at_end ts ≡ None
more_left [] lt = absurd (omega (arith, lt))
more_left (t ∷ ts) lt = refl

pub none_left : (ts : List Token) → length ts ≡ 0 → at_end ts ≡ Some []
none_left [] e = refl
none_left (t ∷ ts) e = absurd (omega (arith, e))
