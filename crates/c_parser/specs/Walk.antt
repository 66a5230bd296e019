-- Walks along tokens. A walk gives the tokens that are left, if the first ones are what it looks for.
use Rattle.std.specs.Prelude.{ℕ, Bool, true, false, ◌==◌, ◌&&◌, List, [], ◌∷◌, Option, Some, None}
use Rattle.std.specs.Str.{bytes_eq}
use Rattle.nm_base.specs.declared.operator.Ctype.{Ctype}
use Rattle.c_lexer.specs.declared.token.Token.{Token}
use Rattle.c_lexer.specs.declared.token.Tok.{Tok}
use Rattle.c_lexer.specs.declared.token.Tok.TheVariants as tok
use Rattle.c_lexer.specs.declared.token.Key.{Key}
use Rattle.c_lexer.specs.declared.token.Mark.{Mark}
use Rattle.c_lexer.specs.declared.token.Mark.TheVariants as m
use Rattle.c_parser.specs.Tokens.{is_mark, is_key, is_const}

abbrev pub Walk : Type 0
Walk = List Token → Option (List Token)

abbrev pub go_on : Option (List Token) → Walk → Option (List Token)
go_on None w = None
go_on (Some ts) w = w ts

infixr 10 ◌>>◌
abbrev pub ◌>>◌ : Walk → Walk → Walk
(v >> w) ts = go_on (v ts) w

abbrev pub stay : Walk
stay ts = Some ts

abbrev pub nowhere : Walk
nowhere ts = None

-- goes past a token of this kind
abbrev pub past : (Token → Bool) → Walk
past test [] = None
past test (t ∷ ts) = elim (test t) [ true ↦ Some ts | false ↦ None ]

abbrev pub mark : Mark → Walk
mark n = past (λ t. is_mark n t.kind)

abbrev pub key : Key → Walk
key k = past (λ t. is_key k t.kind)

abbrev pub constant : ℕ → Ctype → Walk
constant bits of = past (λ t. is_const bits of t.kind)

abbrev pub is_name : Tok → Bool
is_name tok.Name = true
is_name _ = false

abbrev pub is_text : Tok → Bool
is_text tok.Text = true
is_text _ = false

abbrev pub named : List ℕ → Walk
named bytes = past (λ t. is_name t.kind && bytes_eq t.bytes bytes)

abbrev pub text : List ℕ → Walk
text bytes = past (λ t. is_text t.kind && bytes_eq t.bytes bytes)

-- one after another
abbrev pub each : {A : Type 0} → (A → Walk) → List A → Walk
each w [] = stay
each w (x ∷ xs) = w x >> each w xs

-- a comma and the next, again and again
abbrev pub commas : {A : Type 0} → (A → Walk) → List A → Walk
commas w [] = stay
commas w (x ∷ xs) = mark m.Comma >> w x >> commas w xs

-- at least one, with commas between
abbrev pub listed : {A : Type 0} → (A → Walk) → List A → Walk
listed w [] = nowhere
listed w (x ∷ xs) = w x >> commas w xs

-- stays where the next token is on this line
abbrev pub on : ℕ → Walk
on line [] = None
on line (t ∷ ts) = elim (t.line == line) [ true ↦ Some (t ∷ ts) | false ↦ None ]
