-- What the parser asks of tokens.
use Rattle.std.specs.Prelude.{ℕ, suc, Bool, true, false, ◌&&◌, ◌==◌, if◌then◌else◌, List, [], ◌∷◌, Option, Some, None}
use denote.Enum.Bare.{sameb}
use Rattle.nm_base.specs.declared.operator.Ctype.{Ctype}
use Rattle.nm_base.specs.declared.operator.BinaryOp.{BinaryOp}
use Rattle.nm_base.specs.declared.operator.BinaryOp.TheVariants as op
use Rattle.nm_base.specs.declared.operator.UnaryOp.{UnaryOp}
use Rattle.nm_base.specs.declared.operator.UnaryOp.TheVariants as prefix
use Rattle.nm_base.specs.contracts.operator.Ctype.{the_type as ctype}
use Rattle.c_lexer.specs.declared.token.Token.{Token}
use Rattle.c_lexer.specs.declared.token.Tok.{Tok}
use Rattle.c_lexer.specs.declared.token.Tok.TheVariants as tok
use Rattle.c_lexer.specs.declared.token.Key.{Key}
use Rattle.c_lexer.specs.declared.token.Key.TheVariants as key
use Rattle.c_lexer.specs.declared.token.Mark.{Mark}
use Rattle.c_lexer.specs.declared.token.Mark.TheVariants as mark
use Rattle.c_lexer.specs.contracts.token.Key.{the_type as keys}
use Rattle.c_lexer.specs.contracts.token.Mark.{the_type as marks}

abbrev pub is_mark : Mark → Tok → Bool
is_mark m (tok.Mark n) = sameb marks n m
is_mark m _ = false

abbrev pub is_key : Key → Tok → Bool
is_key k (tok.Keyword l) = sameb keys l k
is_key k _ = false

abbrev pub is_const : ℕ → Ctype → Tok → Bool
is_const bits of (tok.Const bits' of') = bits' == bits && sameb ctype of' of
is_const bits of _ = false

-- ---- spellings

abbrev pub unary_mark : UnaryOp → Mark
unary_mark prefix.Plus = mark.Plus
unary_mark prefix.Minus = mark.Minus
unary_mark prefix.Flip = mark.Tilde
unary_mark prefix.Not = mark.Not

abbrev pub bump_mark : Bool → Mark
bump_mark true = mark.PlusPlus
bump_mark false = mark.MinusMinus

abbrev pub binary_mark : BinaryOp → Mark
binary_mark op.Mul = mark.Star
binary_mark op.Div = mark.Slash
binary_mark op.Rem = mark.Percent
binary_mark op.Add = mark.Plus
binary_mark op.Sub = mark.Minus
binary_mark op.Shl = mark.ShiftLeft
binary_mark op.Shr = mark.ShiftRight
binary_mark op.Less = mark.Less
binary_mark op.More = mark.Greater
binary_mark op.LessEqual = mark.LessEqual
binary_mark op.MoreEqual = mark.GreaterEqual
binary_mark op.Equal = mark.Equal
binary_mark op.Differ = mark.NotEqual
binary_mark op.BitAnd = mark.And
binary_mark op.BitXor = mark.Caret
binary_mark op.BitOr = mark.Or

-- The comparisons have no assignment.
abbrev pub assign_mark : Option BinaryOp → Option Mark
assign_mark None = Some mark.Assign
assign_mark (Some op.Mul) = Some mark.StarAssign
assign_mark (Some op.Div) = Some mark.SlashAssign
assign_mark (Some op.Rem) = Some mark.PercentAssign
assign_mark (Some op.Add) = Some mark.PlusAssign
assign_mark (Some op.Sub) = Some mark.MinusAssign
assign_mark (Some op.Shl) = Some mark.ShiftLeftAssign
assign_mark (Some op.Shr) = Some mark.ShiftRightAssign
assign_mark (Some op.BitAnd) = Some mark.AndAssign
assign_mark (Some op.BitXor) = Some mark.CaretAssign
assign_mark (Some op.BitOr) = Some mark.OrAssign
assign_mark (Some _) = None

-- ---- levels of the grammar: 0 postfix, 1 unary, 2 to 11 the binary operators, 12 `?:`, 13 assignments, 14 commas, and
-- 15 a text

-- the level of the right operand, which is one below the operator's own
abbrev pub binary_level : BinaryOp → ℕ
binary_level op.Mul = 1
binary_level op.Div = 1
binary_level op.Rem = 1
binary_level op.Add = 2
binary_level op.Sub = 2
binary_level op.Shl = 3
binary_level op.Shr = 3
binary_level op.Less = 4
binary_level op.More = 4
binary_level op.LessEqual = 4
binary_level op.MoreEqual = 4
binary_level op.Equal = 5
binary_level op.Differ = 5
binary_level op.BitAnd = 6
binary_level op.BitXor = 7
binary_level op.BitOr = 8

-- the level of the expressions that a token continues, and 15 for one that continues none
abbrev pub mark_level : Mark → ℕ
mark_level mark.LeftParen = 0
mark_level mark.LeftBracket = 0
mark_level mark.PlusPlus = 0
mark_level mark.MinusMinus = 0
mark_level mark.Star = 2
mark_level mark.Slash = 2
mark_level mark.Percent = 2
mark_level mark.Plus = 3
mark_level mark.Minus = 3
mark_level mark.ShiftLeft = 4
mark_level mark.ShiftRight = 4
mark_level mark.Less = 5
mark_level mark.Greater = 5
mark_level mark.LessEqual = 5
mark_level mark.GreaterEqual = 5
mark_level mark.Equal = 6
mark_level mark.NotEqual = 6
mark_level mark.And = 7
mark_level mark.Caret = 8
mark_level mark.Or = 9
mark_level mark.AndAnd = 10
mark_level mark.OrOr = 11
mark_level mark.Question = 12
mark_level mark.Assign = 13
mark_level mark.StarAssign = 13
mark_level mark.SlashAssign = 13
mark_level mark.PercentAssign = 13
mark_level mark.PlusAssign = 13
mark_level mark.MinusAssign = 13
mark_level mark.ShiftLeftAssign = 13
mark_level mark.ShiftRightAssign = 13
mark_level mark.AndAssign = 13
mark_level mark.CaretAssign = 13
mark_level mark.OrAssign = 13
mark_level mark.Comma = 14
mark_level _ = 15

abbrev pub tok_level : Tok → ℕ
tok_level (tok.Mark m) = mark_level m
tok_level _ = 15

abbrev pub follow : List Token → ℕ
follow [] = 15
follow (t ∷ ts) = tok_level t.kind

-- ---- nesting tokens

abbrev pub is_nesting_mark : Mark → Bool
is_nesting_mark mark.RightParen = false
is_nesting_mark mark.RightBracket = false
is_nesting_mark mark.RightBrace = false
is_nesting_mark mark.Semicolon = false
is_nesting_mark mark.Colon = false
is_nesting_mark _ = true

abbrev pub is_nesting_key : Key → Bool
is_nesting_key key.If = true
is_nesting_key key.Else = true
is_nesting_key key.While = true
is_nesting_key key.Do = true
is_nesting_key key.For = true
is_nesting_key key.Switch = true
is_nesting_key key.Case = true
is_nesting_key key.Default = true
is_nesting_key _ = false

abbrev pub is_nesting : Tok → Bool
is_nesting (tok.Mark m) = is_nesting_mark m
is_nesting (tok.Keyword k) = is_nesting_key k
is_nesting _ = false

-- how many of the tokens nest
abbrev pub nesting : List Token → ℕ
nesting [] = 0
nesting (t ∷ ts) = if is_nesting t.kind then suc (nesting ts) else nesting ts
