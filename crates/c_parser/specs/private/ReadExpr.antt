-- Reading expressions, which are at most so high.
use Rattle.std.specs.Prelude.{ℕ, zero, suc, ◌+◌, ◌-◌, max, Bool, true, false, ◌&&◌, ◌==◌, nat_lt, nat_le, if◌then◌else◌, List, [], ◌∷◌, ◌++◌, length, Option, Some, None, Ok, Err}
use Rattle.nm_base.specs.declared.operator.BinaryOp.{BinaryOp}
use Rattle.c_lexer.specs.declared.token.Token.{Token}
use Rattle.c_lexer.specs.declared.token.Tok.{Tok}
use Rattle.c_lexer.specs.declared.token.Tok.TheVariants as tok
use Rattle.c_lexer.specs.declared.token.Mark.{Mark}
use Rattle.c_lexer.specs.declared.token.Mark.TheVariants as m
use Rattle.c_tree.specs.declared.tree.Expr.{Expr}
use Rattle.c_tree.specs.declared.tree.Expr.TheVariants as e
use Rattle.c_parser.specs.declared.operators.Join.{Join}
use Rattle.c_parser.specs.declared.operators.Join.TheVariants as j
use Rattle.c_parser.specs.declared.operators.Prefix.{Prefix}
use Rattle.c_parser.specs.declared.operators.Prefix.TheVariants as p
use Rattle.c_parser.specs.declared.expr.Operand.{Operand}
use Rattle.c_parser.specs.private.Operators.{join_of, prefix_of, suffix_of, assignment_of}
use Rattle.c_parser.specs.Walk.{is_text}
use Rattle.c_lexer.specs.Lexemes.{◌>>=◌}
use Rattle.c_parser.specs.private.Reader.{Wrong, TooDeep, Reader, if_found, after, expect, at_mark}

-- ---- what comes next

-- what a mark joins, if it is of this level
abbrev pub of_level : ℕ → Option (ℕ × Join) → Option Join
of_level level None = None
of_level level (Some x) = if x.0 == level then Some x.1 else None

-- the line of the next token
abbrev pub line_at : List Token → ℕ
line_at [] = 0
line_at (t ∷ ts) = t.line

abbrev pub join_at : ℕ → List Token → Option (Join × List Token)
join_at level ts = at_mark (λ m. of_level level (join_of m)) ts

-- an assignment, where the operand before it may be its target
abbrev pub assignment_at : ℕ → List Token → Option (Option BinaryOp × List Token)
assignment_at level ts = if nat_le level 1 then at_mark assignment_of ts else None

-- a comma, or the parenthesis that closes the arguments
abbrev pub is_separator : Mark → Option Bool
is_separator m.Comma = Some true
is_separator m.RightParen = Some false
is_separator _ = None

-- ---- what is made

-- an expression with the height of its highest part
abbrev pub node : Expr → ℕ → ℕ → ℕ → Operand
node expr level below line = record { expr = expr; level = level; height = suc below; line = line }

abbrev pub joined_expr : Join → Expr → Expr → ℕ → Expr
joined_expr (j.Binary op) left right line = e.Binary op left right line
joined_expr j.And left right line = e.And left right line
joined_expr j.Or left right line = e.Or left right line
joined_expr j.Comma left right line = e.Comma left right line

abbrev pub joined : ℕ → Join → Operand → Operand → Operand
joined level join left right =
    node (joined_expr join left.expr right.expr left.line) level (max left.height right.height) left.line

abbrev pub chosen : Operand → Operand → Operand → Operand
chosen test first second = node (e.Choose test.expr first.expr second.expr test.line) 12
    (max test.height (max first.height second.height)) test.line

abbrev pub assigned : Option BinaryOp → Operand → Operand → Operand
assigned op place value =
    node (e.Assign op place.expr value.expr place.line) 13 (max place.height value.height) place.line

abbrev pub suffixed : Bool → Operand → Operand
suffixed up part = node (e.Bump up false part.expr part.line) 0 part.height part.line

abbrev pub prefixed_expr : Prefix → Expr → ℕ → Expr
prefixed_expr (p.Unary op) part line = e.Unary op part line
prefixed_expr (p.Bump up) part line = e.Bump up true part line

abbrev pub prefixed : Prefix → Operand → ℕ → Operand
prefixed prefix part line = node (prefixed_expr prefix part.expr line) 1 part.height line

-- each `++` and `--` after an operand; the last number is one of steps that is never reached
unfoldable pub suffixes : ℕ → ℕ → Operand → Reader Operand
suffixes below zero part ts = Err TooDeep
suffixes below (suc n) part ts = if_found (at_mark suffix_of ts) (Ok (part, ts)) (λ x.
    if nat_lt below part.height then Err TooDeep else suffixes below n (suffixed x.0 part) x.1)

-- ---- parts that are at most `below` high, by their level
module _ (below : ℕ) (lower : ℕ → Reader Operand) where
  -- ---- primary expressions

  unfoldable pub parenthesized : ℕ → Reader Operand
  parenthesized line ts = do
    part ← lower 14 ts
    rest ← expect m.RightParen part.1
    Ok (node (e.Paren part.0.expr line) 0 part.0.height line, rest)

  unfoldable pub element : List ℕ → ℕ → Reader Operand
  element name line ts = do
    index ← lower 14 ts
    rest ← expect m.RightBracket index.1
    Ok (node (e.At name index.0.expr line) 0 index.0.height line, rest)

  unfoldable pub argument : Reader Operand
  argument [] = lower 13 []
  argument (t ∷ ts) =
      if is_text t.kind && nat_lt 0 below then Ok (node (e.Text t.bytes t.line) 15 0 t.line, ts) else lower 13 (t ∷ ts)

  -- arguments after these, and the greatest height
  unfoldable pub arguments_from : ℕ → List Expr → ℕ → Reader (List Expr × ℕ)
  arguments_from zero list height ts = Err Wrong
  arguments_from (suc n) list height ts = argument ts >>= λ x.
      if_found (at_mark is_separator x.1) (Err Wrong) (λ after.
      if after.0 then arguments_from n (list ++ x.0.expr ∷ []) (max height x.0.height) after.1
      else Ok ((list ++ x.0.expr ∷ [], max height x.0.height), after.1))

  -- up to the closing parenthesis
  unfoldable pub arguments : Reader (List Expr × ℕ)
  arguments ts = if_found (after m.RightParen ts) (arguments_from (length ts + 1) [] 0 ts) (λ rest. Ok (([], 0), rest))

  unfoldable pub call : List ℕ → ℕ → Reader Operand
  call name line ts = do
    args ← arguments ts
    Ok (node (e.Call name args.0.0 line) 0 args.0.1 line, args.1)

  abbrev pub named_by : Tok → List ℕ → ℕ → List Token → Reader Operand
  named_by (tok.Mark m.LeftBracket) name line rest ts = element name line rest
  named_by (tok.Mark m.LeftParen) name line rest ts = call name line rest
  named_by _ name line rest ts = Ok (node (e.Name name line) 0 0 line, ts)

  -- after a name
  unfoldable pub named : List ℕ → ℕ → Reader Operand
  named name line [] = Ok (node (e.Name name line) 0 0 line, [])
  named name line (t ∷ ts) = named_by t.kind name line ts (t ∷ ts)

  abbrev pub primary_by : Tok → Token → Reader Operand
  primary_by (tok.Const bits of) t ts = Ok (node (e.Const bits of t.line) 0 0 t.line, ts)
  primary_by tok.Name t ts = named t.bytes t.line ts
  primary_by (tok.Mark m.LeftParen) t ts = parenthesized t.line ts
  primary_by _ t ts = Err Wrong

  unfoldable pub primary : Reader Operand
  primary [] = Err Wrong
  primary (t ∷ ts) = primary_by t.kind t ts

  -- ---- operators

  unfoldable pub postfix : Reader Operand
  postfix ts = primary ts >>= λ x. suffixes below (below + 2) x.0 x.1

  unfoldable pub unary_of : Prefix → ℕ → Reader Operand
  unary_of prefix line ts = do
    part ← lower 1 ts
    Ok (prefixed prefix part.0 line, part.1)

  unfoldable pub unary : Reader Operand
  unary ts = if_found (at_mark prefix_of ts) (postfix ts) (λ x. unary_of x.0 (line_at ts) x.1)

  -- each operator of the level and its right operand
  unfoldable pub joins : ℕ → ℕ → Operand → Reader Operand
  joins zero level left ts = Err TooDeep
  joins (suc n) level left ts = if_found (join_at level ts) (Ok (left, ts)) (λ x.
      if nat_lt below left.height then Err TooDeep
      else (lower (level - 1) x.1 >>= λ right. joins n level (joined level x.0 left right.0) right.1))

  unfoldable pub choices : Operand → Reader Operand
  choices test ts = do
    first ← lower 14 ts
    after ← expect m.Colon first.1
    second ← lower 12 after
    Ok (chosen test first.0 second.0, second.1)

  unfoldable pub choice : Operand → Reader Operand
  choice test ts = if_found (after m.Question ts) (Ok (test, ts))
      (λ rest. if nat_lt below test.height then Err TooDeep else choices test rest)

  unfoldable pub value_of : Operand → Option BinaryOp → Reader Operand
  value_of place op ts = do
    value ← lower 13 ts
    Ok (assigned op place value.0, value.1)

  unfoldable pub assignment : Operand → Reader Operand
  assignment place ts = if_found (assignment_at place.level ts) (Ok (place, ts))
      (λ x. if nat_lt below place.height then Err TooDeep else value_of place x.0 x.1)

  -- what goes on at the level after an operand of the one below
  unfoldable pub more : ℕ → Operand → Reader Operand
  more level left ts =
      if level == 12 then choice left ts else
      (if level == 13 then assignment left ts else joins (below + 2) level left ts)

  unfoldable pub at_level : ℕ → Reader Operand
  at_level zero ts = postfix ts
  at_level (suc zero) ts = unary ts
  at_level (suc (suc n)) ts = at_level (suc n) ts >>= λ x. more (suc (suc n)) x.0 x.1

-- an expression of the level that is at most so high
unfoldable pub read_expr : ℕ → ℕ → Reader Operand
read_expr zero level ts = Err TooDeep
read_expr (suc below) level ts = at_level below (read_expr below) level ts
