-- Reading items and units.
use Rattle.std.specs.Prelude.{ℕ, ◌+◌, max, Bool, true, false, if◌then◌else◌, List, [], ◌∷◌, length, Option, Some, None, Ok, Err}
use Rattle.nm_base.specs.declared.operator.Ctype.{Ctype}
use Rattle.c_lexer.specs.declared.token.Token.{Token}
use Rattle.c_lexer.specs.declared.token.Key.TheVariants as k
use Rattle.c_lexer.specs.declared.token.Mark.TheVariants as m
use Rattle.c_tree.specs.declared.tree.Expr.{Expr}
use Rattle.c_tree.specs.declared.tree.Param.{Param}
use Rattle.c_tree.specs.declared.tree.Head.{Head}
use Rattle.c_tree.specs.declared.tree.Item.{Item}
use Rattle.c_tree.specs.declared.tree.Item.TheVariants as i
use Rattle.c_tree.specs.declared.tree.Tree.{Tree}
use Rattle.c_lexer.specs.Lexemes.{◌>>=◌}
use Rattle.c_parser.specs.private.Reader.{Wrong, Reader, if_found, after, expect}
use Rattle.c_parser.specs.private.ReadExpr.{line_at, is_separator}
use Rattle.c_parser.specs.private.ReadStmt.{repeated, separated, after_key, expect_name, name_at, type_at, declarations, optional, block, read_stmt}
use Rattle.c_parser.specs.Unit.{params_named}

-- the end of a parameter: nothing, or brackets
unfoldable pub array_at : Reader ((Bool × Option Expr) × ℕ)
array_at ts = if_found (after m.LeftBracket ts) (Ok (((false, None), 0), ts)) (λ rest.
    optional 12 m.RightBracket 64 rest >>= λ x. Ok (((true, x.0.0), x.0.1), x.1))

unfoldable pub param_of : Ctype → Option (List ℕ) → ℕ → Reader (Param × ℕ)
param_of of name line ts = do
  end ← array_at ts
  Ok ((record { of = of; name = name; array = end.0.0.0; size = end.0.0.1; line = line }, end.0.1), end.1)

-- the line is that of the name, or else of the first token
unfoldable pub parameter : Reader (Param × ℕ)
parameter ts = if_found (type_at ts) (Err Wrong) (λ x.
    if_found (name_at x.1) (param_of x.0 None (line_at ts) x.1)
    (λ name. param_of x.0 (Some name.0) (line_at x.1) name.1))

-- up to the closing parenthesis
unfoldable pub parameters : Reader (List Param × ℕ)
parameters ts =
    if_found (after_key k.Void ts)
    (if_found (after m.RightParen ts) (separated is_separator parameter (length ts + 1) ts)
    (λ rest. Ok (([], 0), rest)))
    (λ rest. expect m.RightParen rest >>= λ end. Ok (([], 0), end))

unfoldable pub body_of : Head → ℕ → Reader (Item × ℕ)
body_of head height ts =
    if params_named head.params then
    (expect m.LeftBrace ts >>= λ begun. block 63 (read_stmt 63) (line_at ts) begun
    >>= λ body. Ok ((i.Function head body.0.0, max height body.0.1), body.1))
    else Err Wrong

unfoldable pub headed : Head → ℕ → Reader (Item × ℕ)
headed head height ts =
    if_found (after m.Semicolon ts) (body_of head height ts) (λ rest. Ok ((i.Proto head, max 1 height), rest))

unfoldable pub function_of : Option Ctype → List ℕ → ℕ → Reader (Item × ℕ)
function_of of name line ts =
    parameters ts >>= λ params. headed
    (record { result = of; name = name; params = params.0.0; line = line }) params.0.1 params.1

unfoldable pub vars_of : Option Ctype → Reader (Item × ℕ)
vars_of None ts = Err Wrong
vars_of (Some of) ts = declarations 64 of ts >>= λ vars. Ok ((i.Vars vars.0.0, max 1 vars.0.1), vars.1)

-- an item after its type, or after `void`
unfoldable pub item_of : Option Ctype → Reader (Item × ℕ)
item_of of ts = expect_name ts >>= λ name.
    if_found (after m.LeftParen name.1) (vars_of of ts) (λ rest. function_of of name.0 (line_at ts) rest)

unfoldable pub read_item : Reader (Item × ℕ)
read_item ts =
    if_found (after_key k.Void ts) (if_found (type_at ts) (Err Wrong) (λ x. item_of (Some x.0) x.1))
    (λ rest. item_of None rest)

abbrev pub at_end : List Token → Option (List Token)
at_end [] = Some []
at_end (t ∷ ts) = None

unfoldable pub read_items : Reader (List Item × ℕ)
read_items ts = repeated at_end read_item (length ts + 1) ts

abbrev pub tree_of : (List Item × ℕ) × List Token → Tree
tree_of read = record { items = read.0.0 }
