-- Reading declarations and statements, which are at most so high. A value comes with its height.
use Rattle.std.specs.Prelude.{ℕ, zero, suc, ◌+◌, max, Bool, true, false, ◌||◌, is_some, if◌then◌else◌, List, [], ◌∷◌, length, Option, Some, None, Result, Ok, Err}
use Rattle.nm_base.specs.declared.operator.Ctype.{Ctype}
use Rattle.nm_base.specs.declared.operator.Ctype.TheVariants.{Int, Unsigned}
use Rattle.c_lexer.specs.declared.token.Token.{Token}
use Rattle.c_lexer.specs.declared.token.Tok.{Tok}
use Rattle.c_lexer.specs.declared.token.Tok.TheVariants as tok
use Rattle.c_lexer.specs.declared.token.Key.{Key}
use Rattle.c_lexer.specs.declared.token.Key.TheVariants as k
use Rattle.c_lexer.specs.declared.token.Mark.{Mark}
use Rattle.c_lexer.specs.declared.token.Mark.TheVariants as m
use Rattle.c_tree.specs.declared.tree.Expr.{Expr}
use Rattle.c_tree.specs.declared.tree.Declr.{Declr}
use Rattle.c_tree.specs.declared.tree.Vars.{Vars}
use Rattle.c_tree.specs.declared.tree.Label.{Label}
use Rattle.c_tree.specs.declared.tree.Arm.{Arm}
use Rattle.c_tree.specs.declared.tree.Stmt.{Stmt}
use Rattle.c_tree.specs.declared.tree.Stmt.TheVariants as s
use Rattle.c_parser.specs.declared.expr.Operand.{Operand}
use Rattle.c_parser.specs.declared.stmt.StmtForm.{StmtForm}
use Rattle.c_parser.specs.declared.stmt.StmtForm.TheVariants as f
use Rattle.c_parser.specs.Walk.{key}
use Rattle.c_parser.specs.Stmt.{is_empty, past_int}
use Rattle.c_lexer.specs.Lexemes.{◌>>=◌}
use Rattle.c_parser.specs.private.Reader.{Failure, Wrong, TooDeep, Reader, if_found, at_mark, expected, after, expect}
use Rattle.c_parser.specs.private.ReadExpr.{line_at, read_expr}

-- ---- lists

-- one and those after it
abbrev pub consed : {A : Type 0} → A × ℕ → (List A × ℕ) × List Token → Result ((List A × ℕ) × List Token) Failure
consed x xs = Ok ((x.0 ∷ xs.0.0, max x.1 xs.0.1), xs.1)

-- one after another up to where they stop; the number is one of steps that is never reached
unfoldable pub repeated : {A : Type 0} → (List Token → Option (List Token)) → Reader (A × ℕ) → ℕ → Reader (List A × ℕ)
repeated stops item zero ts = Err Wrong
repeated stops item (suc n) ts =
    if_found (stops ts) (item ts >>= λ x. repeated stops item n x.1 >>= λ xs. consed x.0 xs)
    (λ rest. Ok (([], 0), rest))

-- one after another; after each one a mark says whether more follow
unfoldable pub separated : {A : Type 0} → (Mark → Option Bool) → Reader (A × ℕ) → ℕ → Reader (List A × ℕ)
separated more item zero ts = Err Wrong
separated more item (suc n) ts = item ts >>= λ x.
    if_found (at_mark more x.1) (Err Wrong) (λ y.
    if y.0 then (separated more item n y.1 >>= λ xs. consed x.0 xs) else Ok ((x.0.0 ∷ [], x.0.1), y.1))

-- at least one
abbrev pub some_of : {A : Type 0} → Result ((List A × ℕ) × List Token) Failure
    → Result ((List A × ℕ) × List Token) Failure
some_of read = read >>= λ xs. if is_empty xs.0.0 then Err Wrong else Ok xs

-- ---- what comes next

abbrev pub after_key : Key → List Token → Option (List Token)
after_key l ts = key l ts

abbrev pub expect_key : Key → List Token → Result (List Token) Failure
expect_key l ts = expected (after_key l ts)

abbrev pub name_by : Tok → Token → List Token → Option (List ℕ × List Token)
name_by tok.Name t ts = Some (t.bytes, ts)
name_by _ t ts = None

abbrev pub name_at : List Token → Option (List ℕ × List Token)
name_at [] = None
name_at (t ∷ ts) = name_by t.kind t ts

abbrev pub found : {A : Type 0} → Option A → Result A Failure
found None = Err Wrong
found (Some x) = Ok x

abbrev pub expect_name : Reader (List ℕ)
expect_name ts = found (name_at ts)

abbrev pub type_by : Tok → List Token → Option (Ctype × List Token)
type_by (tok.Keyword k.Int) ts = Some (Int, ts)
type_by (tok.Keyword k.Signed) ts = Some (Int, past_int ts)
type_by (tok.Keyword k.Unsigned) ts = Some (Unsigned, past_int ts)
type_by _ ts = None

abbrev pub type_at : List Token → Option (Ctype × List Token)
type_at [] = None
type_at (t ∷ ts) = type_by t.kind ts

-- ---- declarations

-- a comma, or the semicolon that ends the declarators
abbrev pub is_declr_end : Mark → Option Bool
is_declr_end m.Comma = Some true
is_declr_end m.Semicolon = Some false
is_declr_end _ = None

unfoldable pub size_of : ℕ → Reader ((Option Expr × Option Expr) × ℕ)
size_of limit ts = do
  size ← read_expr limit 12 ts
  rest ← expect m.RightBracket size.1
  Ok (((Some size.0.expr, None), size.0.height), rest)

unfoldable pub start_of : ℕ → Reader ((Option Expr × Option Expr) × ℕ)
start_of limit ts = do
  start ← read_expr limit 13 ts
  Ok (((None, Some start.0.expr), start.0.height), start.1)

unfoldable pub declr_end : ℕ → Reader ((Option Expr × Option Expr) × ℕ)
declr_end limit ts =
    if_found (after m.LeftBracket ts)
    (if_found (after m.Assign ts) (Ok (((None, None), 0), ts)) (λ rest. start_of limit rest))
    (λ rest. size_of limit rest)

unfoldable pub declarator : ℕ → Reader (Declr × ℕ)
declarator limit ts = do
  name ← expect_name ts
  end ← declr_end limit name.1
  Ok ((record { name = name.0; size = end.0.0.0; start = end.0.0.1; line = line_at ts }, end.0.1), end.1)

unfoldable pub declarations : ℕ → Ctype → Reader (Vars × ℕ)
declarations limit of ts = do
  list ← separated is_declr_end (declarator limit) (length ts + 1) ts
  Ok ((record { of = of; list = list.0.0 }, list.0.1), list.1)

-- declarations of locals stop where no type comes next
abbrev pub no_type : List Token → Option (List Token)
no_type ts = if is_some (type_at ts) then None else Some ts

unfoldable pub local : ℕ → Reader (Vars × ℕ)
local limit ts = if_found (type_at ts) (Err Wrong) (λ x. declarations limit x.0 x.1)

unfoldable pub locals : ℕ → Reader (List Vars × ℕ)
locals limit ts = repeated no_type (local limit) (length ts + 1) ts

-- ---- parts of statements

-- an expression in parentheses
unfoldable pub condition : ℕ → Reader Operand
condition limit ts = do
  begun ← expect m.LeftParen ts
  part ← read_expr limit 14 begun
  rest ← expect m.RightParen part.1
  Ok (part.0, rest)

unfoldable pub present : ℕ → Mark → ℕ → Reader (Option Expr × ℕ)
present level end limit ts = do
  part ← read_expr limit level ts
  rest ← expect end part.1
  Ok ((Some part.0.expr, part.0.height), rest)

-- an expression up to a mark, or the mark alone
unfoldable pub optional : ℕ → Mark → ℕ → Reader (Option Expr × ℕ)
optional level end limit ts = if_found (after end ts) (present level end limit ts) (λ rest. Ok ((None, 0), rest))

abbrev pub label_by : ℕ → Tok → ℕ → Reader (Label × ℕ)
label_by limit (tok.Keyword k.Default) line ts =
    expect m.Colon ts >>= λ rest. Ok ((record { value = None; line = line }, 0), rest)
label_by limit (tok.Keyword k.Case) line ts =
    read_expr limit 12 ts >>= λ x. expect m.Colon x.1
    >>= λ rest. Ok ((record { value = Some x.0.expr; line = line }, x.0.height), rest)
label_by limit _ line ts = Err Wrong

unfoldable pub label : ℕ → Reader (Label × ℕ)
label limit [] = Err Wrong
label limit (t ∷ ts) = label_by limit t.kind t.line ts

abbrev pub begins_label : List Token → Bool
begins_label ts = is_some (after_key k.Case ts) || is_some (after_key k.Default ts)

-- labels stop where none comes next
abbrev pub no_label : List Token → Option (List Token)
no_label ts = if begins_label ts then None else Some ts

unfoldable pub labels : ℕ → Reader (List Label × ℕ)
labels limit ts = some_of (repeated no_label (label limit) (length ts + 1) ts)

-- statements stop at a closing brace or a label
abbrev pub list_end : List Token → Option (List Token)
list_end ts = if is_some (after m.RightBrace ts) || begins_label ts then Some ts else None

-- ---- statements

-- what a statement is by its first token, none for an expression
abbrev pub form_of : Tok → Option StmtForm
form_of (tok.Mark m.LeftBrace) = Some f.Block
form_of (tok.Mark m.Semicolon) = Some f.Empty
form_of (tok.Keyword k.If) = Some f.If
form_of (tok.Keyword k.While) = Some f.While
form_of (tok.Keyword k.Do) = Some f.Do
form_of (tok.Keyword k.For) = Some f.For
form_of (tok.Keyword k.Switch) = Some f.Switch
form_of (tok.Keyword k.Break) = Some f.Break
form_of (tok.Keyword k.Continue) = Some f.Continue
form_of (tok.Keyword k.Return) = Some f.Return
form_of _ = None

-- a statement that ends here
unfoldable pub leaf : Stmt → Reader (Stmt × ℕ)
leaf stmt ts = do
  rest ← expect m.Semicolon ts
  Ok ((stmt, 1), rest)

unfoldable pub returned : ℕ → ℕ → Reader (Stmt × ℕ)
returned below line ts = do
  value ← optional 14 m.Semicolon below ts
  Ok ((s.Return value.0.0 line, suc value.0.1), value.1)

unfoldable pub run : ℕ → ℕ → Reader (Stmt × ℕ)
run below line ts = do
  part ← read_expr below 14 ts
  rest ← expect m.Semicolon part.1
  Ok ((s.Run part.0.expr line, suc part.0.height), rest)

-- up to where a list of statements ends
unfoldable pub statements : Reader (Stmt × ℕ) → Reader (List Stmt × ℕ)
statements lower ts = repeated list_end lower (length ts + 1) ts

unfoldable pub otherwise : Reader (Stmt × ℕ) → Reader (Option Stmt × ℕ)
otherwise lower ts =
    if_found (after_key k.Else ts) (Ok ((None, 0), ts)) (λ rest. lower rest >>= λ x. Ok ((Some x.0.0, x.0.1), x.1))

-- ---- statements of statements, with parts that are at most `below` high

module _ (below : ℕ) (lower : Reader (Stmt × ℕ)) where
  unfoldable pub block : ℕ → Reader (Stmt × ℕ)
  block line ts = do
    vars ← locals below ts
    list ← statements lower vars.1
    rest ← expect m.RightBrace list.1
    Ok ((s.Block vars.0.0 list.0.0 line, suc (max vars.0.1 list.0.1)), rest)

  unfoldable pub branch : ℕ → Reader (Stmt × ℕ)
  branch line ts = do
    test ← condition below ts
    first ← lower test.1
    second ← otherwise lower first.1
    Ok ((s.If test.0.expr first.0.0 second.0.0 line, suc (max test.0.height (max first.0.1 second.0.1))), second.1)

  unfoldable pub whiled : ℕ → Reader (Stmt × ℕ)
  whiled line ts = do
    test ← condition below ts
    body ← lower test.1
    Ok ((s.While test.0.expr body.0.0 line, suc (max test.0.height body.0.1)), body.1)

  unfoldable pub done : ℕ → Reader (Stmt × ℕ)
  done line ts = do
    body ← lower ts
    rest ← expect_key k.While body.1
    test ← condition below rest
    end ← expect m.Semicolon test.1
    Ok ((s.Do body.0.0 test.0.expr line, suc (max body.0.1 test.0.height)), end)

  unfoldable pub counted : ℕ → Reader (Stmt × ℕ)
  counted line ts = do
    begun ← expect m.LeftParen ts
    first ← optional 14 m.Semicolon below begun
    test ← optional 14 m.Semicolon below first.1
    third ← optional 14 m.RightParen below test.1
    body ← lower third.1
    Ok (
      (
        s.For first.0.0 test.0.0 third.0.0 body.0.0 line,
        suc
            (max first.0.1 (max test.0.1 (max third.0.1 body.0.1))),
      ),
      body.1,
    )

  unfoldable pub arm : Reader (Arm × ℕ)
  arm ts = do
    first ← labels below ts
    list ← some_of (statements lower first.1)
    Ok ((record { labels = first.0.0; list = list.0.0 }, max first.0.1 list.0.1), list.1)

  unfoldable pub arms : Reader (List Arm × ℕ)
  arms ts = repeated (after m.RightBrace) arm (length ts + 1) ts

  unfoldable pub switched : ℕ → Reader (Stmt × ℕ)
  switched line ts = do
    test ← condition below ts
    begun ← expect m.LeftBrace test.1
    list ← arms begun
    Ok ((s.Switch test.0.expr list.0.0 line, suc (max test.0.height list.0.1)), list.1)

  -- by its form, with the tokens after the first one and all
  abbrev pub by_form : Option StmtForm → ℕ → List Token → List Token → Result ((Stmt × ℕ) × List Token) Failure
  by_form (Some f.Block) line ts all = block line ts
  by_form (Some f.Empty) line ts all = Ok ((s.Empty line, 1), ts)
  by_form (Some f.If) line ts all = branch line ts
  by_form (Some f.While) line ts all = whiled line ts
  by_form (Some f.Do) line ts all = done line ts
  by_form (Some f.For) line ts all = counted line ts
  by_form (Some f.Switch) line ts all = switched line ts
  by_form (Some f.Break) line ts all = leaf (s.Break line) ts
  by_form (Some f.Continue) line ts all = leaf (s.Continue line) ts
  by_form (Some f.Return) line ts all = returned below line ts
  by_form None line ts all = run below line all

  abbrev pub stmt_by : Tok → ℕ → List Token → List Token → Result ((Stmt × ℕ) × List Token) Failure
  stmt_by o line ts all = by_form (form_of o) line ts all

  unfoldable pub stmt : Reader (Stmt × ℕ)
  stmt [] = Err Wrong
  stmt (t ∷ ts) = stmt_by t.kind t.line ts (t ∷ ts)

-- a statement that is at most so high
unfoldable pub read_stmt : ℕ → Reader (Stmt × ℕ)
read_stmt zero ts = Err TooDeep
read_stmt (suc below) ts = stmt below (read_stmt below) ts
