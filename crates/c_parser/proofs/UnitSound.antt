-- What is read of items and units derives the tokens.
use Rattle.std.proofs.Common.{◌≡◌, ℕ, suc, ◌+◌, ◌≤◌, max, Bool, true, false, ◌&&◌, List, [], ◌∷◌, length, Option, Some, None, Ok, Err, refl, sym, ap, ◌∙◌, subst, arith, lit≤}
use Rattle.std.specs.Prelude.{if◌then◌else◌}
use Rattle.std.specs.List.{list_all}
use Rattle.std.proofs.lemmas.Bool.{le-leb}
use Rattle.nm_base.specs.declared.operator.Ctype.{Ctype}
use Rattle.nm_base.specs.declared.operator.Ctype.TheVariants.{Int, Unsigned}
use Rattle.c_lexer.specs.declared.token.Token.{Token}
use Rattle.c_lexer.specs.declared.token.Tok.{Tok}
use Rattle.c_lexer.specs.declared.token.Key.TheVariants as k
use Rattle.c_lexer.specs.declared.token.Mark.{Mark}
use Rattle.c_lexer.specs.declared.token.Mark.TheVariants as m
use Rattle.c_tree.specs.declared.tree.Expr.{Expr}
use Rattle.c_tree.specs.declared.tree.Param.{Param}
use Rattle.c_tree.specs.declared.tree.Head.{Head}
use Rattle.c_tree.specs.declared.tree.Item.{Item}
use Rattle.c_tree.specs.declared.tree.Item.TheVariants as i
use Rattle.c_tree.specs.declared.tree.Vars.{Vars}
use Rattle.c_tree.specs.declared.tree.Stmt.{Stmt}
use Rattle.c_tree.specs.declared.tree.Stmt.TheVariants as s
use Rattle.c_parser.specs.Tokens.{is_key}
use Rattle.c_parser.specs.Walk.{◌>>◌, mark, key, named, listed, on}
use Rattle.c_parser.specs.Stmt.{highest, any_walk, any_height, any_fits, type_walk, stmt_part}
use Rattle.c_parser.specs.Unit.{array_walk, param_begin, param_walk, param_fits, param_height, past_void, params_walk, params_named, result_walk, head_walk, head_fits, head_height, item_walk}
use Rattle.c_parser.specs.Unit.{item_fits, item_height, UnitOf}
use Rattle.c_lexer.specs.Lexemes.{◌>>=◌}
use Rattle.c_parser.specs.private.Reader.{Wrong, Reader, expect}
use Rattle.c_parser.specs.private.ReadExpr.{line_at, is_separator}
use Rattle.c_parser.specs.private.ReadStmt.{name_at, type_at, declarations, optional, locals, statements, block, read_stmt}
use Rattle.c_parser.specs.private.ReadUnit.{array_at, param_of, parameter, parameters, body_of, headed, function_of, vars_of, item_of, read_item, at_end, read_items, tree_of}
use Rattle.c_parser.proofs.Steps.{marked, on_own}
use Rattle.c_parser.proofs.Spells.{then_walk, both}
use Rattle.c_parser.proofs.Holds.{Holds, holds_ok, holds_err, holds_bind, holds_expect, holds_found, holds_if}
use Rattle.c_parser.proofs.StmtLaws.{part-Block}
use Rattle.c_parser.proofs.StmtSound.{keyed, Shape, Is, Any, IsStmt, repeated_sound, separated_sound, optional_sound, holds_name, name_is, type_is, vars_shape}
use Rattle.c_parser.proofs.StmtSound.{declarations_sound, block_sound, stmt_sound}

-- ---- parameters

pub record Arrays (ts : List Token) (y : ((Bool × Option Expr) × ℕ) × List Token) : Type 0 where
  pub walks : array_walk y.0.0.0 y.0.0.1 ts ≡ Some y.1
  pub fit : any_fits 12 y.0.0.1 ≡ true
  pub high : any_height y.0.0.1 ≡ y.0.1
  pub low : y.0.1 ≤ 64

array_sound : (ts : List Token) → Holds (Arrays ts) (array_at ts)
unfolding array_at
array_sound ts =
    let P = Arrays ts in
    holds_found P (mark m.LeftBracket ts) _ _
    (holds_ok P (((false, None), 0), ts) (record { walks = refl; fit = refl; high = refl; low = omega arith }))
    (λ us found.
    holds_bind P (Any 64 12 m.RightBracket us) (optional 12 m.RightBracket 64 us) _ (optional_sound 12 m.RightBracket 64 us (lit≤ tt)) (λ x a.
    holds_ok P (((true, x.0.0), x.0.1), x.1) (record {
      walks = then_walk (mark m.LeftBracket) (any_walk x.0.0 >> mark m.RightBracket) ts us found ∙ a.walks;
      fit = a.fit;
      high = a.high;
      low = a.low;
    })))

unfoldable pub param_shape : Shape Param
param_shape = record { walk = param_walk; fits = param_fits; height = param_height }

param_of_sound : (of : Ctype) (name : Option (List ℕ)) (line : ℕ) (ts us : List Token) → param_begin of name line ts ≡ Some us → Holds (Is param_shape 64 ts) (param_of of name line us)
unfolding param_of param_shape
param_of_sound of name line ts us begins =
    let P = Is param_shape 64 ts in
    holds_bind P (Arrays us) (array_at us) _ (array_sound us) (λ x a.
    holds_ok P ((record { of = of; name = name; array = x.0.0.0; size = x.0.0.1; line = line }, x.0.1), x.1) (record {
      walks = then_walk (param_begin of name line) (array_walk x.0.0.0 x.0.0.1) ts us begins ∙ a.walks;
      fit = a.fit;
      high = a.high;
      low = a.low;
    }))

no_type_walk : (of : Ctype) (us : List Token) → type_walk of [] ≡ Some us → ⊥
no_type_walk Int us e = cc
no_type_walk Unsigned us e = cc

on_type : (of : Ctype) (ts us : List Token) → type_walk of ts ≡ Some us → on (line_at ts) ts ≡ Some ts
on_type of [] us e = absurd (no_type_walk of us e)
on_type of (t ∷ ts) us e = on_own t ts

pub parameter_sound : (ts : List Token) → Holds (Is param_shape 64 ts) (parameter ts)
unfolding parameter
parameter_sound ts =
    let P = Is param_shape 64 ts in
    holds_found P (type_at ts) (Err Wrong) _ (holds_err P Wrong) (λ x type.
    let t = type_is ts x type in
    holds_found P (name_at x.1) _ _
    (param_of_sound x.0 None (line_at ts) ts x.1 (then_walk (on (line_at ts)) (type_walk x.0) ts ts (on_type x.0 ts x.1 t) ∙ t))
    (λ y name. let n = name_is x.1 y name in
    param_of_sound x.0 (Some y.0) (line_at x.1) ts y.1 (then_walk (type_walk x.0) (on (line_at x.1) >> named y.0) ts x.1 t ∙ then_walk (on (line_at x.1)) (named y.0) x.1 x.1 n.begins ∙ n.walks)))

separator_is : (n : Mark) (b : Bool) → is_separator n ≡ Some b → n ≡ (if b then m.Comma else m.RightParen)
separator_is m.Comma true e = refl
separator_is m.Comma false e = cc
separator_is m.RightParen true e = cc
separator_is m.RightParen false e = refl
separator_is _ b e = cc

pub record Params (ts : List Token) (y : (List Param × ℕ) × List Token) : Type 0 where
  pub walks : (params_walk y.0.0 >> mark m.RightParen) ts ≡ Some y.1
  pub fit : list_all param_fits y.0.0 ≡ true
  pub high : highest param_height y.0.0 ≡ y.0.1
  pub low : y.0.1 ≤ 64

void_walk : (ts us : List Token) → key k.Void ts ≡ Some us → past_void ts ≡ Some us
void_walk ts us e =
    let h = keyed k.Void ts us e in
    let here : past_void (h.token ∷ us) ≡ Some us = ap (λ (o : Tok). Some (if is_key k.Void o then us else h.token ∷ us)) h.kind in
    ap past_void h.tokens ∙ here

mark_walk : (n : Mark) (ts us : List Token) → mark n ts ≡ Some us → past_void ts ≡ Some ts
mark_walk n ts us e =
    let h = marked n ts us e in
    let here : past_void (h.token ∷ us) ≡ Some (h.token ∷ us) = ap (λ (o : Tok). Some (if is_key k.Void o then us else h.token ∷ us)) h.kind in
    ap past_void h.tokens ∙ here ∙ ap Some (sym h.tokens)

params_listed : (xs : List Param) (ts last : List Token) → listed param_walk xs ts ≡ Some last → params_walk xs ts ≡ Some last
params_listed [] ts last e = absurd cc
params_listed (x ∷ xs) ts last e = e

pub parameters_sound : (ts : List Token) → Holds (Params ts) (parameters ts)
unfolding parameters param_shape
parameters_sound ts =
    let P = Params ts in
    holds_found P (key k.Void ts) _ _
    (holds_found P (mark m.RightParen ts) _ _
    (record {
      of = λ y read. let c = (separated_sound param_shape 64 parameter parameter_sound is_separator m.RightParen separator_is (length ts + 1) ts).of y read in record {
        walks = then_walk (params_walk y.0.0) (mark m.RightParen) ts c.last (params_listed y.0.0 ts c.last c.walks) ∙ c.close;
        fit = c.fit;
        high = c.high;
        low = c.low;
      };
    })
    (λ rest close. holds_ok P (([], 0), rest)
    (record { walks = then_walk past_void (mark m.RightParen) ts ts (mark_walk m.RightParen ts rest close) ∙ close; fit = refl; high = refl; low = omega arith })))
    (λ us void.
    holds_expect P m.RightParen us _ (λ rest close.
    holds_ok P (([], 0), rest) (record { walks = then_walk past_void (mark m.RightParen) ts us (void_walk ts us void) ∙ close; fit = refl; high = refl; low = omega arith })))

-- ---- items

unfoldable pub item_shape : Shape Item
item_shape = record { walk = item_walk; fits = item_fits; height = item_height }

block_is : (below line : ℕ) (lower : Reader (Stmt × ℕ)) (ts : List Token) → Holds (λ y. (stmt_part y.0.0).is_block ≡ true) (block below lower line ts)
unfolding block
block_is below line lower ts =
    let P = λ (y : (Stmt × ℕ) × List Token). (stmt_part y.0.0).is_block ≡ true in
    holds_bind P (λ (x : (List Vars × ℕ) × List Token). Unit {0}) (locals below ts) _ (record { of = λ x e. tt }) (λ x a.
    holds_bind P (λ (x : (List Stmt × ℕ) × List Token). Unit {0}) (statements lower x.1) _ (record { of = λ x e. tt }) (λ y b.
    holds_expect P m.RightBrace y.1 _ (λ rest close. holds_ok P ((s.Block x.0.0 y.0.0 line, suc (max x.0.1 y.0.1)), rest) (ap (λ p. p.is_block) (part-Block x.0.0 y.0.0 line)))))

body_sound : (h : Head) (high : ℕ) (start us : List Token) → head_walk h start ≡ Some us → head_fits h ≡ true → head_height h ≡ high → high ≤ 64 → params_named h.params ≡ true
    → Holds (Is item_shape 64 start) (expect m.LeftBrace us >>= λ begun. block 63 (read_stmt 63) (line_at us) begun >>= λ body. Ok ((i.Function h body.0.0, max high body.0.1), body.1))
unfolding item_shape
body_sound h high start us walk fits is low names =
    let P = Is item_shape 64 start in
    holds_expect P m.LeftBrace us _ (λ begun brace.
    let b = marked m.LeftBrace us begun brace in
    let line : line_at us ≡ b.token.line = ap line_at b.tokens in
    holds_bind P (λ y. IsStmt 64 us y × ((stmt_part y.0.0).is_block ≡ true)) (block 63 (read_stmt 63) (line_at us) begun) _
    (record {
      of = λ y read.
          let read' : block 63 (read_stmt 63) b.token.line begun ≡ Ok y = ap (λ (n : ℕ). block 63 (read_stmt 63) n begun) (sym line) ∙ read in
          let s = (block_sound 63 (read_stmt 63) (stmt_sound 63) b.token begun b.kind).of y read' in
          (subst (λ (ts : List Token). IsStmt 64 ts y) (sym b.tokens) s, (block_is 63 b.token.line (read_stmt 63) begun).of y read');
    })
    (λ y s.
    holds_ok P ((i.Function h y.0.0, max high y.0.1), y.1) (record {
      walks = then_walk (head_walk h) (stmt_part y.0.0).walk start us walk ∙ s.0.walks;
      fit = both (head_fits h && params_named h.params && (stmt_part y.0.0).is_block) (stmt_part y.0.0).fits
          (both (head_fits h && params_named h.params) (stmt_part y.0.0).is_block (both (head_fits h) (params_named h.params) fits names) s.1) s.0.fit;
      high = omega (arith, is, s.0.high);
      low = omega (arith, low, s.0.low);
    })))

headed_sound : (h : Head) (high : ℕ) (start us : List Token) → head_walk h start ≡ Some us → head_fits h ≡ true → head_height h ≡ high → high ≤ 64 → Holds (Is item_shape 64 start) (headed h high us)
unfolding headed body_of item_shape
headed_sound h high start us walk fits is low =
    let P = Is item_shape 64 start in
    holds_found P (mark m.Semicolon us) _ _
    (holds_if P (params_named h.params) _ (Err Wrong) (λ names. body_sound h high start us walk fits is low names) (λ _. holds_err P Wrong))
    (λ rest found. holds_ok P ((i.Proto h, max 1 high), rest) (record {
      walks = then_walk (head_walk h) (mark m.Semicolon) start us walk ∙ found;
      fit = fits;
      high = omega (arith, is);
      low = omega (arith, low);
    }))

function_sound : (of : Option Ctype) (name : List ℕ) (start ts us vs : List Token) → result_walk of start ≡ Some ts → on (line_at ts) ts ≡ Some ts → named name ts ≡ Some us
    → mark m.LeftParen us ≡ Some vs → Holds (Is item_shape 64 start) (function_of of name (line_at ts) vs)
unfolding function_of
function_sound of name start ts us vs result line is paren =
    let P = Is item_shape 64 start in
    holds_bind P (Params vs) (parameters vs) _ (parameters_sound vs) (λ x p.
    let h : Head = record { result = of; name = name; params = x.0.0; line = line_at ts } in
    let w = params_walk x.0.0 >> mark m.RightParen in
    headed_sound h x.0.1 start x.1
    (then_walk (result_walk of) (on (line_at ts) >> named name >> mark m.LeftParen >> w) start ts result
    ∙ then_walk (on (line_at ts)) (named name >> mark m.LeftParen >> w) ts ts line
    ∙ then_walk (named name) (mark m.LeftParen >> w) ts us is ∙ then_walk (mark m.LeftParen) w us vs paren ∙ p.walks)
    p.fit p.high p.low)

vars_of_sound : (of : Option Ctype) (start ts : List Token) → result_walk of start ≡ Some ts → Holds (Is item_shape 64 start) (vars_of of ts)
unfolding vars_of item_shape vars_shape
vars_of_sound None start ts result = holds_err (Is item_shape 64 start) Wrong
vars_of_sound (Some of) start ts result =
    let P = Is item_shape 64 start in
    holds_bind P (Is vars_shape 64 start) (declarations 64 of ts) _ (declarations_sound 64 of start ts result) (λ x v.
    holds_ok P ((i.Vars x.0.0, max 1 x.0.1), x.1) (record {
      walks = v.walks;
      fit = v.fit;
      high = omega (arith, v.high);
      low = omega (arith, v.low);
    }))

item_of_sound : (of : Option Ctype) (start ts : List Token) → result_walk of start ≡ Some ts → Holds (Is item_shape 64 start) (item_of of ts)
unfolding item_of
item_of_sound of start ts result =
    let P = Is item_shape 64 start in
    holds_name P ts _ (λ x name. let n = name_is ts x name in
    holds_found P (mark m.LeftParen x.1) _ _ (vars_of_sound of start ts result) (λ us paren. function_sound of x.0 start ts x.1 us result n.begins n.walks paren))

pub item_sound : (ts : List Token) → Holds (Is item_shape 64 ts) (read_item ts)
unfolding read_item
item_sound ts =
    let P = Is item_shape 64 ts in
    holds_found P (key k.Void ts) _ _
    (holds_found P (type_at ts) (Err Wrong) _ (holds_err P Wrong) (λ x type. item_of_sound (Some x.0) ts x.1 (type_is ts x type)))
    (λ us void. item_of_sound None ts us void)

ended : (us vs : List Token) → at_end us ≡ Some vs → us ≡ []
ended [] vs e = refl
ended (t ∷ us) vs e = cc

-- what is read is a unit
pub unit_sound : (ts : List Token) → Holds (λ y. UnitOf ts (tree_of y)) (read_items ts)
unfolding read_items item_shape
unit_sound ts = record {
  of = λ y read.
      let u = (repeated_sound item_shape 64 read_item item_sound at_end (length ts + 1) ts).of y read in
      record {
        derives = record { walk = u.walks ∙ ap Some (ended u.last y.1 u.stop); fits = u.fit };
        low = le-leb (highest item_height y.0.0) 64 (omega (arith, u.high, u.low));
      };
}
