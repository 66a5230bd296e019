-- What is read of declarations and statements derives the tokens.
use Rattle.std.proofs.Common.{◌≡◌, ℕ, zero, suc, ◌+◌, ◌≤◌, max, Bool, true, false, not, ◌&&◌, List, [], ◌∷◌, map, length, Option, Some, None, Result, Ok, Err, refl, sym, ap, ◌∙◌, subst, arith}
use Rattle.std.proofs.Common.{lit≤}
use Rattle.std.specs.Prelude.{if◌then◌else◌, option_map, is_some, ◌||◌}
use Rattle.std.specs.List.{list_all}
use Rattle.nm_base.specs.declared.operator.Ctype.{Ctype}
use Rattle.nm_base.specs.declared.operator.Ctype.TheVariants.{Int, Unsigned}
use Rattle.c_lexer.specs.declared.token.Token.{Token}
use Rattle.c_lexer.specs.declared.token.Tok.{Tok}
use Rattle.c_lexer.specs.declared.token.Tok.TheVariants as tok
use Rattle.c_lexer.specs.declared.token.Key.{Key}
use Rattle.c_lexer.specs.declared.token.Key.TheVariants as k
use Rattle.c_lexer.specs.declared.token.Mark.{Mark}
use Rattle.c_lexer.specs.declared.token.Mark.TheVariants as m
use Rattle.c_lexer.specs.contracts.token.Key.{the_type as keys}
use denote.Enum.Bare.{same_true, true_same}
use Rattle.c_tree.specs.declared.tree.Expr.{Expr}
use Rattle.c_tree.specs.declared.tree.Declr.{Declr}
use Rattle.c_tree.specs.declared.tree.Vars.{Vars}
use Rattle.c_tree.specs.declared.tree.Label.{Label}
use Rattle.c_tree.specs.declared.tree.Arm.{Arm}
use Rattle.c_tree.specs.declared.tree.Stmt.{Stmt}
use Rattle.c_tree.specs.declared.tree.Stmt.TheVariants as s
use Rattle.c_tree.specs.declared.tree.Stmt.TheOpen.{Stmt-F}
use Rattle.c_parser.specs.declared.expr.Operand.{Operand}
use Rattle.c_parser.specs.Tokens.{is_key}
use Rattle.c_parser.specs.Walk.{Walk, ◌>>◌, stay, past, mark, key, named, each, commas, listed, on}
use Rattle.c_parser.specs.Expr.{fits_at, part_of}
use Rattle.c_parser.specs.Stmt as tree
use Rattle.c_parser.specs.Stmt.{StmtPart, ArmPart, highest, is_empty, any_walk, any_height, any_fits, past_int, type_walk, declr_walk, declr_fits, declr_height, vars_walk, vars_fit, vars_height}
use Rattle.c_parser.specs.Stmt.{label_walk, label_fits, label_height, returned_height, stmt_step, arm_step, stmt_part, arm_part}
use Rattle.c_lexer.specs.Lexemes.{◌>>=◌}
use Rattle.c_parser.specs.private.Reader.{Failure, Wrong, TooDeep, Reader, if_found, at_mark, after, expected}
use Rattle.c_parser.specs.private.ReadExpr.{line_at, read_expr}
use Rattle.c_parser.specs.private.ReadStmt.{consed, repeated, separated, some_of, name_by, name_at, found, expect_name, type_by, type_at, is_declr_end, size_of, start_of, declr_end}
use Rattle.c_parser.specs.private.ReadStmt.{declarator, declarations, no_type, local, locals, condition, present, optional, label_by, label, begins_label, no_label, labels, list_end, leaf, returned, run}
use Rattle.c_parser.specs.private.ReadStmt.{statements, otherwise, block, branch, whiled, done, counted, arm, arms, switched, stmt_by, stmt, read_stmt}
use Rattle.c_parser.proofs.Steps.{mark_is, mark_takes, at_mark_some, past_some, takes_name, on_own, then_some}
use Rattle.c_parser.proofs.Spells.{then_walk, both, fits_is}
use Rattle.c_parser.proofs.Holds.{Holds, holds_ok, holds_err, holds_bind, holds_expect, holds_found, holds_if}
use Rattle.c_parser.proofs.Sound.{expr_sound}
use Rattle.c_parser.proofs.StmtLaws.{part-Block, part-Empty, part-Run, part-If, part-While, part-Do, part-For, part-Break, part-Continue, part-Return, part-Switch, part-Arm}

-- ---- keywords

pub record Keyed (l : Key) (ts rest : List Token) : Type 0 where
  pub token : Token
  pub tokens : ts ≡ token ∷ rest
  pub kind : token.kind ≡ tok.Keyword l

key_of : (l : Key) (o : Tok) → is_key l o ≡ true → o ≡ tok.Keyword l
key_of l (tok.Keyword n) e = ap (λ x. tok.Keyword x) (same_true keys tt n l e)
key_of l tok.Name e = cc
key_of l (tok.Mark n) e = cc
key_of l (tok.Const bits of) e = cc
key_of l tok.Text e = cc

pub keyed : (l : Key) (ts rest : List Token) → key l ts ≡ Some rest → Keyed l ts rest
keyed l [] rest e = cc
keyed l (t ∷ ts) rest e =
    let p = past_some (λ t. is_key l t.kind) t ts rest e in
    record { token = t; tokens = ap (λ xs. t ∷ xs) p.1; kind = key_of l t.kind p.0 }

is_key_self : (l : Key) → is_key l (tok.Keyword l) ≡ true
is_key_self l = true_same keys l l refl

pub key_takes : (l : Key) (t : Token) (ts : List Token) → t.kind ≡ tok.Keyword l → key l (t ∷ ts) ≡ Some ts
key_takes l t ts e = rw (e, past) (rw (is_key_self l, past) refl)

-- ---- what is read of something

-- the tokens, the test of the grammar and the height of a kind of parts
pub record Shape (A : Type 0) : Type 0 where
  pub walk : A → Walk
  pub fits : A → Bool
  pub height : A → ℕ

pub record Is {A : Type 0} (s : Shape A) (limit : ℕ) (ts : List Token) (y : (A × ℕ) × List Token) : Type 0 where
  pub walks : s.walk y.0.0 ts ≡ Some y.1
  pub fit : s.fits y.0.0 ≡ true
  pub high : s.height y.0.0 ≡ y.0.1
  pub low : y.0.1 ≤ limit

pub record Until {A : Type 0} (s : Shape A) (limit : ℕ) (stops : List Token → Option (List Token)) (ts : List Token) (y : (List A × ℕ) × List Token) : Type 0 where
  pub last : List Token
  pub walks : each s.walk y.0.0 ts ≡ Some last
  pub stop : stops last ≡ Some y.1
  pub fit : list_all s.fits y.0.0 ≡ true
  pub high : highest s.height y.0.0 ≡ y.0.1
  pub low : y.0.1 ≤ limit

pub record Commas {A : Type 0} (s : Shape A) (limit : ℕ) (end : Mark) (ts : List Token) (y : (List A × ℕ) × List Token) : Type 0 where
  pub last : List Token
  pub walks : listed s.walk y.0.0 ts ≡ Some last
  pub close : mark end last ≡ Some y.1
  pub fit : list_all s.fits y.0.0 ≡ true
  pub high : highest s.height y.0.0 ≡ y.0.1
  pub low : y.0.1 ≤ limit

module _ {A : Type 0} (s : Shape A) (limit : ℕ) (item : Reader (A × ℕ)) (sound : (ts : List Token) → Holds (Is s limit ts) (item ts)) where
  pub repeated_sound : (stops : List Token → Option (List Token)) (n : ℕ) (ts : List Token) → Holds (Until s limit stops ts) (repeated stops item n ts)
  unfolding repeated
  repeated_sound stops zero ts = holds_err (Until s limit stops ts) Wrong
  repeated_sound stops (suc n) ts =
      let P = Until s limit stops ts in
      holds_found P (stops ts) _ _
      (holds_bind P (Is s limit ts) (item ts) _ (sound ts) (λ x i.
      holds_bind P (Until s limit stops x.1) (repeated stops item n x.1) _ (repeated_sound stops n x.1) (λ xs u.
      holds_ok P ((x.0.0 ∷ xs.0.0, max x.0.1 xs.0.1), xs.1) (record {
        last = u.last;
        walks = then_walk (s.walk x.0.0) (each s.walk xs.0.0) ts x.1 i.walks ∙ u.walks;
        stop = u.stop;
        fit = both (s.fits x.0.0) (list_all s.fits xs.0.0) i.fit u.fit;
        high = omega (arith, i.high, u.high);
        low = omega (arith, i.low, u.low);
      }))))
      (λ rest stop. holds_ok P (([], 0), rest) (record { last = ts; walks = refl; stop = stop; fit = refl; high = refl; low = omega arith }))

  commas_listed : (xs : List A) (ts us last : List Token) → mark m.Comma ts ≡ Some us → listed s.walk xs us ≡ Some last → commas s.walk xs ts ≡ Some last
  commas_listed [] ts us last comma walks = absurd cc
  commas_listed (x ∷ xs) ts us last comma walks = then_walk (mark m.Comma) (s.walk x >> commas s.walk xs) ts us comma ∙ walks

  abbrev pub Separator : (Mark → Option Bool) → Mark → Type 0
  Separator more end = (n : Mark) (b : Bool) → more n ≡ Some b → n ≡ (if b then m.Comma else end)

  go_on_separated : (more : Mark → Option Bool) (end : Mark) (n : ℕ) (ts us next : List Token) (x : A × ℕ) (b : Bool) → Is s limit ts (x, us) → mark (if b then m.Comma else end) us ≡ Some next
      → Holds (Commas s limit end next) (separated more item n next)
      → Holds (Commas s limit end ts) (if b then (separated more item n next >>= λ xs. consed x xs) else Ok ((x.0 ∷ [], x.1), next))
  go_on_separated more end n ts us next x true i e again =
      let P = Commas s limit end ts in
      holds_bind P (Commas s limit end next) (separated more item n next) _ again (λ xs u.
      holds_ok P ((x.0 ∷ xs.0.0, max x.1 xs.0.1), xs.1) (record {
        last = u.last;
        walks = then_walk (s.walk x.0) (commas s.walk xs.0.0) ts us i.walks ∙ commas_listed xs.0.0 us next u.last e u.walks;
        close = u.close;
        fit = both (s.fits x.0) (list_all s.fits xs.0.0) i.fit u.fit;
        high = omega (arith, i.high, u.high);
        low = omega (arith, i.low, u.low);
      }))
  go_on_separated more end n ts us next x false i e again = holds_ok (Commas s limit end ts) ((x.0 ∷ [], x.1), next) (record {
    last = us;
    walks = then_walk (s.walk x.0) stay ts us i.walks;
    close = e;
    fit = both (s.fits x.0) true i.fit refl;
    high = omega (arith, i.high);
    low = i.low;
  })

  pub separated_sound : (more : Mark → Option Bool) (end : Mark) → Separator more end → (n : ℕ) (ts : List Token) → Holds (Commas s limit end ts) (separated more item n ts)
  unfolding separated
  separated_sound more end is zero ts = holds_err (Commas s limit end ts) Wrong
  separated_sound more end is (suc n) ts =
      let P = Commas s limit end ts in
      holds_bind P (Is s limit ts) (item ts) _ (sound ts) (λ x i.
      holds_found P (at_mark more x.1) (Err Wrong) _ (holds_err P Wrong) (λ y mk.
      let f = at_mark_some more x.1 y.0 y.1 mk in
      go_on_separated more end n ts x.1 y.1 x.0 y.0 i (subst (λ o. mark o x.1 ≡ Some y.1) (is f.0 y.0 f.2) (mark_is f.0 x.1 y.1 f.1)) (separated_sound more end is n y.1)))

-- at least one
pub holds_some : {A : Type 0} (P : (List A × ℕ) × List Token → Type 0) (r : Result ((List A × ℕ) × List Token) Failure) → Holds P r → Holds (λ y. P y × (is_empty y.0.0 ≡ false)) (some_of r)
holds_some {A = A} P r h =
    let Q = λ (y : (List A × ℕ) × List Token). P y × (is_empty y.0.0 ≡ false) in
    holds_bind Q P r _ h (λ y p. holds_if Q (is_empty y.0.0) (Err Wrong) (Ok y) (λ _. holds_err Q Wrong) (λ e. holds_ok Q y (p, e)))

-- ---- expressions, with their heights

pub record IsPhrase (limit level : ℕ) (ts : List Token) (y : Operand × List Token) : Type 0 where
  pub walks : (part_of y.0.expr).walk ts ≡ Some y.1
  pub fit : fits_at level (part_of y.0.expr) ≡ true
  pub high : (part_of y.0.expr).height ≡ y.0.height
  pub low : y.0.height ≤ limit

pub part_sound : (limit level : ℕ) (ts : List Token) → level ≤ 14 → Holds (IsPhrase limit level ts) (read_expr limit level ts)
part_sound limit level ts le = record {
  of = λ y read. let h = (expr_sound limit level ts le).of y read in record {
    walks = h.spells.walk;
    fit = fits_is level y.0.level (part_of y.0.expr) h.spells.fits h.spells.level_is h.at;
    high = h.spells.height_is;
    low = h.low;
  };
}

pub record Condition (limit : ℕ) (ts : List Token) (y : Operand × List Token) : Type 0 where
  pub walks : (mark m.LeftParen >> (part_of y.0.expr).walk >> mark m.RightParen) ts ≡ Some y.1
  pub fit : fits_at 14 (part_of y.0.expr) ≡ true
  pub high : (part_of y.0.expr).height ≡ y.0.height
  pub low : y.0.height ≤ limit

pub condition_sound : (limit : ℕ) (ts : List Token) → Holds (Condition limit ts) (condition limit ts)
unfolding condition
condition_sound limit ts =
    let P = Condition limit ts in
    holds_expect P m.LeftParen ts _ (λ us begun.
    holds_bind P (IsPhrase limit 14 us) (read_expr limit 14 us) _ (part_sound limit 14 us (lit≤ tt)) (λ x p.
    holds_expect P m.RightParen x.1 _ (λ rest close.
    holds_ok P (x.0, rest) (let q = part_of x.0.expr in record {
      walks = then_walk (mark m.LeftParen) (q.walk >> mark m.RightParen) ts us begun ∙ then_walk q.walk (mark m.RightParen) us x.1 p.walks ∙ close;
      fit = p.fit;
      high = p.high;
      low = p.low;
    }))))

-- an expression up to a mark, if there is one
pub record Any (limit level : ℕ) (end : Mark) (ts : List Token) (y : (Option Expr × ℕ) × List Token) : Type 0 where
  pub walks : (any_walk y.0.0 >> mark end) ts ≡ Some y.1
  pub fit : any_fits level y.0.0 ≡ true
  pub high : any_height y.0.0 ≡ y.0.1
  pub low : y.0.1 ≤ limit

pub optional_sound : (level : ℕ) (end : Mark) (limit : ℕ) (ts : List Token) → level ≤ 14 → Holds (Any limit level end ts) (optional level end limit ts)
unfolding optional present
optional_sound level end limit ts le =
    let P = Any limit level end ts in
    holds_found P (mark end ts) _ _
    (holds_bind P (IsPhrase limit level ts) (read_expr limit level ts) _ (part_sound limit level ts le) (λ x p.
    holds_expect P end x.1 _ (λ rest close.
    holds_ok P ((Some x.0.expr, x.0.height), rest) (record {
      walks = then_walk (part_of x.0.expr).walk (mark end) ts x.1 p.walks ∙ close;
      fit = p.fit;
      high = p.high;
      low = p.low;
    }))))
    (λ rest close. holds_ok P ((None, 0), rest) (record { walks = close; fit = refl; high = refl; low = omega arith }))

-- ---- declarations

pub holds_name : {A : Type 0} (P : A → Type 0) (ts : List Token) (f : List ℕ × List Token → Result A Failure) → ((x : List ℕ × List Token) → name_at ts ≡ Some x → Holds P (f x))
    → Holds P (expect_name ts >>= f)
holds_name P ts f h = from (name_at ts) h
  where
    from : (o : Option (List ℕ × List Token)) → ((x : List ℕ × List Token) → o ≡ Some x → Holds P (f x)) → Holds P (found o >>= f)
    from None g = holds_err P Wrong
    from (Some x) g = g x refl

pub record Named (ts : List Token) (x : List ℕ × List Token) : Type 0 where
  pub begins : on (line_at ts) ts ≡ Some ts
  pub walks : named x.0 ts ≡ Some x.1

name_by_is : (o : Tok) (t : Token) (ts : List Token) (x : List ℕ × List Token) → t.kind ≡ o → name_by o t ts ≡ Some x → Named (t ∷ ts) x
name_by_is tok.Name t ts x e h =
    let same : (t.bytes, ts) ≡ x = cc in
    subst (Named (t ∷ ts)) same (record { begins = on_own t ts; walks = takes_name t ts e })
name_by_is tok.Text t ts x e h = cc
name_by_is (tok.Mark n) t ts x e h = cc
name_by_is (tok.Keyword l) t ts x e h = cc
name_by_is (tok.Const bits of) t ts x e h = cc

pub name_is : (ts : List Token) (x : List ℕ × List Token) → name_at ts ≡ Some x → Named ts x
name_is [] x e = cc
name_is (t ∷ ts) x e = name_by_is t.kind t ts x refl e

type_key : (l : Key) (ts rest : List Token) (x : Ctype × List Token) (t : Token) → t.kind ≡ tok.Keyword l → type_by (tok.Keyword l) ts ≡ Some x → type_walk x.0 (t ∷ ts) ≡ Some x.1
type_key k.Int ts rest x t e h =
    let same : (Int, ts) ≡ x = cc in
    subst (λ (y : Ctype × List Token). type_walk y.0 (t ∷ ts) ≡ Some y.1) same (rw e refl)
type_key k.Signed ts rest x t e h =
    let same : (Int, past_int ts) ≡ x = cc in
    subst (λ (y : Ctype × List Token). type_walk y.0 (t ∷ ts) ≡ Some y.1) same (rw e refl)
type_key k.Unsigned ts rest x t e h =
    let same : (Unsigned, past_int ts) ≡ x = cc in
    subst (λ (y : Ctype × List Token). type_walk y.0 (t ∷ ts) ≡ Some y.1) same (rw e refl)
type_key _ ts rest x t e h = cc

type_by_is : (o : Tok) (t : Token) (ts : List Token) (x : Ctype × List Token) → t.kind ≡ o → type_by o ts ≡ Some x → type_walk x.0 (t ∷ ts) ≡ Some x.1
type_by_is (tok.Keyword l) t ts x e h = type_key l ts ts x t e h
type_by_is tok.Name t ts x e h = cc
type_by_is tok.Text t ts x e h = cc
type_by_is (tok.Mark n) t ts x e h = cc
type_by_is (tok.Const bits of) t ts x e h = cc

pub type_is : (ts : List Token) (x : Ctype × List Token) → type_at ts ≡ Some x → type_walk x.0 ts ≡ Some x.1
type_is [] x e = cc
type_is (t ∷ ts) x e = type_by_is t.kind t ts x refl e

-- `[size]` or `= start` or nothing
pub record Ends (limit : ℕ) (ts : List Token) (y : ((Option Expr × Option Expr) × ℕ) × List Token) : Type 0 where
  pub walks : tree.declr_end y.0.0.0 y.0.0.1 ts ≡ Some y.1
  pub fit : (any_fits 12 y.0.0.0 && any_fits 13 y.0.0.1) ≡ true
  pub high : max (any_height y.0.0.0) (any_height y.0.0.1) ≡ y.0.1
  pub low : y.0.1 ≤ limit

declr_end_sound : (limit : ℕ) (ts : List Token) → Holds (Ends limit ts) (declr_end limit ts)
unfolding declr_end size_of start_of
declr_end_sound limit ts =
    let P = Ends limit ts in
    holds_found P (mark m.LeftBracket ts) _ _
    (holds_found P (mark m.Assign ts) _ _
    (holds_ok P (((None, None), 0), ts) (record { walks = refl; fit = refl; high = refl; low = omega arith }))
    (λ us found.
    holds_bind P (IsPhrase limit 13 us) (read_expr limit 13 us) _ (part_sound limit 13 us (lit≤ tt)) (λ x p.
    holds_ok P (((None, Some x.0.expr), x.0.height), x.1) (record {
      walks = then_walk (mark m.Assign) (part_of x.0.expr).walk ts us found ∙ p.walks;
      fit = p.fit;
      high = omega (arith, p.high);
      low = p.low;
    }))))
    (λ us found.
    holds_bind P (IsPhrase limit 12 us) (read_expr limit 12 us) _ (part_sound limit 12 us (lit≤ tt)) (λ x p.
    holds_expect P m.RightBracket x.1 _ (λ rest close.
    holds_ok P (((Some x.0.expr, None), x.0.height), rest) (let q = part_of x.0.expr in record {
      walks = then_walk (mark m.LeftBracket) (q.walk >> mark m.RightBracket) ts us found ∙ then_walk q.walk (mark m.RightBracket) us x.1 p.walks ∙ close;
      fit = both (fits_at 12 q) true p.fit refl;
      high = omega (arith, p.high);
      low = p.low;
    }))))

unfoldable pub declr_shape : Shape Declr
declr_shape = record { walk = declr_walk; fits = declr_fits; height = declr_height }

pub declarator_sound : (limit : ℕ) (ts : List Token) → Holds (Is declr_shape limit ts) (declarator limit ts)
unfolding declarator declr_shape
declarator_sound limit ts =
    let P = Is declr_shape limit ts in
    holds_name P ts _ (λ x name. let n = name_is ts x name in
    holds_bind P (Ends limit x.1) (declr_end limit x.1) _ (declr_end_sound limit x.1) (λ y e.
    let d : Declr = record { name = x.0; size = y.0.0.0; start = y.0.0.1; line = line_at ts } in
    holds_ok P ((d, y.0.1), y.1) (record {
      walks = then_walk (on (line_at ts)) (named x.0 >> tree.declr_end y.0.0.0 y.0.0.1) ts ts n.begins
          ∙ then_walk (named x.0) (tree.declr_end y.0.0.0 y.0.0.1) ts x.1 n.walks ∙ e.walks;
      fit = e.fit;
      high = e.high;
      low = e.low;
    })))

declr_end_is : (n : Mark) (b : Bool) → is_declr_end n ≡ Some b → n ≡ (if b then m.Comma else m.Semicolon)
declr_end_is m.Comma true e = refl
declr_end_is m.Comma false e = cc
declr_end_is m.Semicolon true e = cc
declr_end_is m.Semicolon false e = refl
declr_end_is _ b e = cc

unfoldable pub vars_shape : Shape Vars
vars_shape = record { walk = vars_walk; fits = vars_fit; height = vars_height }

-- declarations of a type that was read before
pub declarations_sound : (limit : ℕ) (of : Ctype) (ts us : List Token) → type_walk of ts ≡ Some us → Holds (Is vars_shape limit ts) (declarations limit of us)
unfolding declarations vars_shape declr_shape
declarations_sound limit of ts us type =
    let P = Is vars_shape limit ts in
    holds_bind P (Commas declr_shape limit m.Semicolon us) (separated is_declr_end (declarator limit) (length us + 1) us) _
    (separated_sound declr_shape limit (declarator limit) (declarator_sound limit) is_declr_end m.Semicolon declr_end_is (length us + 1) us) (λ x c.
    holds_ok P ((record { of = of; list = x.0.0 }, x.0.1), x.1) (record {
      walks = then_walk (type_walk of) (listed declr_walk x.0.0 >> mark m.Semicolon) ts us type
          ∙ then_walk (listed declr_walk x.0.0) (mark m.Semicolon) us c.last c.walks ∙ c.close;
      fit = c.fit;
      high = c.high;
      low = c.low;
    }))

pub local_sound : (limit : ℕ) (ts : List Token) → Holds (Is vars_shape limit ts) (local limit ts)
unfolding local
local_sound limit ts =
    let P = Is vars_shape limit ts in
    holds_found P (type_at ts) (Err Wrong) _ (holds_err P Wrong) (λ x type. declarations_sound limit x.0 ts x.1 (type_is ts x type))

stopped : (b : Bool) (ts last : List Token) → (if b then None else Some ts) ≡ Some last → ts ≡ last
stopped true ts last e = cc
stopped false ts last e = cc

going : (b : Bool) (ts last : List Token) → (if b then Some ts else None) ≡ Some last → ts ≡ last
going true ts last e = cc
going false ts last e = cc

pub record All {A : Type 0} (s : Shape A) (limit : ℕ) (ts : List Token) (y : (List A × ℕ) × List Token) : Type 0 where
  pub walks : each s.walk y.0.0 ts ≡ Some y.1
  pub fit : list_all s.fits y.0.0 ≡ true
  pub high : highest s.height y.0.0 ≡ y.0.1
  pub low : y.0.1 ≤ limit

-- items that stop without taking a token
pub all_of : {A : Type 0} (s : Shape A) (limit : ℕ) (stops : List Token → Option (List Token)) (ts : List Token) (r : Result ((List A × ℕ) × List Token) Failure)
    → ((us vs : List Token) → stops us ≡ Some vs → us ≡ vs) → Holds (Until s limit stops ts) r → Holds (All s limit ts) r
all_of s limit stops ts r same h = record { of = λ y read. let u = h.of y read in record { walks = u.walks ∙ ap Some (same u.last y.1 u.stop); fit = u.fit; high = u.high; low = u.low } }

pub locals_sound : (limit : ℕ) (ts : List Token) → Holds (All vars_shape limit ts) (locals limit ts)
unfolding locals
locals_sound limit ts = all_of vars_shape limit no_type ts _ (λ us vs e. stopped (is_some (type_at us)) us vs e)
    (repeated_sound vars_shape limit (local limit) (local_sound limit) no_type (length ts + 1) ts)

-- ---- labels

unfoldable pub label_shape : Shape Label
label_shape = record { walk = label_walk; fits = label_fits; height = label_height }

default_sound : (limit : ℕ) (t : Token) (ts : List Token) → t.kind ≡ tok.Keyword k.Default → Holds (Is label_shape limit (t ∷ ts)) (label_by limit (tok.Keyword k.Default) t.line ts)
unfolding label_shape
default_sound limit t ts e =
    let P = Is label_shape limit (t ∷ ts) in
    holds_expect P m.Colon ts _ (λ rest colon.
    holds_ok P ((record { value = None; line = t.line }, 0), rest) (record {
      walks = then_walk (on t.line) (key k.Default >> mark m.Colon) (t ∷ ts) (t ∷ ts) (on_own t ts)
          ∙ then_walk (key k.Default) (mark m.Colon) (t ∷ ts) ts (key_takes k.Default t ts e) ∙ colon;
      fit = refl;
      high = refl;
      low = omega arith;
    }))

case_sound : (limit : ℕ) (t : Token) (ts : List Token) → t.kind ≡ tok.Keyword k.Case → Holds (Is label_shape limit (t ∷ ts)) (label_by limit (tok.Keyword k.Case) t.line ts)
unfolding label_shape
case_sound limit t ts e =
    let P = Is label_shape limit (t ∷ ts) in
    holds_bind P (IsPhrase limit 12 ts) (read_expr limit 12 ts) _ (part_sound limit 12 ts (lit≤ tt)) (λ x p.
    holds_expect P m.Colon x.1 _ (λ rest colon.
    holds_ok P ((record { value = Some x.0.expr; line = t.line }, x.0.height), rest) (let q = part_of x.0.expr in record {
      walks = then_walk (on t.line) ((key k.Case >> q.walk) >> mark m.Colon) (t ∷ ts) (t ∷ ts) (on_own t ts)
          ∙ then_walk (key k.Case >> q.walk) (mark m.Colon) (t ∷ ts) x.1 (then_walk (key k.Case) q.walk (t ∷ ts) ts (key_takes k.Case t ts e) ∙ p.walks) ∙ colon;
      fit = p.fit;
      high = p.high;
      low = p.low;
    })))

label_key_sound : (limit : ℕ) (l : Key) (t : Token) (ts : List Token) → t.kind ≡ tok.Keyword l → Holds (Is label_shape limit (t ∷ ts)) (label_by limit (tok.Keyword l) t.line ts)
label_key_sound limit k.Default t ts e = default_sound limit t ts e
label_key_sound limit k.Case t ts e = case_sound limit t ts e
label_key_sound limit _ t ts e = holds_err (Is label_shape limit (t ∷ ts)) Wrong

label_by_sound : (limit : ℕ) (o : Tok) (t : Token) (ts : List Token) → t.kind ≡ o → Holds (Is label_shape limit (t ∷ ts)) (label_by limit o t.line ts)
label_by_sound limit (tok.Keyword l) t ts e = label_key_sound limit l t ts e
label_by_sound limit tok.Name t ts e = holds_err (Is label_shape limit (t ∷ ts)) Wrong
label_by_sound limit tok.Text t ts e = holds_err (Is label_shape limit (t ∷ ts)) Wrong
label_by_sound limit (tok.Mark n) t ts e = holds_err (Is label_shape limit (t ∷ ts)) Wrong
label_by_sound limit (tok.Const bits of) t ts e = holds_err (Is label_shape limit (t ∷ ts)) Wrong

pub label_sound : (limit : ℕ) (ts : List Token) → Holds (Is label_shape limit ts) (label limit ts)
unfolding label
label_sound limit [] = holds_err (Is label_shape limit []) Wrong
label_sound limit (t ∷ ts) = label_by_sound limit t.kind t ts refl

pub labels_sound : (limit : ℕ) (ts : List Token) → Holds (λ y. All label_shape limit ts y × (is_empty y.0.0 ≡ false)) (labels limit ts)
unfolding labels
labels_sound limit ts = holds_some (All label_shape limit ts) _
    (all_of label_shape limit no_label ts _ (λ us vs e. stopped (begins_label us) us vs e) (repeated_sound label_shape limit (label limit) (label_sound limit) no_label (length ts + 1) ts))

-- ---- statements

unfoldable pub stmt_shape : Shape Stmt
stmt_shape = record { walk = λ x. (stmt_part x).walk; fits = λ x. (stmt_part x).fits; height = λ x. (stmt_part x).height }

unfoldable pub arm_shape : Shape Arm
arm_shape = record { walk = λ x. (arm_part x).walk; fits = λ x. (arm_part x).fits; height = λ x. (arm_part x).height }

-- an `else` that the statement would take doesn't come next
pub record IsPart (limit : ℕ) (ts : List Token) (p : StmtPart) (height : ℕ) (rest : List Token) : Type 0 where
  pub walks : p.walk ts ≡ Some rest
  pub fit : p.fits ≡ true
  pub high : p.height ≡ height
  pub low : height ≤ limit
  pub stop : p.takes_else ≡ true → key k.Else rest ≡ None

abbrev pub IsStmt : ℕ → List Token → (Stmt × ℕ) × List Token → Type 0
IsStmt limit ts y = IsPart limit ts (stmt_part y.0.0) y.0.1 y.1

-- a statement's part is that of its form
pub by_form : (limit : ℕ) (ts rest : List Token) (x : Stmt) (form : StmtPart) (height : ℕ) → stmt_part x ≡ form → IsPart limit ts form height rest → IsStmt limit ts ((x, height), rest)
by_form limit ts rest x form height e p = subst (λ o. IsPart limit ts o height rest) (sym e) p

stmt_is : (limit : ℕ) (ts : List Token) (r : Result ((Stmt × ℕ) × List Token) Failure) → Holds (IsStmt limit ts) r → Holds (Is stmt_shape limit ts) r
unfolding stmt_shape
stmt_is limit ts r h = record { of = λ y read. let p = h.of y read in record { walks = p.walks; fit = p.fit; high = p.high; low = p.low } }

-- parts of a list, by their forms
each_map : {A B : Type 0} (f : A → B) (w : B → Walk) (xs : List A) → each w (map f xs) ≡ each (λ x. w (f x)) xs
each_map f w [] = refl
each_map f w (x ∷ xs) = ap (λ v. w (f x) >> v) (each_map f w xs)

fit_map : {A B : Type 0} (f : A → B) (t : B → Bool) (xs : List A) → list_all t (map f xs) ≡ list_all (λ x. t (f x)) xs
fit_map f t [] = refl
fit_map f t (x ∷ xs) = ap (λ b. t (f x) && b) (fit_map f t xs)

high_map : {A B : Type 0} (f : A → B) (h : B → ℕ) (xs : List A) → highest h (map f xs) ≡ highest (λ x. h (f x)) xs
high_map f h [] = refl
high_map f h (x ∷ xs) = ap (λ n. max (h (f x)) n) (high_map f h xs)

empty_map : {A B : Type 0} (f : A → B) (xs : List A) → is_empty (map f xs) ≡ is_empty xs
empty_map f [] = refl
empty_map f (x ∷ xs) = refl

pub stmts_walk : (xs : List Stmt) → each (λ (x : StmtPart). x.walk) (map stmt_part xs) ≡ each (λ x. (stmt_part x).walk) xs
stmts_walk xs = each_map stmt_part (λ (x : StmtPart). x.walk) xs

pub stmts_fit : (xs : List Stmt) → list_all (λ (x : StmtPart). x.fits) (map stmt_part xs) ≡ list_all (λ x. (stmt_part x).fits) xs
stmts_fit xs = fit_map stmt_part (λ (x : StmtPart). x.fits) xs

pub stmts_high : (xs : List Stmt) → highest (λ (x : StmtPart). x.height) (map stmt_part xs) ≡ highest (λ x. (stmt_part x).height) xs
stmts_high xs = high_map stmt_part (λ (x : StmtPart). x.height) xs

pub arms_walk : (xs : List Arm) → each (λ (x : ArmPart). x.walk) (map arm_part xs) ≡ each (λ x. (arm_part x).walk) xs
arms_walk xs = each_map arm_part (λ (x : ArmPart). x.walk) xs

pub arms_fit : (xs : List Arm) → list_all (λ (x : ArmPart). x.fits) (map arm_part xs) ≡ list_all (λ x. (arm_part x).fits) xs
arms_fit xs = fit_map arm_part (λ (x : ArmPart). x.fits) xs

pub arms_high : (xs : List Arm) → highest (λ (x : ArmPart). x.height) (map arm_part xs) ≡ highest (λ x. (arm_part x).height) xs
arms_high xs = high_map arm_part (λ (x : ArmPart). x.height) xs

pub stmts_empty : (xs : List Stmt) → is_empty (map stmt_part xs) ≡ is_empty xs
stmts_empty xs = empty_map stmt_part xs

returned_is : (value : Option Expr) → returned_height value ≡ suc (any_height value)
returned_is None = refl
returned_is (Some x) = refl

leaf_sound : (below : ℕ) (l : Key) (x : Stmt) (t : Token) (ts : List Token) → t.kind ≡ tok.Keyword l → stmt_part x ≡ tree.leaf_stmt (on t.line >> key l >> mark m.Semicolon)
    → Holds (IsStmt (suc below) (t ∷ ts)) (leaf x ts)
unfolding leaf
leaf_sound below l x t ts e form =
    let P = IsStmt (suc below) (t ∷ ts) in
    holds_expect P m.Semicolon ts _ (λ rest close.
    holds_ok P ((x, 1), rest) (by_form (suc below) (t ∷ ts) rest x _ 1 form (record {
      walks = then_walk (on t.line) (key l >> mark m.Semicolon) (t ∷ ts) (t ∷ ts) (on_own t ts)
          ∙ then_walk (key l) (mark m.Semicolon) (t ∷ ts) ts (key_takes l t ts e) ∙ close;
      fit = refl;
      high = refl;
      low = omega arith;
      stop = λ no. cc;
    })))

returned_sound : (below : ℕ) (t : Token) (ts : List Token) → t.kind ≡ tok.Keyword k.Return → Holds (IsStmt (suc below) (t ∷ ts)) (returned below t.line ts)
unfolding returned
returned_sound below t ts e =
    let P = IsStmt (suc below) (t ∷ ts) in
    holds_bind P (Any below 14 m.Semicolon ts) (optional 14 m.Semicolon below ts) _ (optional_sound 14 m.Semicolon below ts (lit≤ tt)) (λ x a.
    holds_ok P ((s.Return x.0.0 t.line, suc x.0.1), x.1) (by_form (suc below) (t ∷ ts) x.1 (s.Return x.0.0 t.line) _ (suc x.0.1) (part-Return x.0.0 t.line) (record {
      walks = then_walk (on t.line) (key k.Return >> any_walk x.0.0 >> mark m.Semicolon) (t ∷ ts) (t ∷ ts) (on_own t ts)
          ∙ then_walk (key k.Return) (any_walk x.0.0 >> mark m.Semicolon) (t ∷ ts) ts (key_takes k.Return t ts e) ∙ a.walks;
      fit = a.fit;
      high = returned_is x.0.0 ∙ ap suc a.high;
      low = omega (arith, a.low);
      stop = λ no. cc;
    })))

run_sound : (below : ℕ) (t : Token) (ts : List Token) → Holds (IsStmt (suc below) (t ∷ ts)) (run below t.line (t ∷ ts))
unfolding run
run_sound below t ts =
    let P = IsStmt (suc below) (t ∷ ts) in
    holds_bind P (IsPhrase below 14 (t ∷ ts)) (read_expr below 14 (t ∷ ts)) _ (part_sound below 14 (t ∷ ts) (lit≤ tt)) (λ x p.
    holds_expect P m.Semicolon x.1 _ (λ rest close.
    holds_ok P ((s.Run x.0.expr t.line, suc x.0.height), rest) (let q = part_of x.0.expr in
    by_form (suc below) (t ∷ ts) rest (s.Run x.0.expr t.line) _ (suc x.0.height) (part-Run x.0.expr t.line) (record {
      walks = then_walk (on t.line) (q.walk >> mark m.Semicolon) (t ∷ ts) (t ∷ ts) (on_own t ts)
          ∙ then_walk q.walk (mark m.Semicolon) (t ∷ ts) x.1 p.walks ∙ close;
      fit = p.fit;
      high = ap suc p.high;
      low = omega (arith, p.low);
      stop = λ no. cc;
    }))))

-- a walk that begins with a keyword on its line
first_key : (l : Key) (t : Token) (ts : List Token) (w : Walk) → t.kind ≡ tok.Keyword l → (on t.line >> key l >> w) (t ∷ ts) ≡ w ts
first_key l t ts w e = then_walk (on t.line) (key l >> w) (t ∷ ts) (t ∷ ts) (on_own t ts) ∙ then_walk (key l) w (t ∷ ts) ts (key_takes l t ts e)

first_mark : (n : Mark) (t : Token) (ts : List Token) (w : Walk) → t.kind ≡ tok.Mark n → (on t.line >> mark n >> w) (t ∷ ts) ≡ w ts
first_mark n t ts w e = then_walk (on t.line) (mark n >> w) (t ∷ ts) (t ∷ ts) (on_own t ts) ∙ then_walk (mark n) w (t ∷ ts) ts (mark_takes n t ts e)

-- an expression in parentheses, and more
paren_walk : (w v : Walk) (ts us : List Token) → (mark m.LeftParen >> w >> mark m.RightParen) ts ≡ Some us → (mark m.LeftParen >> w >> mark m.RightParen >> v) ts ≡ v us
paren_walk w v ts us e =
    let p = then_some (mark m.LeftParen) (w >> mark m.RightParen) ts us e in
    let q = then_some w (mark m.RightParen) p.0 us p.2 in
    then_walk (mark m.LeftParen) (w >> mark m.RightParen >> v) ts p.0 p.1 ∙ then_walk w (mark m.RightParen >> v) p.0 q.0 q.1 ∙ then_walk (mark m.RightParen) v q.0 us q.2

-- something that may be missing up to a mark, and more
any_then : (x : Option Expr) (n : Mark) (v : Walk) (ts us : List Token) → (any_walk x >> mark n) ts ≡ Some us → (any_walk x >> mark n >> v) ts ≡ v us
any_then x n v ts us e =
    let p = then_some (any_walk x) (mark n) ts us e in
    then_walk (any_walk x) (mark n >> v) ts p.0 p.1 ∙ then_walk (mark n) v p.0 us p.2

pub holds_expected : {A : Type 0} (P : A → Type 0) (o : Option (List Token)) (f : List Token → Result A Failure) → ((us : List Token) → o ≡ Some us → Holds P (f us)) → Holds P (expected o >>= f)
holds_expected P None f h = holds_err P Wrong
holds_expected P (Some us) f h = h us refl

module _ (below : ℕ) (lower : Reader (Stmt × ℕ)) (sound : (ts : List Token) → Holds (IsStmt below ts) (lower ts)) where
  statements_sound : (ts : List Token) → Holds (All stmt_shape below ts) (statements lower ts)
  unfolding statements
  statements_sound ts = all_of stmt_shape below list_end ts _ (λ us vs e. going (is_some (after m.RightBrace us) || begins_label us) us vs e)
      (repeated_sound stmt_shape below lower (λ us. stmt_is below us (lower us) (sound us)) list_end (length ts + 1) ts)

  pub block_sound : (t : Token) (ts : List Token) → t.kind ≡ tok.Mark m.LeftBrace → Holds (IsStmt (suc below) (t ∷ ts)) (block below lower t.line ts)
  unfolding vars_shape stmt_shape block
  block_sound t ts e =
      let P = IsStmt (suc below) (t ∷ ts) in
      holds_bind P (All vars_shape below ts) (locals below ts) _ (locals_sound below ts) (λ x a.
      holds_bind P (All stmt_shape below x.1) (statements lower x.1) _ (statements_sound x.1) (λ y u.
      holds_expect P m.RightBrace y.1 _ (λ rest close.
      let v = each vars_walk x.0.0 in let w = each (λ (z : StmtPart). z.walk) (map stmt_part y.0.0) in
      holds_ok P ((s.Block x.0.0 y.0.0 t.line, suc (max x.0.1 y.0.1)), rest)
      (by_form (suc below) (t ∷ ts) rest (s.Block x.0.0 y.0.0 t.line) _ (suc (max x.0.1 y.0.1)) (part-Block x.0.0 y.0.0 t.line) (record {
        walks = first_mark m.LeftBrace t ts (v >> w >> mark m.RightBrace) e
            ∙ then_walk v (w >> mark m.RightBrace) ts x.1 a.walks
            ∙ then_walk w (mark m.RightBrace) x.1 y.1 (ap (λ (o : Walk). o x.1) (stmts_walk y.0.0) ∙ u.walks) ∙ close;
        fit = both (list_all vars_fit x.0.0) _ a.fit (stmts_fit y.0.0 ∙ u.fit);
        high = let h = stmts_high y.0.0 in omega (arith, h, a.high, u.high);
        low = omega (arith, a.low, u.low);
        stop = λ no. cc;
      })))))

  -- an `else` and its statement, or neither
  abbrev Elsed : List Token → Option Stmt → ℕ → List Token → Type 0
  Elsed ts None h rest = (h ≡ 0) × (key k.Else ts ≡ None) × (ts ≡ rest)
  Elsed ts (Some x) h rest = (us : List Token) × (key k.Else ts ≡ Some us) × IsStmt below us ((x, h), rest)

  otherwise_sound : (ts : List Token) → Holds (λ (y : (Option Stmt × ℕ) × List Token). Elsed ts y.0.0 y.0.1 y.1) (otherwise lower ts)
  unfolding otherwise
  otherwise_sound ts = from (key k.Else ts) refl
    where
      from : (o : Option (List Token)) → key k.Else ts ≡ o
          → Holds (λ (y : (Option Stmt × ℕ) × List Token). Elsed ts y.0.0 y.0.1 y.1) (if_found o (Ok ((None, 0), ts)) (λ rest. lower rest >>= λ x. Ok ((Some x.0.0, x.0.1), x.1)))
      from None e = holds_ok (λ (y : (Option Stmt × ℕ) × List Token). Elsed ts y.0.0 y.0.1 y.1) ((None, 0), ts) (refl, e, refl)
      from (Some us) e = holds_bind (λ (y : (Option Stmt × ℕ) × List Token). Elsed ts y.0.0 y.0.1 y.1) (IsStmt below us) (lower us) _ (sound us) (λ x i.
          holds_ok (λ (y : (Option Stmt × ℕ) × List Token). Elsed ts y.0.0 y.0.1 y.1) ((Some x.0.0, x.0.1), x.1) (us, e, i))

  not_taken : (b : Bool) (ts us : List Token) → (b ≡ true → key k.Else ts ≡ None) → key k.Else ts ≡ Some us → not b ≡ true
  not_taken true ts us stop found = absurd (let none = stop refl in cc)
  not_taken false ts us stop found = refl

  branch_part : (t : Token) (ts us : List Token) (test : Operand × List Token) (first : (Stmt × ℕ) × List Token) (o : Option Stmt) (h : ℕ) (rest : List Token) → t.kind ≡ tok.Keyword k.If
      → Condition below ts test → IsStmt below test.1 first → Elsed first.1 o h rest
      → IsPart (suc below) (t ∷ ts) (stmt_step (Stmt-F.If test.0.expr (stmt_part first.0.0) (option_map stmt_part o) t.line)) (suc (max test.0.height (max first.0.1 h))) rest
  branch_part t ts us test first None h rest e c f n =
      let q = (part_of test.0.expr).walk in let w = (stmt_part first.0.0).walk in record {
        walks = first_key k.If t ts (mark m.LeftParen >> q >> mark m.RightParen >> w >> stay) e
            ∙ paren_walk q (w >> stay) ts test.1 c.walks ∙ then_walk w stay test.1 first.1 f.walks ∙ ap Some n.2;
        fit = both (fits_at 14 (part_of test.0.expr) && (stmt_part first.0.0).fits) true (both (fits_at 14 (part_of test.0.expr)) (stmt_part first.0.0).fits c.fit f.fit) refl;
        high = omega (arith, c.high, f.high, n.0);
        low = omega (arith, c.low, f.low, n.0);
        stop = λ takes. ap (key k.Else) (sym n.2) ∙ n.1;
      }
  branch_part t ts us test first (Some x) h rest e c f n =
      let q = (part_of test.0.expr).walk in let w = (stmt_part first.0.0).walk in let v = (stmt_part x).walk in record {
        walks = first_key k.If t ts (mark m.LeftParen >> q >> mark m.RightParen >> w >> key k.Else >> v) e
            ∙ paren_walk q (w >> key k.Else >> v) ts test.1 c.walks ∙ then_walk w (key k.Else >> v) test.1 first.1 f.walks
            ∙ then_walk (key k.Else) v first.1 n.0 n.1 ∙ n.2.walks;
        fit = both (fits_at 14 (part_of test.0.expr) && (stmt_part first.0.0).fits) (not (stmt_part first.0.0).takes_else && (stmt_part x).fits)
            (both (fits_at 14 (part_of test.0.expr)) (stmt_part first.0.0).fits c.fit f.fit)
            (both (not (stmt_part first.0.0).takes_else) (stmt_part x).fits (not_taken (stmt_part first.0.0).takes_else first.1 n.0 f.stop n.1) n.2.fit);
        high = omega (arith, c.high, f.high, n.2.high);
        low = omega (arith, c.low, f.low, n.2.low);
        stop = n.2.stop;
      }

  branch_sound : (t : Token) (ts : List Token) → t.kind ≡ tok.Keyword k.If → Holds (IsStmt (suc below) (t ∷ ts)) (branch below lower t.line ts)
  unfolding branch
  branch_sound t ts e =
      let P = IsStmt (suc below) (t ∷ ts) in
      holds_bind P (Condition below ts) (condition below ts) _ (condition_sound below ts) (λ x c.
      holds_bind P (IsStmt below x.1) (lower x.1) _ (sound x.1) (λ y f.
      holds_bind P (λ (z : (Option Stmt × ℕ) × List Token). Elsed y.1 z.0.0 z.0.1 z.1) (otherwise lower y.1) _ (otherwise_sound y.1) (λ z n.
      holds_ok P ((s.If x.0.expr y.0.0 z.0.0 t.line, suc (max x.0.height (max y.0.1 z.0.1))), z.1)
      (by_form (suc below) (t ∷ ts) z.1 (s.If x.0.expr y.0.0 z.0.0 t.line) _ (suc (max x.0.height (max y.0.1 z.0.1))) (part-If x.0.expr y.0.0 z.0.0 t.line)
      (branch_part t ts ts x y z.0.0 z.0.1 z.1 e c f n)))))

  whiled_sound : (t : Token) (ts : List Token) → t.kind ≡ tok.Keyword k.While → Holds (IsStmt (suc below) (t ∷ ts)) (whiled below lower t.line ts)
  unfolding whiled
  whiled_sound t ts e =
      let P = IsStmt (suc below) (t ∷ ts) in
      holds_bind P (Condition below ts) (condition below ts) _ (condition_sound below ts) (λ x c.
      holds_bind P (IsStmt below x.1) (lower x.1) _ (sound x.1) (λ y f.
      let q = (part_of x.0.expr).walk in let w = (stmt_part y.0.0).walk in
      holds_ok P ((s.While x.0.expr y.0.0 t.line, suc (max x.0.height y.0.1)), y.1)
      (by_form (suc below) (t ∷ ts) y.1 (s.While x.0.expr y.0.0 t.line) _ (suc (max x.0.height y.0.1)) (part-While x.0.expr y.0.0 t.line) (record {
        walks = first_key k.While t ts (mark m.LeftParen >> q >> mark m.RightParen >> w) e ∙ paren_walk q w ts x.1 c.walks ∙ f.walks;
        fit = both (fits_at 14 (part_of x.0.expr)) (stmt_part y.0.0).fits c.fit f.fit;
        high = omega (arith, c.high, f.high);
        low = omega (arith, c.low, f.low);
        stop = f.stop;
      }))))

  done_sound : (t : Token) (ts : List Token) → t.kind ≡ tok.Keyword k.Do → Holds (IsStmt (suc below) (t ∷ ts)) (done below lower t.line ts)
  unfolding done
  done_sound t ts e =
      let P = IsStmt (suc below) (t ∷ ts) in
      holds_bind P (IsStmt below ts) (lower ts) _ (sound ts) (λ x f.
      holds_expected P (key k.While x.1) _ (λ us found.
      holds_bind P (Condition below us) (condition below us) _ (condition_sound below us) (λ y c.
      holds_expect P m.Semicolon y.1 _ (λ rest close.
      let q = (part_of y.0.expr).walk in let w = (stmt_part x.0.0).walk in
      holds_ok P ((s.Do x.0.0 y.0.expr t.line, suc (max x.0.1 y.0.height)), rest)
      (by_form (suc below) (t ∷ ts) rest (s.Do x.0.0 y.0.expr t.line) _ (suc (max x.0.1 y.0.height)) (part-Do x.0.0 y.0.expr t.line) (record {
        walks = first_key k.Do t ts (w >> key k.While >> mark m.LeftParen >> q >> mark m.RightParen >> mark m.Semicolon) e
            ∙ then_walk w (key k.While >> mark m.LeftParen >> q >> mark m.RightParen >> mark m.Semicolon) ts x.1 f.walks
            ∙ then_walk (key k.While) (mark m.LeftParen >> q >> mark m.RightParen >> mark m.Semicolon) x.1 us found
            ∙ paren_walk q (mark m.Semicolon) us y.1 c.walks ∙ close;
        fit = both (stmt_part x.0.0).fits (fits_at 14 (part_of y.0.expr)) f.fit c.fit;
        high = omega (arith, c.high, f.high);
        low = omega (arith, c.low, f.low);
        stop = λ no. cc;
      }))))))

  counted_sound : (t : Token) (ts : List Token) → t.kind ≡ tok.Keyword k.For → Holds (IsStmt (suc below) (t ∷ ts)) (counted below lower t.line ts)
  unfolding counted
  counted_sound t ts e =
      let P = IsStmt (suc below) (t ∷ ts) in
      holds_expect P m.LeftParen ts _ (λ us begun.
      holds_bind P (Any below 14 m.Semicolon us) (optional 14 m.Semicolon below us) _ (optional_sound 14 m.Semicolon below us (lit≤ tt)) (λ x a.
      holds_bind P (Any below 14 m.Semicolon x.1) (optional 14 m.Semicolon below x.1) _ (optional_sound 14 m.Semicolon below x.1 (lit≤ tt)) (λ y b.
      holds_bind P (Any below 14 m.RightParen y.1) (optional 14 m.RightParen below y.1) _ (optional_sound 14 m.RightParen below y.1 (lit≤ tt)) (λ z c.
      holds_bind P (IsStmt below z.1) (lower z.1) _ (sound z.1) (λ w f.
      let v = (stmt_part w.0.0).walk in
      holds_ok P ((s.For x.0.0 y.0.0 z.0.0 w.0.0 t.line, suc (max x.0.1 (max y.0.1 (max z.0.1 w.0.1)))), w.1)
      (by_form (suc below) (t ∷ ts) w.1 (s.For x.0.0 y.0.0 z.0.0 w.0.0 t.line) _ (suc (max x.0.1 (max y.0.1 (max z.0.1 w.0.1)))) (part-For x.0.0 y.0.0 z.0.0 w.0.0 t.line) (record {
        walks = first_key k.For t ts _ e
            ∙ then_walk (mark m.LeftParen) (any_walk x.0.0 >> mark m.Semicolon >> any_walk y.0.0 >> mark m.Semicolon >> any_walk z.0.0 >> mark m.RightParen >> v) ts us begun
            ∙ any_then x.0.0 m.Semicolon (any_walk y.0.0 >> mark m.Semicolon >> any_walk z.0.0 >> mark m.RightParen >> v) us x.1 a.walks
            ∙ any_then y.0.0 m.Semicolon (any_walk z.0.0 >> mark m.RightParen >> v) x.1 y.1 b.walks
            ∙ any_then z.0.0 m.RightParen v y.1 z.1 c.walks ∙ f.walks;
        fit = both (any_fits 14 x.0.0 && any_fits 14 y.0.0 && any_fits 14 z.0.0) (stmt_part w.0.0).fits
            (both (any_fits 14 x.0.0 && any_fits 14 y.0.0) (any_fits 14 z.0.0) (both (any_fits 14 x.0.0) (any_fits 14 y.0.0) a.fit b.fit) c.fit) f.fit;
        high = omega (arith, a.high, b.high, c.high, f.high);
        low = omega (arith, a.low, b.low, c.low, f.low);
        stop = f.stop;
      })))))))

  -- ---- switch

  record IsArm (ts : List Token) (p : ArmPart) (height : ℕ) (rest : List Token) : Type 0 where
    walks : p.walk ts ≡ Some rest
    fit : p.fits ≡ true
    high : p.height ≡ height
    low : height ≤ below

  arm_by : (ts : List Token) (x : Arm) (height : ℕ) (rest : List Token) → IsArm ts (arm_step (record { labels = x.labels; list = map stmt_part x.list })) height rest
      → Is arm_shape below ts ((x, height), rest)
  unfolding arm_shape
  arm_by ts x height rest h =
      let i = subst (λ (p : ArmPart). IsArm ts p height rest) (sym (part-Arm x)) h in
      record { walks = i.walks; fit = i.fit; high = i.high; low = i.low }

  pub arm_sound : (ts : List Token) → Holds (Is arm_shape below ts) (arm below lower ts)
  unfolding arm arm_shape stmt_shape label_shape
  arm_sound ts =
      let P = Is arm_shape below ts in
      holds_bind P (λ y. All label_shape below ts y × (is_empty y.0.0 ≡ false)) (labels below ts) _ (labels_sound below ts) (λ x a.
      holds_bind P (λ y. All stmt_shape below x.1 y × (is_empty y.0.0 ≡ false)) (some_of (statements lower x.1)) _ (holds_some (All stmt_shape below x.1) _ (statements_sound x.1)) (λ y b.
      let w = each (λ (z : StmtPart). z.walk) (map stmt_part y.0.0) in
      let r : Arm = record { labels = x.0.0; list = y.0.0 } in
      holds_ok P ((r, max x.0.1 y.0.1), y.1) (arm_by ts r (max x.0.1 y.0.1) y.1 (record {
        walks = then_walk (each label_walk x.0.0) w ts x.1 a.0.walks ∙ ap (λ (o : Walk). o x.1) (stmts_walk y.0.0) ∙ b.0.walks;
        fit = both (not (is_empty x.0.0) && list_all label_fits x.0.0) _ (both (not (is_empty x.0.0)) (list_all label_fits x.0.0) (ap not a.1) a.0.fit)
            (both (not (is_empty (map stmt_part y.0.0))) _ (ap not (stmts_empty y.0.0 ∙ b.1)) (stmts_fit y.0.0 ∙ b.0.fit));
        high = let h = stmts_high y.0.0 in omega (arith, h, a.0.high, b.0.high);
        low = omega (arith, a.0.low, b.0.low);
      }))))

  switched_sound : (t : Token) (ts : List Token) → t.kind ≡ tok.Keyword k.Switch → Holds (IsStmt (suc below) (t ∷ ts)) (switched below lower t.line ts)
  unfolding switched arms arm_shape
  switched_sound t ts e =
      let P = IsStmt (suc below) (t ∷ ts) in
      holds_bind P (Condition below ts) (condition below ts) _ (condition_sound below ts) (λ x c.
      holds_expect P m.LeftBrace x.1 _ (λ us begun.
      holds_bind P (Until arm_shape below (after m.RightBrace) us) (arms below lower us) _ (repeated_sound arm_shape below (arm below lower) arm_sound (after m.RightBrace) (length us + 1) us) (λ y u.
      let q = (part_of x.0.expr).walk in let w = each (λ (z : ArmPart). z.walk) (map arm_part y.0.0) in
      holds_ok P ((s.Switch x.0.expr y.0.0 t.line, suc (max x.0.height y.0.1)), y.1)
      (by_form (suc below) (t ∷ ts) y.1 (s.Switch x.0.expr y.0.0 t.line) _ (suc (max x.0.height y.0.1)) (part-Switch x.0.expr y.0.0 t.line) (record {
        walks = first_key k.Switch t ts (mark m.LeftParen >> q >> mark m.RightParen >> mark m.LeftBrace >> w >> mark m.RightBrace) e
            ∙ paren_walk q (mark m.LeftBrace >> w >> mark m.RightBrace) ts x.1 c.walks
            ∙ then_walk (mark m.LeftBrace) (w >> mark m.RightBrace) x.1 us begun
            ∙ then_walk w (mark m.RightBrace) us u.last (ap (λ (o : Walk). o us) (arms_walk y.0.0) ∙ u.walks) ∙ u.stop;
        fit = both (fits_at 14 (part_of x.0.expr)) _ c.fit (arms_fit y.0.0 ∙ u.fit);
        high = let h = arms_high y.0.0 in omega (arith, h, c.high, u.high);
        low = omega (arith, c.low, u.low);
        stop = λ no. cc;
      })))))

  -- ---- all forms

  stmt_mark_sound : (n : Mark) (t : Token) (ts : List Token) → t.kind ≡ tok.Mark n → Holds (IsStmt (suc below) (t ∷ ts)) (stmt_by below lower (tok.Mark n) t.line ts (t ∷ ts))
  stmt_mark_sound m.LeftBrace t ts e = block_sound t ts e
  stmt_mark_sound m.Semicolon t ts e = holds_ok (IsStmt (suc below) (t ∷ ts)) ((s.Empty t.line, 1), ts) (by_form (suc below) (t ∷ ts) ts (s.Empty t.line) _ 1 (part-Empty t.line) (record {
    walks = then_walk (on t.line) (mark m.Semicolon) (t ∷ ts) (t ∷ ts) (on_own t ts) ∙ mark_takes m.Semicolon t ts e;
    fit = refl;
    high = refl;
    low = omega arith;
    stop = λ no. cc;
  }))
  stmt_mark_sound _ t ts e = run_sound below t ts

  stmt_key_sound : (l : Key) (t : Token) (ts : List Token) → t.kind ≡ tok.Keyword l → Holds (IsStmt (suc below) (t ∷ ts)) (stmt_by below lower (tok.Keyword l) t.line ts (t ∷ ts))
  stmt_key_sound k.If t ts e = branch_sound t ts e
  stmt_key_sound k.While t ts e = whiled_sound t ts e
  stmt_key_sound k.Do t ts e = done_sound t ts e
  stmt_key_sound k.For t ts e = counted_sound t ts e
  stmt_key_sound k.Switch t ts e = switched_sound t ts e
  stmt_key_sound k.Break t ts e = leaf_sound below k.Break (s.Break t.line) t ts e (part-Break t.line)
  stmt_key_sound k.Continue t ts e = leaf_sound below k.Continue (s.Continue t.line) t ts e (part-Continue t.line)
  stmt_key_sound k.Return t ts e = returned_sound below t ts e
  stmt_key_sound _ t ts e = run_sound below t ts

  stmt_by_sound : (o : Tok) (t : Token) (ts : List Token) → t.kind ≡ o → Holds (IsStmt (suc below) (t ∷ ts)) (stmt_by below lower o t.line ts (t ∷ ts))
  stmt_by_sound (tok.Mark n) t ts e = stmt_mark_sound n t ts e
  stmt_by_sound (tok.Keyword l) t ts e = stmt_key_sound l t ts e
  stmt_by_sound tok.Name t ts e = run_sound below t ts
  stmt_by_sound tok.Text t ts e = run_sound below t ts
  stmt_by_sound (tok.Const bits of) t ts e = run_sound below t ts

pub stmt_sound : (limit : ℕ) (ts : List Token) → Holds (IsStmt limit ts) (read_stmt limit ts)
unfolding read_stmt stmt
stmt_sound zero ts = holds_err (IsStmt 0 ts) TooDeep
stmt_sound (suc below) [] = holds_err (IsStmt (suc below) []) Wrong
stmt_sound (suc below) (t ∷ ts) = stmt_by_sound below (read_stmt below) (stmt_sound below) t.kind t ts refl
