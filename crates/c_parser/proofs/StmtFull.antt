-- The tokens of a statement, and where it stops, are read as that statement.
use Rattle.std.proofs.Common.{◌≡◌, ℕ, zero, suc, ◌+◌, ◌<◌, ◌≤◌, max, Bool, true, false, not, ◌&&◌, List, [], ◌∷◌, length, Option, Some, None, Result, Ok, Err, refl, sym, ap, ◌∙◌, subst, arith}
use Rattle.std.proofs.Common.{lit≤}
use Rattle.std.specs.Prelude.{if◌then◌else◌, is_some, ◌||◌}
use Rattle.std.specs.List.{list_all}
use Rattle.std.proofs.lemmas.Bool.{leb-true}
use Rattle.nm_base.specs.declared.operator.Ctype.{Ctype}
use Rattle.nm_base.specs.declared.operator.Ctype.TheVariants.{Int, Unsigned}
use Rattle.c_lexer.specs.declared.token.Token.{Token}
use Rattle.c_lexer.specs.declared.token.Tok.{Tok}
use Rattle.c_lexer.specs.declared.token.Tok.TheVariants as tok
use Rattle.c_lexer.specs.declared.token.Key.{Key}
use Rattle.c_lexer.specs.declared.token.Key.TheVariants as k
use Rattle.c_lexer.specs.declared.token.Mark.{Mark}
use Rattle.c_lexer.specs.declared.token.Mark.TheVariants as m
use Rattle.c_tree.specs.declared.tree.Expr.{Expr}
use Rattle.c_tree.specs.declared.tree.Declr.{Declr}
use Rattle.c_tree.specs.declared.tree.Vars.{Vars}
use Rattle.c_tree.specs.declared.tree.Label.{Label}
use Rattle.c_parser.specs.declared.expr.Operand.{Operand}
use Rattle.c_parser.specs.Tokens.{is_key, mark_level, follow}
use Rattle.c_parser.specs.Walk.{Walk, ◌>>◌, stay, mark, key, named, each, commas, listed, on}
use Rattle.c_parser.specs.Expr.{fits_at, part_of}
use Rattle.c_parser.specs.Stmt as tree
use Rattle.c_parser.specs.Stmt.{highest, is_empty, any_walk, any_height, any_fits, past_int, type_walk, declr_walk, declr_height, vars_walk, vars_fit, vars_height}
use Rattle.c_parser.specs.Stmt.{value_walk, label_walk, label_fits, label_height}
use Rattle.c_lexer.specs.Lexemes.{◌>>=◌}
use Rattle.c_parser.specs.private.Reader.{Failure, Wrong, Reader, if_found, at_mark, expect, expected}
use Rattle.c_parser.specs.private.ReadExpr.{read_expr}
use Rattle.c_parser.specs.private.ReadStmt.{repeated, separated, some_of, name_by, name_at, found, expect_name, type_by, type_at, is_declr_end, size_of, start_of, declr_end}
use Rattle.c_parser.specs.private.ReadStmt.{declarator, declarations, no_type, local, locals, condition, present, optional, label_by, label, begins_label, no_label, labels}
use Rattle.c_parser.proofs.Steps.{marked, and_true, then_some, on_then, named_some}
use Rattle.c_parser.proofs.Spells.{then_walk}
use Rattle.c_parser.proofs.Complete.{expr_full}
use Rattle.c_parser.proofs.Follow.{begins, begins_mark, none_of, follow_mark, at_mark_is}
use Rattle.c_parser.proofs.Refused.{read_never}
use Rattle.c_parser.proofs.StmtMoves.{moves_declr, moves_vars, moves_label}
use Rattle.c_parser.proofs.StmtSound.{Shape, declr_shape, vars_shape, label_shape, keyed}

-- ---- results

pub bind_to : {A B : Type 0} (r : Result A Failure) (f : A → Result B Failure) (x : A) (y : Result B Failure) → r ≡ Ok x → f x ≡ y → (r >>= f) ≡ y
bind_to r f x y e h = ap (λ q. q >>= f) e ∙ h

pub expect_to : {B : Type 0} (n : Mark) (ts us : List Token) (f : List Token → Result B Failure) (y : Result B Failure) → mark n ts ≡ Some us → f us ≡ y → (expect n ts >>= f) ≡ y
expect_to n ts us f y e h = ap (λ o. expected o >>= f) e ∙ h

pub found_to : {A B : Type 0} (o : Option A) (none : Result B Failure) (some : A → Result B Failure) (x : A) (y : Result B Failure) → o ≡ Some x → some x ≡ y → if_found o none some ≡ y
found_to o none some x y e h = ap (λ q. if_found q none some) e ∙ h

pub none_to : {A B : Type 0} (o : Option A) (none : Result B Failure) (some : A → Result B Failure) (y : Result B Failure) → o ≡ None → none ≡ y → if_found o none some ≡ y
none_to o none some y e h = ap (λ q. if_found q none some) e ∙ h

-- ---- expressions

-- what is read of an expression
pub record Reads (limit level : ℕ) (x : Expr) (ts rest : List Token) : Type 0 where
  pub operand : Operand
  pub found : read_expr limit level ts ≡ Ok (operand, rest)
  pub is : operand.expr ≡ x
  pub high : operand.height ≡ (part_of x).height

pub reads : (limit level : ℕ) (x : Expr) (ts rest : List Token) → level ≤ 14 → (part_of x).walk ts ≡ Some rest → fits_at level (part_of x) ≡ true → (part_of x).height ≤ limit → level < follow rest
    → Reads limit level x ts rest
reads limit level x ts rest le walk fits low stops =
    let q = part_of x in
    let f = and_true q.fits _ fits in
    let g = expr_full limit level x ts rest le (record { walk = walk; fits = f.0; at = leb-true q.level level f.1; low = low }) stops in
    record { operand = g.operand; found = g.reads; is = g.is; high = sym g.sound.spells.height_is ∙ ap (λ y. (part_of y).height) g.is }

-- an expression begins with a token that begins one
pub expr_begins : (level : ℕ) (x : Expr) (t : Token) (ts rest : List Token) → level ≤ 14 → (part_of x).walk (t ∷ ts) ≡ Some rest → fits_at level (part_of x) ≡ true → level < follow rest
    → begins t.kind ≡ true
expr_begins level x t ts rest le walk fits stops =
    let r = reads (part_of x).height level x (t ∷ ts) rest le walk fits (omega arith) stops in
    from (begins t.kind) refl r
  where
    from : (b : Bool) → begins t.kind ≡ b → Reads (part_of x).height level x (t ∷ ts) rest → b ≡ true
    from true e r = refl
    from false e r = absurd ((read_never (part_of x).height level t ts e).of (r.operand, rest) r.found)

-- ---- lists

-- what is read of an item that derives the tokens, where it may stop there
pub record Full {A : Type 0} (s : Shape A) (limit : ℕ) (stop : A → List Token → Type 0) (item : Reader (A × ℕ)) : Type 0 where
  pub of : (x : A) (ts rest : List Token) → s.walk x ts ≡ Some rest → s.fits x ≡ true → s.height x ≤ limit → stop x rest → item ts ≡ Ok ((x, s.height x), rest)

pub record Listing {A : Type 0} (s : Shape A) (stop : A → List Token → Type 0) (stops : List Token → Option (List Token)) : Type 0 where
  pub begins : (x : A) (ts rest : List Token) → s.walk x ts ≡ Some rest → s.fits x ≡ true → stops ts ≡ None
  pub takes : (x : A) (ts rest : List Token) → s.walk x ts ≡ Some rest → s.fits x ≡ true → length rest < length ts
  pub at_stop : (x : A) (ts rest : List Token) → stops ts ≡ Some rest → stop x ts
  pub at_next : (x y : A) (ts rest : List Token) → s.walk y ts ≡ Some rest → s.fits y ≡ true → stop x ts

module _ {A : Type 0} (s : Shape A) (limit : ℕ) (stop : A → List Token → Type 0) (item : Reader (A × ℕ)) (full : Full s limit stop item) where
  stays : (ts last : List Token) → stay ts ≡ Some last → ts ≡ last
  stays ts last e = cc

  stop_list : (stops : List Token → Option (List Token)) → Listing s stop stops → (x : A) (xs : List A) (ts last rest : List Token) → each s.walk xs ts ≡ Some last → stops last ≡ Some rest
      → list_all s.fits xs ≡ true → stop x ts
  stop_list stops l x [] ts last rest walks ends fits = l.at_stop x ts rest (ap stops (stays ts last walks) ∙ ends)
  stop_list stops l x (y ∷ ys) ts last rest walks ends fits =
      let w = then_some (s.walk y) (each s.walk ys) ts last walks in
      l.at_next x y ts w.0 w.1 (and_true (s.fits y) (list_all s.fits ys) fits).0

  pub repeated_full : (stops : List Token → Option (List Token)) → Listing s stop stops → (xs : List A) (n : ℕ) (ts last rest : List Token) → each s.walk xs ts ≡ Some last → stops last ≡ Some rest
      → list_all s.fits xs ≡ true → highest s.height xs ≤ limit → length ts < n
      → repeated stops item n ts ≡ Ok ((xs, highest s.height xs), rest)
  unfolding repeated
  repeated_full stops l xs zero ts last rest walks ends fits low lt = absurd (omega (arith, lt))
  repeated_full stops l [] (suc n) ts last rest walks ends fits low lt = found_to (stops ts) _ _ rest _ (ap stops (stays ts last walks) ∙ ends) refl
  repeated_full stops l (x ∷ xs) (suc n) ts last rest walks ends fits low lt =
      let w = then_some (s.walk x) (each s.walk xs) ts last walks in
      let f = and_true (s.fits x) (list_all s.fits xs) fits in
      let less = l.takes x ts w.0 w.1 f.0 in
      none_to (stops ts) _ _ _ (l.begins x ts w.0 w.1 f.0)
      (bind_to (item ts) _ ((x, s.height x), w.0) _ (full.of x ts w.0 w.1 f.0 (omega (arith, low)) (stop_list stops l x xs w.0 last rest w.2 ends f.1))
      (bind_to (repeated stops item n w.0) _ ((xs, highest s.height xs), rest) _ (repeated_full stops l xs n w.0 last rest w.2 ends f.1 (omega (arith, low)) (omega (arith, lt, less))) refl))

  pub separated_full : (more : Mark → Option Bool) (end : Mark) → more m.Comma ≡ Some true → more end ≡ Some false
      → ((x : A) (ts us : List Token) → mark m.Comma ts ≡ Some us → stop x ts) → ((x : A) (ts us : List Token) → mark end ts ≡ Some us → stop x ts)
      → ((x : A) (ts us : List Token) → s.walk x ts ≡ Some us → length us < length ts)
      → (xs : List A) (n : ℕ) (ts last rest : List Token) → listed s.walk xs ts ≡ Some last → mark end last ≡ Some rest → list_all s.fits xs ≡ true → highest s.height xs ≤ limit → length ts < n
      → separated more item n ts ≡ Ok ((xs, highest s.height xs), rest)
  unfolding separated
  separated_full more end c e at_comma at_end takes xs zero ts last rest walks close fits low lt = absurd (omega (arith, lt))
  separated_full more end c e at_comma at_end takes [] (suc n) ts last rest walks close fits low lt = absurd cc
  separated_full more end c e at_comma at_end takes (x ∷ []) (suc n) ts last rest walks close fits low lt =
      let w = then_some (s.walk x) stay ts last walks in
      let f = and_true (s.fits x) true fits in
      let same : w.0 ≡ last = stays w.0 last w.2 in
      let closed : mark end w.0 ≡ Some rest = ap (mark end) same ∙ close in
      let high : max (s.height x) 0 ≡ s.height x = omega arith in
      bind_to (item ts) _ ((x, s.height x), w.0) _ (full.of x ts w.0 w.1 f.0 (omega (arith, low)) (at_end x w.0 rest closed))
      (found_to (at_mark more w.0) (Err Wrong) _ (false, rest) _ (at_mark_is more end false w.0 rest closed e) (ap (λ (k : ℕ). Ok ((x ∷ [], k), rest)) (sym high)))
  separated_full more end c e at_comma at_end takes (x ∷ y ∷ ys) (suc n) ts last rest walks close fits low lt =
      let w = then_some (s.walk x) (commas s.walk (y ∷ ys)) ts last walks in
      let v = then_some (mark m.Comma) (listed s.walk (y ∷ ys)) w.0 last w.2 in
      let f = and_true (s.fits x) (list_all s.fits (y ∷ ys)) fits in
      let less = takes x ts w.0 w.1 in
      let comma = marked m.Comma w.0 v.0 v.1 in
      let l : length w.0 ≡ length (comma.token ∷ v.0) = ap length comma.tokens in
      bind_to (item ts) _ ((x, s.height x), w.0) _ (full.of x ts w.0 w.1 f.0 (omega (arith, low)) (at_comma x w.0 v.0 v.1))
      (found_to (at_mark more w.0) (Err Wrong) _ (true, v.0) _ (at_mark_is more m.Comma true w.0 v.0 v.1 c)
      (bind_to (separated more item n v.0) _ ((y ∷ ys, highest s.height (y ∷ ys)), rest) _
      (separated_full more end c e at_comma at_end takes (y ∷ ys) n v.0 last rest v.2 close f.1 (omega (arith, low)) (omega (arith, lt, less, l))) refl))

-- ---- what comes next

pub name_found : (bytes : List ℕ) (ts rest : List Token) → named bytes ts ≡ Some rest → name_at ts ≡ Some (bytes, rest)
name_found bytes ts rest e =
    let k = named_some bytes ts rest e in
    let here : name_at (k.token ∷ rest) ≡ Some (bytes, rest) = ap (λ o. name_by o k.token rest) k.kind_is ∙ ap (λ (b : List ℕ). Some (b, rest)) k.bytes_are in
    ap name_at k.tokens ∙ here

walk_by : Ctype → Tok → List Token → Option (List Token)
walk_by Int o ts = if is_key k.Int o then Some ts else (if is_key k.Signed o then Some (past_int ts) else None)
walk_by Unsigned o ts = if is_key k.Unsigned o then Some (past_int ts) else None

type_found_key : (of : Ctype) (l : Key) (ts rest : List Token) → walk_by of (tok.Keyword l) ts ≡ Some rest → type_by (tok.Keyword l) ts ≡ Some (of, rest)
unfolding walk_by
type_found_key Int k.Int ts rest e = let same : ts ≡ rest = cc in ap (λ (r : List Token). Some (Int, r)) same
type_found_key Int k.Signed ts rest e = let same : past_int ts ≡ rest = cc in ap (λ (r : List Token). Some (Int, r)) same
type_found_key Unsigned k.Unsigned ts rest e = let same : past_int ts ≡ rest = cc in ap (λ (r : List Token). Some (Unsigned, r)) same
type_found_key Int _ ts rest e = absurd cc
type_found_key Unsigned _ ts rest e = absurd cc

type_found_by : (of : Ctype) (o : Tok) (ts rest : List Token) → walk_by of o ts ≡ Some rest → type_by o ts ≡ Some (of, rest)
unfolding walk_by
type_found_by of (tok.Keyword l) ts rest e = type_found_key of l ts rest e
type_found_by Int _ ts rest e = absurd cc
type_found_by Unsigned _ ts rest e = absurd cc

pub type_found : (of : Ctype) (ts rest : List Token) → type_walk of ts ≡ Some rest → type_at ts ≡ Some (of, rest)
unfolding walk_by
type_found Int [] rest e = absurd cc
type_found Unsigned [] rest e = absurd cc
type_found Int (t ∷ ts) rest e = type_found_by Int t.kind ts rest e
type_found Unsigned (t ∷ ts) rest e = type_found_by Unsigned t.kind ts rest e

pub no_mark_at : (n : Mark) (level : ℕ) (ts : List Token) → mark_level n ≤ level → level < follow ts → mark n ts ≡ None
no_mark_at n level ts le lt = none_of (mark n ts) (λ rest e. let f = follow_mark n ts rest e in omega (arith, f, le, lt))

pub no_other : (n l : Mark) (ts us : List Token) → (mark_level n ≡ mark_level l → ⊥) → mark l ts ≡ Some us → mark n ts ≡ None
no_other n l ts us apart e = none_of (mark n ts) (λ rest h. let f = follow_mark n ts rest h in let g = follow_mark l ts us e in apart (sym f ∙ g))

-- ---- declarations

pub declr_end_full : (limit : ℕ) (size start : Option Expr) (ts rest : List Token) → tree.declr_end size start ts ≡ Some rest → (any_fits 12 size && any_fits 13 start) ≡ true
    → max (any_height size) (any_height start) ≤ limit → 13 < follow rest
    → declr_end limit ts ≡ Ok (((size, start), max (any_height size) (any_height start)), rest)
unfolding declr_end size_of start_of
declr_end_full limit None None ts rest walks fits low stops =
    let same : ts ≡ rest = cc in
    let lt : 13 < follow ts = subst (λ (us : List Token). 13 < follow us) (sym same) stops in
    none_to (mark m.LeftBracket ts) _ _ _ (no_mark_at m.LeftBracket 13 ts (omega arith) lt)
    (none_to (mark m.Assign ts) _ _ _ (no_mark_at m.Assign 13 ts (omega arith) lt) (ap (λ (us : List Token). Ok (((None, None), 0), us)) same))
declr_end_full limit None (Some x) ts rest walks fits low stops =
    let w = then_some (mark m.Assign) (part_of x).walk ts rest walks in
    let r = reads limit 13 x w.0 rest (lit≤ tt) w.2 fits (omega (arith, low)) stops in
    let h : r.operand.height ≡ max 0 (part_of x).height = omega (arith, r.high) in
    none_to (mark m.LeftBracket ts) _ _ _ (no_other m.LeftBracket m.Assign ts w.0 (λ (e : 0 ≡ 13). omega (arith, e)) w.1)
    (found_to (mark m.Assign ts) _ _ w.0 _ w.1 (bind_to (read_expr limit 13 w.0) _ (r.operand, rest) _ r.found
    (ap (λ (y : Expr). Ok (((None, Some y), r.operand.height), rest)) r.is ∙ ap (λ (n : ℕ). Ok (((None, Some x), n), rest)) h)))
declr_end_full limit (Some x) None ts rest walks fits low stops =
    let q = part_of x in
    let w = then_some (mark m.LeftBracket) (q.walk >> mark m.RightBracket) ts rest walks in
    let v = then_some q.walk (mark m.RightBracket) w.0 rest w.2 in
    let f = and_true (fits_at 12 q) true fits in
    let g : follow v.0 ≡ 15 = follow_mark m.RightBracket v.0 rest v.2 in
    let r = reads limit 12 x w.0 v.0 (lit≤ tt) v.1 f.0 (omega (arith, low)) (omega (arith, g)) in
    let h : r.operand.height ≡ max q.height 0 = omega (arith, r.high) in
    found_to (mark m.LeftBracket ts) _ _ w.0 _ w.1 (bind_to (read_expr limit 12 w.0) _ (r.operand, v.0) _ r.found
    (expect_to m.RightBracket v.0 rest _ _ v.2
    (ap (λ (y : Expr). Ok (((Some y, None), r.operand.height), rest)) r.is ∙ ap (λ (n : ℕ). Ok (((Some x, None), n), rest)) h)))
declr_end_full limit (Some x) (Some y) ts rest walks fits low stops = absurd cc

abbrev pub After : {A : Type 0} → ℕ → A → List Token → Type 0
After level x ts = level < follow ts

declarator_full : (limit : ℕ) → Full declr_shape limit (After 13) (declarator limit)
unfolding declarator declr_shape
declarator_full limit = record {
  of = λ d ts rest walks fits low stops.
      let a = on_then d.line (named d.name >> tree.declr_end d.size d.start) ts rest walks in
      let b = then_some (named d.name) (tree.declr_end d.size d.start) ts rest a.1 in
      bind_to (expect_name ts) _ (d.name, b.0) _ (ap found (name_found d.name ts b.0 b.1))
      (bind_to (declr_end limit b.0) _ (((d.size, d.start), declr_height d), rest) _ (declr_end_full limit d.size d.start b.0 rest b.2 fits low stops)
      (ap (λ (n : ℕ). Ok ((record { name = d.name; size = d.size; start = d.start; line = n }, declr_height d), rest)) a.0));
}

mark_stops : {A : Type 0} (n : Mark) (level : ℕ) (x : A) (ts us : List Token) → level < mark_level n → mark n ts ≡ Some us → After level x ts
mark_stops n level x ts us lt e = let f = follow_mark n ts us e in omega (arith, lt, f)

declr_takes : (d : Declr) (ts us : List Token) → declr_walk d ts ≡ Some us → length us < length ts
declr_takes d ts us e = let f = (moves_declr d).takes ts us e in omega (arith, f)

-- declarations, after their type
pub declarations_full : (limit : ℕ) (v : Vars) (ts rest : List Token) → (listed declr_walk v.list >> mark m.Semicolon) ts ≡ Some rest → vars_fit v ≡ true → vars_height v ≤ limit
    → declarations limit v.of ts ≡ Ok ((v, vars_height v), rest)
unfolding declarations declr_shape
declarations_full limit v ts rest walks fits low =
    let w = then_some (listed declr_walk v.list) (mark m.Semicolon) ts rest walks in
    bind_to (separated is_declr_end (declarator limit) (length ts + 1) ts) _ ((v.list, vars_height v), rest) _
    (separated_full declr_shape limit (After 13) (declarator limit) (declarator_full limit) is_declr_end m.Semicolon refl refl
    (λ x us vs e. mark_stops m.Comma 13 x us vs (omega arith) e) (λ x us vs e. mark_stops m.Semicolon 13 x us vs (omega arith) e) declr_takes
    v.list (length ts + 1) ts w.0 rest w.1 w.2 fits low (omega arith)) refl

abbrev pub Anywhere : {A : Type 0} → A → List Token → Type 0
Anywhere x ts = Unit {0}

local_full : (limit : ℕ) → Full vars_shape limit Anywhere (local limit)
unfolding local vars_shape
local_full limit = record {
  of = λ v ts rest walks fits low stops.
      let a = then_some (type_walk v.of) (listed declr_walk v.list >> mark m.Semicolon) ts rest walks in
      found_to (type_at ts) (Err Wrong) _ (v.of, a.0) _ (type_found v.of ts a.0 a.1) (declarations_full limit v a.0 rest a.2 fits low);
}

typed : (ts : List Token) (x : Ctype × List Token) → type_at ts ≡ Some x → no_type ts ≡ None
typed ts x e = ap (λ (o : Option (Ctype × List Token)). if is_some o then None else Some ts) e

vars_listing : Listing vars_shape Anywhere no_type
unfolding vars_shape
vars_listing = record {
  begins = λ v ts rest walks fits. let a = then_some (type_walk v.of) (listed declr_walk v.list >> mark m.Semicolon) ts rest walks in typed ts (v.of, a.0) (type_found v.of ts a.0 a.1);
  takes = λ v ts rest walks fits. let f = (moves_vars v).takes ts rest walks in omega (arith, f);
  at_stop = λ v ts rest e. tt;
  at_next = λ v u ts rest walks fits. tt;
}

pub locals_full : (limit : ℕ) (xs : List Vars) (ts rest : List Token) → each vars_walk xs ts ≡ Some rest → list_all vars_fit xs ≡ true → highest vars_height xs ≤ limit → type_at rest ≡ None
    → locals limit ts ≡ Ok ((xs, highest vars_height xs), rest)
unfolding locals vars_shape
locals_full limit xs ts rest walks fits low none =
    repeated_full vars_shape limit Anywhere (local limit) (local_full limit) no_type vars_listing xs (length ts + 1) ts rest rest walks
    (ap (λ (o : Option (Ctype × List Token)). if is_some o then None else Some rest) none) fits low (omega arith)

-- ---- parts of statements

-- what is read of an expression with something round it
pub record Round (x : Expr) (r : Result (Operand × List Token) Failure) (rest : List Token) : Type 0 where
  pub operand : Operand
  pub found : r ≡ Ok (operand, rest)
  pub is : operand.expr ≡ x
  pub high : operand.height ≡ (part_of x).height

pub condition_full : (limit : ℕ) (x : Expr) (v : Walk) (ts rest : List Token) → (mark m.LeftParen >> (part_of x).walk >> mark m.RightParen >> v) ts ≡ Some rest → fits_at 14 (part_of x) ≡ true
    → (part_of x).height ≤ limit
    → (us : List Token) × Round x (condition limit ts) us × (v us ≡ Some rest)
unfolding condition
condition_full limit x v ts rest walks fits low =
    let q = part_of x in
    let a = then_some (mark m.LeftParen) (q.walk >> mark m.RightParen >> v) ts rest walks in
    let b = then_some q.walk (mark m.RightParen >> v) a.0 rest a.2 in
    let c = then_some (mark m.RightParen) v b.0 rest b.2 in
    let f : follow b.0 ≡ 15 = follow_mark m.RightParen b.0 c.0 c.1 in
    let r = reads limit 14 x a.0 b.0 (lit≤ tt) b.1 fits low (omega (arith, f)) in (
      c.0,
      record {
        operand = r.operand;
        found = expect_to m.LeftParen ts a.0 _ _ a.1 (bind_to (read_expr limit 14 a.0) _ (r.operand, b.0) _ r.found (expect_to m.RightParen b.0 c.0 _ _ c.1 refl));
        is = r.is;
        high = r.high;
      },
      c.2,
    )

pub first_of : (n : Mark) (t : Token) (ts : List Token) (rest : List Token) → mark n (t ∷ ts) ≡ Some rest → t.kind ≡ tok.Mark n
first_of n t ts rest e =
    let k = marked n (t ∷ ts) rest e in
    let same : t ≡ k.token = let h : t ∷ ts ≡ k.token ∷ rest = k.tokens in cc in
    ap (λ (u : Token). u.kind) same ∙ k.kind

-- an expression doesn't begin with a mark that begins none
pub no_begin : (n : Mark) (level : ℕ) (x : Expr) (ts rest : List Token) → level ≤ 14 → begins_mark n ≡ false → (part_of x).walk ts ≡ Some rest → fits_at level (part_of x) ≡ true → level < follow rest
    → mark n ts ≡ None
no_begin n level x [] rest le not walks fits stops = refl
no_begin n level x (t ∷ ts) rest le not walks fits stops = none_of (mark n (t ∷ ts)) (λ us e.
    let b = expr_begins level x t ts rest le walks fits stops in
    let c : begins t.kind ≡ false = ap begins (first_of n t ts us e) ∙ not in
    let bad : true ≡ false = sym b ∙ c in cc)

pub optional_full : (limit level : ℕ) (end : Mark) (x : Option Expr) (v : Walk) (ts rest : List Token) → level ≤ 14 → mark_level end ≡ 15 → begins_mark end ≡ false
    → (any_walk x >> mark end >> v) ts ≡ Some rest → any_fits level x ≡ true → any_height x ≤ limit
    → (us : List Token) × (optional level end limit ts ≡ Ok ((x, any_height x), us)) × (v us ≡ Some rest)
unfolding optional present
optional_full limit level end None v ts rest le ends not walks fits low =
    let a = then_some stay (mark end >> v) ts rest walks in
    let same : ts ≡ a.0 = let h : Some ts ≡ Some a.0 = a.1 in cc in
    let b = then_some (mark end) v a.0 rest a.2 in
    (b.0, found_to (mark end ts) _ _ b.0 _ (ap (mark end) same ∙ b.1) refl, b.2)
optional_full limit level end (Some x) v ts rest le ends not walks fits low =
    let q = part_of x in
    let a = then_some q.walk (mark end >> v) ts rest walks in
    let b = then_some (mark end) v a.0 rest a.2 in
    let f = follow_mark end a.0 b.0 b.1 in
    let stops : level < follow a.0 = omega (arith, f, ends, le) in
    let r = reads limit level x ts a.0 le a.1 fits low stops in (
      b.0,
      none_to (mark end ts) _ _ _ (no_begin end level x ts a.0 le not a.1 fits stops) (bind_to (read_expr limit level ts) _ (r.operand, a.0) _ r.found
          (expect_to end a.0 b.0 _ _ b.1 (ap (λ (y : Expr). Ok ((Some y, r.operand.height), b.0)) r.is ∙ ap (λ (n : ℕ). Ok ((Some x, n), b.0)) r.high))),
      b.2,
    )

-- ---- labels

pub key_first : (l : Key) (t : Token) (ts rest : List Token) → key l (t ∷ ts) ≡ Some rest → (t.kind ≡ tok.Keyword l) × (ts ≡ rest)
key_first l t ts rest e =
    let h = keyed l (t ∷ ts) rest e in
    let both : t ∷ ts ≡ h.token ∷ rest = h.tokens in
    let same : t ≡ h.token = cc in
    let more : ts ≡ rest = cc in
    (ap (λ (u : Token). u.kind) same ∙ h.kind, more)

default_full : (limit : ℕ) (line : ℕ) (ts rest : List Token) → mark m.Colon ts ≡ Some rest → label_by limit (tok.Keyword k.Default) line ts ≡ Ok ((record { value = None; line = line }, 0), rest)
default_full limit line ts rest e = expect_to m.Colon ts rest _ _ e refl

case_full : (limit : ℕ) (x : Expr) (line : ℕ) (ts rest : List Token) → ((part_of x).walk >> mark m.Colon) ts ≡ Some rest → fits_at 12 (part_of x) ≡ true → (part_of x).height ≤ limit
    → label_by limit (tok.Keyword k.Case) line ts ≡ Ok ((record { value = Some x; line = line }, (part_of x).height), rest)
case_full limit x line ts rest walks fits low =
    let a = then_some (part_of x).walk (mark m.Colon) ts rest walks in
    let f : follow a.0 ≡ 15 = follow_mark m.Colon a.0 rest a.2 in
    let r = reads limit 12 x ts a.0 (lit≤ tt) a.1 fits low (omega (arith, f)) in
    let L : Expr → ℕ → Result ((Label × ℕ) × List Token) Failure = λ y n. Ok ((record { value = Some y; line = line }, n), rest) in
    bind_to (read_expr limit 12 ts) _ (r.operand, a.0) _ r.found (expect_to m.Colon a.0 rest _ _ a.2 (ap (λ (y : Expr). L y r.operand.height) r.is ∙ ap (λ (n : ℕ). L x n) r.high))

label_value_full : (limit : ℕ) (value : Option Expr) (line : ℕ) (t : Token) (ts rest : List Token) → t.line ≡ line → (value_walk value >> mark m.Colon) (t ∷ ts) ≡ Some rest → any_fits 12 value ≡ true
    → any_height value ≤ limit
    → label limit (t ∷ ts) ≡ Ok ((record { value = value; line = line }, any_height value), rest)
unfolding label
label_value_full limit None line t ts rest same walks fits low =
    let a = then_some (key k.Default) (mark m.Colon) (t ∷ ts) rest walks in
    let h = key_first k.Default t ts a.0 a.1 in
    ap (λ o. label_by limit o t.line ts) h.0 ∙ ap (λ (n : ℕ). label_by limit (tok.Keyword k.Default) n ts) same ∙ default_full limit line ts rest (ap (mark m.Colon) h.1 ∙ a.2)
label_value_full limit (Some x) line t ts rest same walks fits low =
    let a = then_some (key k.Case >> (part_of x).walk) (mark m.Colon) (t ∷ ts) rest walks in
    let b = then_some (key k.Case) (part_of x).walk (t ∷ ts) a.0 a.1 in
    let h = key_first k.Case t ts b.0 b.1 in
    ap (λ o. label_by limit o t.line ts) h.0 ∙ ap (λ (n : ℕ). label_by limit (tok.Keyword k.Case) n ts) same
    ∙ case_full limit x line ts rest (ap ((part_of x).walk >> mark m.Colon) h.1 ∙ then_walk (part_of x).walk (mark m.Colon) b.0 a.0 b.2 ∙ a.2) fits low

pub not_nothing : (line : ℕ) (w : Walk) (rest : List Token) → (on line >> w) [] ≡ Some rest → ⊥
not_nothing line w rest e = cc

label_full : (limit : ℕ) → Full label_shape limit Anywhere (label limit)
unfolding label_shape
label_full limit = record { of = λ l ts rest walks fits low stops. from l ts rest walks fits low }
  where
    from : (l : Label) (ts rest : List Token) → label_walk l ts ≡ Some rest → label_fits l ≡ true → label_height l ≤ limit → label limit ts ≡ Ok ((l, label_height l), rest)
    from l [] rest walks fits low = absurd (not_nothing l.line (value_walk l.value >> mark m.Colon) rest walks)
    from l (t ∷ ts) rest walks fits low =
        let a = on_then l.line (value_walk l.value >> mark m.Colon) (t ∷ ts) rest walks in
        label_value_full limit l.value l.line t ts rest a.0 a.1 fits low

value_begins : (value : Option Expr) (w : Walk) (ts rest : List Token) → (value_walk value >> w) ts ≡ Some rest → begins_label ts ≡ true
value_begins None w ts rest walks =
    let a = then_some (key k.Default) w ts rest walks in
    second (is_some (key k.Case ts)) (is_some (key k.Default ts)) (ap is_some a.1)
  where
    second : (a b : Bool) → b ≡ true → (a || b) ≡ true
    second true b e = refl
    second false b e = e
value_begins (Some x) w ts rest walks =
    let a = then_some (key k.Case >> (part_of x).walk) w ts rest walks in
    let b = then_some (key k.Case) (part_of x).walk ts a.0 a.1 in
    ap (λ (o : Option (List Token)). is_some o || is_some (key k.Default ts)) b.1

pub label_begins : (l : Label) (ts rest : List Token) → label_walk l ts ≡ Some rest → begins_label ts ≡ true
label_begins l ts rest walks = let a = on_then l.line (value_walk l.value >> mark m.Colon) ts rest walks in value_begins l.value (mark m.Colon) ts rest a.1

label_listing : Listing label_shape Anywhere no_label
unfolding label_shape
label_listing = record {
  begins = λ l ts rest walks fits. ap (λ (b : Bool). if b then None else Some ts) (label_begins l ts rest walks);
  takes = λ l ts rest walks fits. let f = (moves_label l).takes ts rest walks in omega (arith, f);
  at_stop = λ l ts rest e. tt;
  at_next = λ l o ts rest walks fits. tt;
}

pub some_to : {A : Type 0} (r : Result ((List A × ℕ) × List Token) Failure) (y : (List A × ℕ) × List Token) → r ≡ Ok y → is_empty y.0.0 ≡ false → some_of r ≡ Ok y
some_to r y e h = bind_to r _ y (Ok y) e (ap (λ (b : Bool). if b then Err Wrong else Ok y) h)

pub labels_full : (limit : ℕ) (xs : List Label) (ts rest : List Token) → each label_walk xs ts ≡ Some rest → list_all label_fits xs ≡ true → highest label_height xs ≤ limit → is_empty xs ≡ false
    → begins_label rest ≡ false → labels limit ts ≡ Ok ((xs, highest label_height xs), rest)
unfolding labels label_shape
labels_full limit xs ts rest walks fits low some none =
    some_to _ ((xs, highest label_height xs), rest)
    (repeated_full label_shape limit Anywhere (label limit) (label_full limit) no_label label_listing xs (length ts + 1) ts rest rest walks
    (ap (λ (b : Bool). if b then None else Some rest) none) fits low (omega arith)) some
