-- The tokens of a unit are read as it.
use Rattle.std.proofs.Common.{◌≡◌, ℕ, ◌+◌, ◌-◌, ◌<◌, ◌≤◌, max, map, ◌⊎◌, inl, inr, Bool, true, false, ◌&&◌, List, [], ◌∷◌, length, Option, Some, None, Result, Ok, Err, refl, sym, ap}
use Rattle.std.proofs.Common.{◌∙◌, subst, arith, lit≤}
use Rattle.std.specs.Prelude.{if◌then◌else◌}
use Rattle.std.specs.List.{list_all}
use Rattle.std.proofs.lemmas.Bool.{leb-true}
use Rattle.nm_base.specs.declared.operator.Ctype.{Ctype}
use Rattle.c_lexer.specs.declared.token.Token.{Token}
use Rattle.c_lexer.specs.declared.token.Tok.{Tok}
use Rattle.c_lexer.specs.declared.token.Tok.TheVariants as tok
use Rattle.c_lexer.specs.declared.token.Key.TheVariants as k
use Rattle.c_lexer.specs.declared.token.Mark.{Mark}
use Rattle.c_lexer.specs.declared.token.Mark.TheVariants as m
use Rattle.c_tree.specs.declared.tree.Expr.{Expr}
use Rattle.c_tree.specs.declared.tree.Param.{Param}
use Rattle.c_tree.specs.declared.tree.Head.{Head}
use Rattle.c_tree.specs.declared.tree.Item.{Item}
use Rattle.c_tree.specs.declared.tree.Item.TheVariants as i
use Rattle.c_tree.specs.declared.tree.Vars.{Vars}
use Rattle.c_tree.specs.declared.tree.Tree.{Tree}
use Rattle.c_tree.specs.declared.tree.Stmt.{Stmt}
use Rattle.c_parser.specs.Tokens.{is_key}
use Rattle.c_parser.specs.Walk.{◌>>◌, stay, mark, key, named, each, listed, on}
use Rattle.c_parser.specs.Stmt.{highest, any_walk, any_height, any_fits, type_walk, declr_walk, vars_walk, vars_fit, vars_height, stmt_part}
use Rattle.c_parser.specs.Unit.{array_walk, param_begin, param_walk, param_fits, param_height, past_void, params_walk, params_named, result_walk, head_walk, head_fits, head_height, item_walk}
use Rattle.c_parser.specs.Unit.{item_fits, item_height, Derives, unit_height, UnitOf}
use Rattle.c_lexer.specs.Lexemes.{◌>>=◌}
use Rattle.c_parser.specs.private.Reader.{Failure, Wrong, expect}
use Rattle.c_parser.specs.private.ReadExpr.{line_at, is_separator}
use Rattle.c_parser.specs.private.ReadStmt.{expect_name, name_at, type_at, declarations, optional, block, read_stmt}
use Rattle.c_parser.specs.private.ReadUnit.{array_at, param_of, parameter, parameters, body_of, headed, function_of, vars_of, item_of, read_item, at_end, read_items}
use Rattle.c_parser.proofs.Steps.{marked, then_some, on_then, and_true}
use Rattle.c_parser.specs.Tokens.{mark_level, follow}
use Rattle.c_tree.specs.declared.tree.Declr.{Declr}
use Rattle.c_parser.proofs.Spells.{then_walk}
use Rattle.c_parser.proofs.Follow.{none_of, follow_mark}
use Rattle.c_parser.proofs.StmtSound.{keyed}
use Rattle.c_parser.proofs.StmtMoves.{Moves, moves_then, moves_less, moves_on, moves_stay, moves_nowhere, moves_any_mark, moves_mark, moves_any_key, moves_name, moves_any, moves_type, moves_listed}
use Rattle.c_parser.proofs.StmtMoves.{moves_vars, moves_stmt, moves_each, View, Block, Empty, Run, If, While, Do, For, Break, Continue, Return, Switch, view}
use Rattle.c_parser.proofs.StmtFull.{bind_to, expect_to, found_to, none_to, Full, Listing, repeated_full, separated_full, Anywhere, name_found, type_found, no_mark_at, no_other, optional_full}
use Rattle.c_parser.proofs.StmtFull.{declarations_full, first_of}
use Rattle.c_parser.proofs.StmtForms.{stmt_full, block_full}
use Rattle.c_parser.proofs.StmtLaws.{part-Block, part-Empty, part-Run, part-If, part-While, part-Do, part-For, part-Break, part-Continue, part-Return, part-Switch}
use Rattle.c_parser.proofs.Nesting.{costs_token}
use Rattle.c_parser.specs.Tokens.{nesting}
use Rattle.c_parser.specs.Expr.{part_of}
use Rattle.c_parser.specs.Walk.{commas}
use Rattle.c_parser.specs.Stmt.{StmtPart, declr_end}
use Rattle.c_parser.specs.private.ReadStmt.{found, name_by, type_by}
use Rattle.c_tree.specs.declared.tree.Stmt.TheVariants as s
use Rattle.c_parser.proofs.UnitSound.{param_shape, item_shape}

-- ---- what heads and items take

moves_array : (array : Bool) (size : Option Expr) → Moves (any_height size - 1) 0 (array_walk array size)
moves_array false None = moves_less (0 - 1) 0 0 0 stay (omega arith) (omega arith) moves_stay
moves_array false (Some x) = moves_nowhere (any_height (Some x) - 1) 0
moves_array true size = moves_then (any_height size - 1) 0 0 1 (any_height size - 1) 0 (mark m.LeftBracket) (any_walk size >> mark m.RightBracket) (omega arith) (omega arith)
    (moves_any_mark m.LeftBracket)
    (moves_then (any_height size - 1) 0 (any_height size - 1) 0 0 1 (any_walk size) (mark m.RightBracket) (omega arith) (omega arith) (moves_any size) (moves_any_mark m.RightBracket))

moves_begin : (of : Ctype) (name : Option (List ℕ)) (line : ℕ) → Moves 0 1 (param_begin of name line)
moves_begin of None line = moves_on 0 1 line (type_walk of) (moves_type of)
moves_begin of (Some name) line = moves_then 0 1 0 1 0 1 (type_walk of) (on line >> named name) (omega arith) (omega arith) (moves_type of) (moves_on 0 1 line (named name) (moves_name name))

pub moves_param : (p : Param) → Moves (param_height p - 1) 1 (param_walk p)
moves_param p = moves_then (param_height p - 1) 1 0 1 (param_height p - 1) 0 (param_begin p.of p.name p.line) (array_walk p.array p.size) (omega arith) (omega arith) (moves_begin p.of p.name p.line)
    (moves_array p.array p.size)

moves_void : Moves 0 0 past_void
moves_void = record { nests = λ ts rest e. (void_falls ts rest e).0; takes = λ ts rest e. (void_falls ts rest e).1 }
  where
    chosen : (b : Bool) (t : Token) (ts rest : List Token) → Some (if b then ts else t ∷ ts) ≡ Some rest → (nesting rest + 0 ≤ nesting (t ∷ ts)) × (length rest + 0 ≤ length (t ∷ ts))
    chosen true t ts rest e =
        let same : ts ≡ rest = cc in
        let l : nesting ts ≡ nesting rest = ap nesting same in let n : length ts ≡ length rest = ap length same in
        let c = costs_token t ts in (omega (arith, l, c), omega (arith, n))
    chosen false t ts rest e =
        let same : t ∷ ts ≡ rest = cc in
        let l : nesting (t ∷ ts) ≡ nesting rest = ap nesting same in let n : length (t ∷ ts) ≡ length rest = ap length same in
        (omega (arith, l), omega (arith, n))

    void_falls : (ts rest : List Token) → past_void ts ≡ Some rest → (nesting rest + 0 ≤ nesting ts) × (length rest + 0 ≤ length ts)
    void_falls [] rest e =
        let none : List Token = [] in
        let same : none ≡ rest = cc in
        let l : nesting none ≡ nesting rest = ap nesting same in let n : length none ≡ length rest = ap length same in
        (omega (arith, l), omega (arith, n))
    void_falls (t ∷ ts) rest e = chosen (is_key k.Void t.kind) t ts rest e

pub moves_params : (xs : List Param) → Moves (highest param_height xs - 1) 0 (params_walk xs)
moves_params [] = moves_less (0 - 1) 0 0 0 past_void (omega arith) (omega arith) moves_void
moves_params (x ∷ xs) = moves_less (highest param_height (x ∷ xs) - 1) 0 (highest param_height (x ∷ xs) - 1) (length (x ∷ xs)) (listed param_walk (x ∷ xs)) (omega arith) (omega arith)
    (moves_listed param_walk param_height 1 (x ∷ xs) moves_param)

moves_result : (of : Option Ctype) → Moves 0 1 (result_walk of)
moves_result None = moves_any_key k.Void
moves_result (Some of) = moves_type of

-- a head has a nesting token besides those of its sizes
pub moves_head : (h : Head) → Moves (1 + (head_height h - 1)) 1 (head_walk h)
moves_head h =
    let n = head_height h - 1 in
    let v = params_walk h.params >> mark m.RightParen in
    moves_then (1 + n) 1 0 1 (1 + n) 0 (result_walk h.result) (on h.line >> named h.name >> mark m.LeftParen >> v) (omega arith) (omega arith) (moves_result h.result)
    (moves_on (1 + n) 0 h.line (named h.name >> mark m.LeftParen >> v)
    (moves_then (1 + n) 0 0 1 (1 + n) 0 (named h.name) (mark m.LeftParen >> v) (omega arith) (omega arith) (moves_name h.name)
    (moves_then (1 + n) 0 1 1 n 0 (mark m.LeftParen) v (omega arith) (omega arith) (moves_mark m.LeftParen refl)
    (moves_then n 0 n 0 0 1 (params_walk h.params) (mark m.RightParen) (omega arith) (omega arith) (moves_params h.params) (moves_any_mark m.RightParen)))))

-- an item has as many nesting tokens as it is high, but for one
pub moves_item : (x : Item) → Moves (item_height x - 1) 1 (item_walk x)
moves_item (i.Vars v) = moves_less (max 1 (vars_height v) - 1) 1 (vars_height v - 1) 1 (vars_walk v) (omega arith) (omega arith) (moves_vars v)
moves_item (i.Proto h) = moves_then (max 1 (head_height h) - 1) 1 (1 + (head_height h - 1)) 1 0 1 (head_walk h) (mark m.Semicolon) (omega arith) (omega arith) (moves_head h)
    (moves_any_mark m.Semicolon)
moves_item (i.Function h body) = moves_then (max (head_height h) (stmt_part body).height - 1) 1 (1 + (head_height h - 1)) 1 ((stmt_part body).height - 2) 1 (head_walk h) (stmt_part body).walk
    (omega arith) (omega arith) (moves_head h) (moves_stmt body)

-- what is higher than 64 has at least 64 nesting tokens
pub unit_nests : (ts : List Token) (tree : Tree) → Derives ts tree → 64 < unit_height tree → 64 ≤ nesting ts
unit_nests ts tree d high = let f = (moves_each item_walk item_height 1 tree.items (λ x le. moves_item x)).nests ts [] d.walk in omega (arith, f, high)

-- ---- parameters

array_full : (array : Bool) (size : Option Expr) (ts rest : List Token) → array_walk array size ts ≡ Some rest → any_fits 12 size ≡ true → any_height size ≤ 64 → 13 < follow rest
    → array_at ts ≡ Ok (((array, size), any_height size), rest)
unfolding array_at
array_full false None ts rest walks fits low stops =
    let same : ts ≡ rest = cc in
    let lt : 13 < follow ts = subst (λ (us : List Token). 13 < follow us) (sym same) stops in
    none_to (mark m.LeftBracket ts) _ _ _ (no_mark_at m.LeftBracket 13 ts (omega arith) lt) (ap (λ (us : List Token). Ok (((false, None), 0), us)) same)
array_full false (Some x) ts rest walks fits low stops = absurd cc
array_full true size ts rest walks fits low stops =
    let a = then_some (mark m.LeftBracket) (any_walk size >> mark m.RightBracket) ts rest walks in
    let b = then_some (any_walk size) (mark m.RightBracket) a.0 rest a.2 in
    let o = optional_full 64 12 m.RightBracket size stay a.0 rest (lit≤ tt) refl refl (then_walk (any_walk size) (mark m.RightBracket >> stay) a.0 b.0 b.1
    ∙ then_walk (mark m.RightBracket) stay b.0 rest b.2) fits low in
    let same : o.0 ≡ rest = let e : Some o.0 ≡ Some rest = o.2 in cc in
    found_to (mark m.LeftBracket ts) _ _ a.0 _ a.1
    (bind_to (optional 12 m.RightBracket 64 a.0) _ ((size, any_height size), o.0) _ o.1 (ap (λ (us : List Token). Ok (((true, size), any_height size), us)) same))

marked_no_name : (n : Mark) (ts us : List Token) → mark n ts ≡ Some us → name_at ts ≡ None
marked_no_name n ts us e =
    let h = marked n ts us e in
    ap name_at h.tokens ∙ ap (λ o. name_by o h.token us) h.kind

array_no_name : (array : Bool) (size : Option Expr) (ts rest : List Token) → array_walk array size ts ≡ Some rest → name_at rest ≡ None → name_at ts ≡ None
array_no_name false None ts rest walks none = let same : ts ≡ rest = cc in ap name_at same ∙ none
array_no_name false (Some x) ts rest walks none = absurd cc
array_no_name true size ts rest walks none =
    let a = then_some (mark m.LeftBracket) (any_walk size >> mark m.RightBracket) ts rest walks in marked_no_name m.LeftBracket ts a.0 a.1

-- a comma or the closing parenthesis comes next
record ParamEnd (p : Param) (ts : List Token) : Type 0 where
  follows : 13 < follow ts
  no_name : name_at ts ≡ None

param_of_full : (p : Param) (ts rest : List Token) → array_walk p.array p.size ts ≡ Some rest → param_fits p ≡ true → param_height p ≤ 64 → ParamEnd p rest
    → param_of p.of p.name p.line ts ≡ Ok ((p, param_height p), rest)
unfolding param_of
param_of_full p ts rest walks fits low stop = bind_to (array_at ts) _ (((p.array, p.size), param_height p), rest) _ (array_full p.array p.size ts rest walks fits low stop.follows) refl

parameter_by : (p : Param) (name : Option (List ℕ)) (ts us rest : List Token) → p.name ≡ name → param_begin p.of name p.line ts ≡ Some us → array_walk p.array p.size us ≡ Some rest
    → param_fits p ≡ true → param_height p ≤ 64 → ParamEnd p rest → parameter ts ≡ Ok ((p, param_height p), rest)
unfolding parameter
parameter_by p None ts us rest is begins walks fits low stop =
    let a = on_then p.line (type_walk p.of) ts us begins in
    found_to (type_at ts) (Err Wrong) _ (p.of, us) _ (type_found p.of ts us a.1)
    (none_to (name_at us) _ _ _ (array_no_name p.array p.size us rest walks stop.no_name)
    (ap (λ (l : ℕ). param_of p.of None l us) a.0 ∙ ap (λ (o : Option (List ℕ)). param_of p.of o p.line us) (sym is) ∙ param_of_full p us rest walks fits low stop))
parameter_by p (Some name) ts us rest is begins walks fits low stop =
    let a = then_some (type_walk p.of) (on p.line >> named name) ts us begins in
    let b = on_then p.line (named name) a.0 us a.2 in
    found_to (type_at ts) (Err Wrong) _ (p.of, a.0) _ (type_found p.of ts a.0 a.1)
    (found_to (name_at a.0) _ _ (name, us) _ (name_found name a.0 us b.1)
    (ap (λ (l : ℕ). param_of p.of (Some name) l us) b.0 ∙ ap (λ (o : Option (List ℕ)). param_of p.of o p.line us) (sym is) ∙ param_of_full p us rest walks fits low stop))

parameter_full : Full param_shape 64 ParamEnd parameter
unfolding param_shape
parameter_full = record {
  of = λ p ts rest walks fits low stop.
      let a = then_some (param_begin p.of p.name p.line) (array_walk p.array p.size) ts rest walks in
      parameter_by p p.name ts a.0 rest refl a.1 a.2 fits low stop;
}

ends_param : (n : Mark) (p : Param) (ts us : List Token) → 13 < mark_level n → mark n ts ≡ Some us → ParamEnd p ts
ends_param n p ts us lt e = record { follows = let f = follow_mark n ts us e in omega (arith, f, lt); no_name = marked_no_name n ts us e }

param_takes : (p : Param) (ts us : List Token) → param_walk p ts ≡ Some us → length us < length ts
param_takes p ts us e = let f = (moves_param p).takes ts us e in omega (arith, f)

-- what begins with a type doesn't begin with `void`, nor with a mark
type_no_void : (of : Ctype) (ts us : List Token) → type_walk of ts ≡ Some us → key k.Void ts ≡ None
type_no_void of ts us e = none_of (key k.Void ts) (λ vs h.
    let a = keyed k.Void ts vs h in
    let f = ap type_at (sym a.tokens) ∙ type_found of ts us e in
    let g : type_by (tok.Keyword k.Void) vs ≡ Some (of, us) = ap (λ (o : Tok). type_by o vs) (sym a.kind) ∙ f in cc)

type_no_mark : (n : Mark) (of : Ctype) (ts us : List Token) → type_walk of ts ≡ Some us → mark n ts ≡ None
type_no_mark n of ts us e = none_of (mark n ts) (λ vs h.
    let a = marked n ts vs h in
    let f = ap type_at (sym a.tokens) ∙ type_found of ts us e in
    let g : type_by (tok.Mark n) vs ≡ Some (of, us) = ap (λ (o : Tok). type_by o vs) (sym a.kind) ∙ f in cc)

begin_type : (of : Ctype) (name : Option (List ℕ)) (line : ℕ) (ts us : List Token) → param_begin of name line ts ≡ Some us → (vs : List Token) × (type_walk of ts ≡ Some vs)
begin_type of None line ts us e = (us, (on_then line (type_walk of) ts us e).1)
begin_type of (Some name) line ts us e = let a = then_some (type_walk of) (on line >> named name) ts us e in (a.0, a.1)

void_by : (b : Bool) (t : Token) (ts us : List Token) → is_key k.Void t.kind ≡ b → Some (if b then ts else t ∷ ts) ≡ Some us
    → ((key k.Void (t ∷ ts) ≡ Some us) ⊎ ((key k.Void (t ∷ ts) ≡ None) × (t ∷ ts ≡ us)))
void_by true t ts us e h = inl (ap (λ (c : Bool). elim c [ true ↦ Some ts | false ↦ None ]) e ∙ h)
void_by false t ts us e h = inr (ap (λ (c : Bool). elim c [ true ↦ Some ts | false ↦ None ]) e, cc)

void_cases : (ts us : List Token) → past_void ts ≡ Some us → ((key k.Void ts ≡ Some us) ⊎ ((key k.Void ts ≡ None) × (ts ≡ us)))
void_cases [] us e = inr (refl, cc)
void_cases (t ∷ ts) us e = void_by (is_key k.Void t.kind) t ts us refl e

pub parameters_full : (xs : List Param) (ts us rest : List Token) → params_walk xs ts ≡ Some us → mark m.RightParen us ≡ Some rest → list_all param_fits xs ≡ true → highest param_height xs ≤ 64
    → parameters ts ≡ Ok ((xs, highest param_height xs), rest)
unfolding parameters param_shape
parameters_full [] ts us rest walks close fits low = elim (void_cases ts us walks) [
  | inl h ↦ found_to (key k.Void ts) _ _ us _ h (expect_to m.RightParen us rest _ _ close refl)
  | inr h ↦ none_to (key k.Void ts) _ _ _ h.0 (found_to (mark m.RightParen ts) _ _ rest _ (ap (mark m.RightParen) h.1 ∙ close) refl)
]
parameters_full (x ∷ xs) ts us rest walks close fits low =
    let w = then_some (param_walk x) (commas param_walk xs) ts us walks in
    let b = then_some (param_begin x.of x.name x.line) (array_walk x.array x.size) ts w.0 w.1 in
    let t = begin_type x.of x.name x.line ts b.0 b.1 in
    none_to (key k.Void ts) _ _ _ (type_no_void x.of ts t.0 t.1)
    (none_to (mark m.RightParen ts) _ _ _ (type_no_mark m.RightParen x.of ts t.0 t.1)
    (separated_full param_shape 64 ParamEnd parameter parameter_full is_separator m.RightParen refl refl
    (λ y vs ws e. ends_param m.Comma y vs ws (omega arith) e) (λ y vs ws e. ends_param m.RightParen y vs ws (omega arith) e) param_takes
    (x ∷ xs) (length ts + 1) ts us rest walks close fits low (omega arith)))

-- ---- items

-- a block is read after its brace
block_view : (x : Stmt) → View x → (ts rest : List Token) → (stmt_part x).is_block ≡ true → (stmt_part x).walk ts ≡ Some rest → (stmt_part x).fits ≡ true → (stmt_part x).height ≤ 64
    → (us : List Token) × (mark m.LeftBrace ts ≡ Some us) × (block 63 (read_stmt 63) (line_at ts) us ≡ Ok ((x, (stmt_part x).height), rest))
block_view x (Block locals list line) ts rest is walks fits low =
    let law = part-Block locals list line in
    let v = each vars_walk locals in let w = each (λ (z : StmtPart). z.walk) (map stmt_part list) in
    let walk = subst (λ (p : StmtPart). p.walk ts ≡ Some rest) law walks in
    let fit = ap (λ (p : StmtPart). p.fits) (sym law) ∙ fits in
    let high = ap (λ (p : StmtPart). p.height) law in
    let a = on_then line (mark m.LeftBrace >> v >> w >> mark m.RightBrace) ts rest walk in
    let b = then_some (mark m.LeftBrace) (v >> w >> mark m.RightBrace) ts rest a.1 in
    let r = block_full 63 (read_stmt 63) (stmt_full 63) locals list line b.0 rest b.2 fit (omega (arith, high, low)) in (
      b.0,
      b.1,
      ap (λ (l : ℕ). block 63 (read_stmt 63) l b.0) a.0 ∙ r ∙ ap (λ (n : ℕ). Ok ((s.Block locals list line, n), rest)) (sym high),
    )
block_view x (Empty line) ts rest is walks fits low = absurd (let h = ap (λ (p : StmtPart). p.is_block) (part-Empty line) in cc)
block_view x (Run part line) ts rest is walks fits low = absurd (let h = ap (λ (p : StmtPart). p.is_block) (part-Run part line) in cc)
block_view x (If test first second line) ts rest is walks fits low = absurd (let h = ap (λ (p : StmtPart). p.is_block) (part-If test first second line) in cc)
block_view x (While test body line) ts rest is walks fits low = absurd (let h = ap (λ (p : StmtPart). p.is_block) (part-While test body line) in cc)
block_view x (Do body test line) ts rest is walks fits low = absurd (let h = ap (λ (p : StmtPart). p.is_block) (part-Do body test line) in cc)
block_view x (For start test third body line) ts rest is walks fits low = absurd (let h = ap (λ (p : StmtPart). p.is_block) (part-For start test third body line) in cc)
block_view x (Break line) ts rest is walks fits low = absurd (let h = ap (λ (p : StmtPart). p.is_block) (part-Break line) in cc)
block_view x (Continue line) ts rest is walks fits low = absurd (let h = ap (λ (p : StmtPart). p.is_block) (part-Continue line) in cc)
block_view x (Return value line) ts rest is walks fits low = absurd (let h = ap (λ (p : StmtPart). p.is_block) (part-Return value line) in cc)
block_view x (Switch test list line) ts rest is walks fits low = absurd (let h = ap (λ (p : StmtPart). p.is_block) (part-Switch test list line) in cc)

head_item : (h : Head) (ts us rest : List Token) → (on h.line >> named h.name >> mark m.LeftParen >> params_walk h.params >> mark m.RightParen) us ≡ Some rest → head_fits h ≡ true → head_height h ≤ 64
    → (r : Result ((Item × ℕ) × List Token) Failure) → headed h (head_height h) rest ≡ r → item_of h.result us ≡ r
unfolding item_of function_of
head_item h ts us rest walks fits low r is =
    let v = params_walk h.params >> mark m.RightParen in
    let a = on_then h.line (named h.name >> mark m.LeftParen >> v) us rest walks in
    let b = then_some (named h.name) (mark m.LeftParen >> v) us rest a.1 in
    let c = then_some (mark m.LeftParen) v b.0 rest b.2 in
    let d = then_some (params_walk h.params) (mark m.RightParen) c.0 rest c.2 in
    bind_to (expect_name us) _ (h.name, b.0) _ (ap found (name_found h.name us b.0 b.1))
    (found_to (mark m.LeftParen b.0) _ _ c.0 _ c.1
    (bind_to (parameters c.0) _ ((h.params, head_height h), rest) _ (parameters_full h.params c.0 d.0 rest d.1 d.2 fits low)
    (ap (λ (l : ℕ). headed (record { result = h.result; name = h.name; params = h.params; line = l }) (head_height h) rest) a.0 ∙ is)))

result_item : (of : Option Ctype) (ts us : List Token) → result_walk of ts ≡ Some us → read_item ts ≡ item_of of us
unfolding read_item
result_item None ts us e = found_to (key k.Void ts) _ _ us _ e refl
result_item (Some of) ts us e = none_to (key k.Void ts) _ _ _ (type_no_void of ts us e) (found_to (type_at ts) (Err Wrong) _ (of, us) _ (type_found of ts us e) refl)

vars_item : (v : Vars) (ts rest : List Token) → vars_walk v ts ≡ Some rest → vars_fit v ≡ true → vars_height v ≤ 64 → read_item ts ≡ Ok ((i.Vars v, max 1 (vars_height v)), rest)
unfolding item_of vars_of
vars_item v ts rest walks fits low =
    let a = then_some (type_walk v.of) (listed declr_walk v.list >> mark m.Semicolon) ts rest walks in
    let n = first_name v.list a.0 rest a.2 in
    result_item (Some v.of) ts a.0 a.1 ∙ bind_to (expect_name a.0) _ (n.0, n.1) _ (ap found n.2)
    (none_to (mark m.LeftParen n.1) _ _ _ n.3 (bind_to (declarations 64 v.of a.0) _ ((v, vars_height v), rest) _ (declarations_full 64 v a.0 rest a.2 fits low) refl))
  where
    -- a declarator's name isn't followed by a parenthesis
    after_name : (size start : Option Expr) (ts us : List Token) → declr_end size start ts ≡ Some us → mark m.LeftParen us ≡ None → mark m.LeftParen ts ≡ None
    after_name None None ts us e none = let same : ts ≡ us = cc in ap (mark m.LeftParen) same ∙ none
    after_name None (Some x) ts us e none = let a = then_some (mark m.Assign) (part_of x).walk ts us e in no_other m.LeftParen m.Assign ts a.0 (λ (bad : 0 ≡ 13). omega (arith, bad)) a.1
    after_name (Some x) None ts us e none =
        let a = then_some (mark m.LeftBracket) ((part_of x).walk >> mark m.RightBracket) ts us e in
        none_of (mark m.LeftParen ts) (λ vs h.
        let p = marked m.LeftBracket ts a.0 a.1 in let q = first_of m.LeftParen p.token a.0 vs (ap (mark m.LeftParen) (sym p.tokens) ∙ h) in
        let bad : tok.Mark m.LeftBracket ≡ tok.Mark m.LeftParen = sym p.kind ∙ q in cc)
    after_name (Some x) (Some y) ts us e none = absurd cc

    no_paren : (n : Mark) (ts us : List Token) → 0 < mark_level n → mark n ts ≡ Some us → mark m.LeftParen ts ≡ None
    no_paren n ts us lt e = none_of (mark m.LeftParen ts) (λ vs h. let a : follow ts ≡ 0 = follow_mark m.LeftParen ts vs h in let b = follow_mark n ts us e in omega (arith, a, b, lt))

    ends_declr : (xs : List Declr) (ts last rest : List Token) → commas declr_walk xs ts ≡ Some last → mark m.Semicolon last ≡ Some rest → mark m.LeftParen ts ≡ None
    ends_declr [] ts last rest e close = let same : ts ≡ last = (let h : Some ts ≡ Some last = e in cc) in no_paren m.Semicolon ts rest (omega arith) (ap (mark m.Semicolon) same ∙ close)
    ends_declr (x ∷ xs) ts last rest e close = let a = then_some (mark m.Comma) (declr_walk x >> commas declr_walk xs) ts last e in no_paren m.Comma ts a.0 (omega arith) a.1

    first_name : (xs : List Declr) (ts rest : List Token) → (listed declr_walk xs >> mark m.Semicolon) ts ≡ Some rest → (name : List ℕ) × (us : List Token) × (name_at ts ≡ Some (name, us))
        × (mark m.LeftParen us ≡ None)
    first_name [] ts rest e = absurd cc
    first_name (x ∷ xs) ts rest e =
        let a = then_some (listed declr_walk (x ∷ xs)) (mark m.Semicolon) ts rest e in
        let b = then_some (declr_walk x) (commas declr_walk xs) ts a.0 a.1 in
        let c = on_then x.line (named x.name >> declr_end x.size x.start) ts b.0 b.1 in
        let d = then_some (named x.name) (declr_end x.size x.start) ts b.0 c.1 in
        (x.name, d.0, name_found x.name ts d.0 d.1, after_name x.size x.start d.0 b.0 d.2 (ends_declr xs b.0 a.0 rest b.2 a.2))

proto_headed : (h : Head) (us rest : List Token) → mark m.Semicolon us ≡ Some rest → headed h (head_height h) us ≡ Ok ((i.Proto h, max 1 (head_height h)), rest)
unfolding headed
proto_headed h us rest e = found_to (mark m.Semicolon us) _ _ rest _ e refl

function_headed : (h : Head) (body : Stmt) (us rest : List Token) → params_named h.params ≡ true → (stmt_part body).is_block ≡ true → (stmt_part body).walk us ≡ Some rest
    → (stmt_part body).fits ≡ true → (stmt_part body).height ≤ 64
    → headed h (head_height h) us ≡ Ok ((i.Function h body, max (head_height h) (stmt_part body).height), rest)
unfolding headed body_of
function_headed h body us rest names is walks fits low =
    let b = block_view body (view body) us rest is walks fits low in
    none_to (mark m.Semicolon us) _ _ _ (none_of (mark m.Semicolon us) (λ vs e.
    let p = marked m.LeftBrace us b.0 b.1 in let q = first_of m.Semicolon p.token b.0 vs (ap (mark m.Semicolon) (sym p.tokens) ∙ e) in
    let bad : tok.Mark m.LeftBrace ≡ tok.Mark m.Semicolon = sym p.kind ∙ q in cc))
    (ap (λ (c : Bool). if c then
    (expect m.LeftBrace us >>= λ begun. block 63 (read_stmt 63) (line_at us) begun >>= λ body. Ok ((i.Function h body.0.0, max (head_height h) body.0.1), body.1)) else Err Wrong) names
    ∙ expect_to m.LeftBrace us b.0 _ _ b.1 (bind_to (block 63 (read_stmt 63) (line_at us) b.0) _ ((body, (stmt_part body).height), rest) _ b.2 refl))

item_reads : (x : Item) (ts rest : List Token) → item_walk x ts ≡ Some rest → item_fits x ≡ true → item_height x ≤ 64 → read_item ts ≡ Ok ((x, item_height x), rest)
item_reads (i.Vars v) ts rest walks fits low = vars_item v ts rest walks fits (omega (arith, low))
item_reads (i.Proto h) ts rest walks fits low =
    let a = then_some (head_walk h) (mark m.Semicolon) ts rest walks in
    let v = on h.line >> named h.name >> mark m.LeftParen >> params_walk h.params >> mark m.RightParen in
    let b = then_some (result_walk h.result) v ts a.0 a.1 in
    result_item h.result ts b.0 b.1 ∙ head_item h ts b.0 a.0 b.2 fits (omega (arith, low)) _ (proto_headed h a.0 rest a.2)
item_reads (i.Function h body) ts rest walks fits low =
    let p = stmt_part body in
    let a = then_some (head_walk h) p.walk ts rest walks in
    let v = on h.line >> named h.name >> mark m.LeftParen >> params_walk h.params >> mark m.RightParen in
    let b = then_some (result_walk h.result) v ts a.0 a.1 in
    let f = and_true (head_fits h && params_named h.params && p.is_block) p.fits fits in
    let g = and_true (head_fits h && params_named h.params) p.is_block f.0 in
    let e = and_true (head_fits h) (params_named h.params) g.0 in
    result_item h.result ts b.0 b.1 ∙ head_item h ts b.0 a.0 b.2 e.0 (omega (arith, low)) _ (function_headed h body a.0 rest e.1 g.1 a.2 f.1 (omega (arith, low)))

item_full : Full item_shape 64 Anywhere read_item
unfolding item_shape
item_full = record { of = λ x ts rest walks fits low stop. item_reads x ts rest walks fits low }

item_begins : (x : Item) (ts rest : List Token) → item_walk x ts ≡ Some rest → at_end ts ≡ None
item_begins x [] rest walks = absurd (let f = (moves_item x).takes [] rest walks in omega (arith, f))
item_begins x (t ∷ ts) rest walks = refl

item_listing : Listing item_shape Anywhere at_end
unfolding item_shape
item_listing = record {
  begins = λ x ts rest walks fits. item_begins x ts rest walks;
  takes = λ x ts rest walks fits. let f = (moves_item x).takes ts rest walks in omega (arith, f);
  at_stop = λ x ts rest e. tt;
  at_next = λ x y ts rest walks fits. tt;
}

-- the tokens of a unit are read as it
pub unit_full : (ts : List Token) (tree : Tree) → UnitOf ts tree → read_items ts ≡ Ok ((tree.items, unit_height tree), [])
unfolding read_items item_shape
unit_full ts tree u =
    repeated_full item_shape 64 Anywhere read_item item_full at_end item_listing tree.items (length ts + 1) ts [] [] u.derives.walk refl u.derives.fits (leb-true (unit_height tree) 64 u.low)
    (omega arith)
