-- What statements take: as many tokens as they have parts, and as many nesting tokens as they are high, but for two.
use Rattle.std.proofs.Common.{◌≡◌, ℕ, zero, suc, ◌+◌, ◌-◌, ◌<◌, ◌≤◌, max, Bool, true, false, List, [], ◌∷◌, map, length, Option, Some, None, refl, sym, ap, ◌∙◌, subst, arith}
use Rattle.std.specs.Prelude.{if◌then◌else◌, option_map}
use Rattle.nm_base.specs.declared.operator.Ctype.{Ctype}
use Rattle.nm_base.specs.declared.operator.Ctype.TheVariants.{Int, Unsigned}
use Rattle.c_lexer.specs.declared.token.Token.{Token}
use Rattle.c_lexer.specs.declared.token.Key.{Key}
use Rattle.c_lexer.specs.declared.token.Key.TheVariants as k
use Rattle.c_lexer.specs.declared.token.Mark.{Mark}
use Rattle.c_lexer.specs.declared.token.Mark.TheVariants as m
use Rattle.c_tree.specs.declared.tree.Expr.{Expr}
use Rattle.c_tree.specs.declared.tree.Declr.{Declr}
use Rattle.c_tree.specs.declared.tree.Vars.{Vars}
use Rattle.c_tree.specs.declared.tree.Label.{Label}
use Rattle.c_tree.specs.declared.tree.Arm.{Arm}
use Rattle.c_tree.specs.declared.tree.Stmt.{Stmt, roll-Stmt, out-Stmt, roll-out-Stmt}
use Rattle.c_tree.specs.declared.tree.Stmt.TheVariants as s
use Rattle.c_tree.specs.declared.tree.Stmt.TheOpen.{Stmt-F}
use Rattle.c_parser.specs.Tokens.{is_key, is_nesting_mark, is_nesting_key, is_nesting, nesting}
use Rattle.c_parser.specs.Walk.{Walk, ◌>>◌, stay, nowhere, mark, key, named, each, commas, listed, on}
use Rattle.c_parser.specs.Expr.{part_of}
use Rattle.c_parser.specs.Stmt as tree
use Rattle.c_parser.specs.Stmt.{StmtPart, ArmPart, highest, any_walk, any_height, past_int, type_walk, declr_walk, declr_height, vars_walk, vars_height, value_walk, label_walk, label_height}
use Rattle.c_parser.specs.Stmt.{else_walk, else_height, returned_height, arm_step, stmt_part, arm_part}
use Rattle.c_parser.proofs.Steps.{then_some, on_then, named_some}
use Rattle.c_parser.proofs.Nesting.{costs_token, costs_any, costs_mark, costs_expr}
use Rattle.c_parser.proofs.Shorter.{takes_mark, takes_name, takes_expr}
use Rattle.c_parser.proofs.StmtSound.{keyed, stmts_walk, stmts_high, arms_high}
use Rattle.c_parser.proofs.StmtLaws.{part-Block, part-Empty, part-Run, part-If, part-While, part-Do, part-For, part-Break, part-Continue, part-Return, part-Switch, part-Arm}

-- ---- statements by their form

pub data View : Stmt → Type 0 where
  Block : (locals : List Vars) (list : List Stmt) (line : ℕ) → View (s.Block locals list line)
  Empty : (line : ℕ) → View (s.Empty line)
  Run : (part : Expr) (line : ℕ) → View (s.Run part line)
  If : (test : Expr) (first : Stmt) (second : Option Stmt) (line : ℕ) → View (s.If test first second line)
  While : (test : Expr) (body : Stmt) (line : ℕ) → View (s.While test body line)
  Do : (body : Stmt) (test : Expr) (line : ℕ) → View (s.Do body test line)
  For : (start test third : Option Expr) (body : Stmt) (line : ℕ) → View (s.For start test third body line)
  Break : (line : ℕ) → View (s.Break line)
  Continue : (line : ℕ) → View (s.Continue line)
  Return : (value : Option Expr) (line : ℕ) → View (s.Return value line)
  Switch : (test : Expr) (arms : List Arm) (line : ℕ) → View (s.Switch test arms line)

view_roll : (x : Stmt-F Stmt Arm) → View (roll-Stmt x)
view_roll (Stmt-F.Block locals list line) = subst View (sym (s.rolls-Block locals list line)) (Block locals list line)
view_roll (Stmt-F.Empty line) = subst View (sym (s.rolls-Empty line)) (Empty line)
view_roll (Stmt-F.Run part line) = subst View (sym (s.rolls-Run part line)) (Run part line)
view_roll (Stmt-F.If test first second line) = subst View (sym (s.rolls-If test first second line)) (If test first second line)
view_roll (Stmt-F.While test body line) = subst View (sym (s.rolls-While test body line)) (While test body line)
view_roll (Stmt-F.Do body test line) = subst View (sym (s.rolls-Do body test line)) (Do body test line)
view_roll (Stmt-F.For start test third body line) = subst View (sym (s.rolls-For start test third body line)) (For start test third body line)
view_roll (Stmt-F.Break line) = subst View (sym (s.rolls-Break line)) (Break line)
view_roll (Stmt-F.Continue line) = subst View (sym (s.rolls-Continue line)) (Continue line)
view_roll (Stmt-F.Return value line) = subst View (sym (s.rolls-Return value line)) (Return value line)
view_roll (Stmt-F.Switch test arms line) = subst View (sym (s.rolls-Switch test arms line)) (Switch test arms line)

pub view : (x : Stmt) → View x
view x = subst View (roll-out-Stmt x) (view_roll (out-Stmt x))

-- ---- walks

-- the walk takes at least n nesting tokens, and at least k tokens
pub record Moves (n k : ℕ) (w : Walk) : Type 0 where
  pub nests : (ts rest : List Token) → w ts ≡ Some rest → nesting rest + n ≤ nesting ts
  pub takes : (ts rest : List Token) → w ts ≡ Some rest → length rest + k ≤ length ts

pub moves_then : (n k a b c d : ℕ) (v w : Walk) → n ≤ a + c → k ≤ b + d → Moves a b v → Moves c d w → Moves n k (v >> w)
moves_then n k a b c d v w le le' p q = record {
  nests = λ ts rest e. let x = then_some v w ts rest e in let y = p.nests ts x.0 x.1 in let z = q.nests x.0 rest x.2 in omega (arith, le, y, z);
  takes = λ ts rest e. let x = then_some v w ts rest e in let y = p.takes ts x.0 x.1 in let z = q.takes x.0 rest x.2 in omega (arith, le', y, z);
}

pub moves_less : (n k a b : ℕ) (w : Walk) → n ≤ a → k ≤ b → Moves a b w → Moves n k w
moves_less n k a b w le le' p = record {
  nests = λ ts rest e. let y = p.nests ts rest e in omega (arith, le, y);
  takes = λ ts rest e. let y = p.takes ts rest e in omega (arith, le', y);
}

pub moves_on : (n k line : ℕ) (w : Walk) → Moves n k w → Moves n k (on line >> w)
moves_on n k line w p = record {
  nests = λ ts rest e. p.nests ts rest (on_then line w ts rest e).1;
  takes = λ ts rest e. p.takes ts rest (on_then line w ts rest e).1;
}

same_of : (ts rest : List Token) → stay ts ≡ Some rest → ts ≡ rest
same_of ts rest e = cc

pub moves_stay : Moves 0 0 stay
moves_stay = record {
  nests = λ ts rest e. let l : nesting ts ≡ nesting rest = ap nesting (same_of ts rest e) in omega (arith, l);
  takes = λ ts rest e. let l : length ts ≡ length rest = ap length (same_of ts rest e) in omega (arith, l);
}

pub moves_nowhere : (n k : ℕ) → Moves n k nowhere
moves_nowhere n k = record {
  nests = λ ts rest e. let bad : ⊥ = cc in absurd bad;
  takes = λ ts rest e. let bad : ⊥ = cc in absurd bad;
}

pub moves_any_mark : (n : Mark) → Moves 0 1 (mark n)
moves_any_mark n = record { nests = (costs_any n).of; takes = (takes_mark n).of }

pub moves_mark : (n : Mark) → is_nesting_mark n ≡ true → Moves 1 1 (mark n)
moves_mark n e = record { nests = (costs_mark n e).of; takes = (takes_mark n).of }

nest_token : (b : Bool) (t : Token) (ts : List Token) → is_nesting t.kind ≡ true → nesting (t ∷ ts) ≡ suc (nesting ts)
nest_token b t ts e = rw e refl

pub moves_key : (l : Key) → is_nesting_key l ≡ true → Moves 1 1 (key l)
moves_key l nests = record {
  nests = λ ts rest e. let x = keyed l ts rest e in
      let f : nesting ts ≡ nesting (x.token ∷ rest) = ap nesting x.tokens in
      let g = nest_token true x.token rest (ap is_nesting x.kind ∙ nests) in omega (arith, f, g);
  takes = λ ts rest e. let x = keyed l ts rest e in let f : length ts ≡ length (x.token ∷ rest) = ap length x.tokens in omega (arith, f);
}

pub moves_any_key : (l : Key) → Moves 0 1 (key l)
moves_any_key l = record {
  nests = λ ts rest e. let x = keyed l ts rest e in
      let f : nesting ts ≡ nesting (x.token ∷ rest) = ap nesting x.tokens in
      let g = costs_token x.token rest in omega (arith, f, g);
  takes = λ ts rest e. let x = keyed l ts rest e in let f : length ts ≡ length (x.token ∷ rest) = ap length x.tokens in omega (arith, f);
}

pub moves_name : (bytes : List ℕ) → Moves 0 1 (named bytes)
moves_name bytes = record {
  nests = λ ts rest e. let x = named_some bytes ts rest e in
      let f : nesting ts ≡ nesting (x.token ∷ rest) = ap nesting x.tokens in
      let g = costs_token x.token rest in omega (arith, f, g);
  takes = (takes_name bytes).of;
}

pub moves_expr : (x : Expr) → Moves ((part_of x).height - 1) 1 (part_of x).walk
moves_expr x = record { nests = (costs_expr x).of; takes = (takes_expr x).of }

pub moves_any : (x : Option Expr) → Moves (any_height x - 1) 0 (any_walk x)
moves_any None = moves_stay
moves_any (Some x) = moves_less ((part_of x).height - 1) 0 ((part_of x).height - 1) 1 (part_of x).walk (omega arith) (omega arith) (moves_expr x)

-- ---- types

past_falls : (ts : List Token) → (nesting (past_int ts) ≤ nesting ts) × (length (past_int ts) ≤ length ts)
past_falls [] = (omega arith, omega arith)
past_falls (t ∷ ts) = from (is_key k.Int t.kind)
  where
    from : (b : Bool) → (nesting (if b then ts else t ∷ ts) ≤ nesting (t ∷ ts)) × (length (if b then ts else t ∷ ts) ≤ length (t ∷ ts))
    from true = (costs_token t ts, omega arith)
    from false = (omega arith, omega arith)

Falls : Token → List Token → List Token → Type 0
Falls t ts rest = (nesting rest + 0 ≤ nesting (t ∷ ts)) × (length rest + 1 ≤ length (t ∷ ts))

falls_past : (t : Token) (ts : List Token) → Falls t ts (past_int ts)
unfolding Falls
falls_past t ts = let p = past_falls ts in let c = costs_token t ts in (omega (arith, p.0, c), omega (arith, p.1))

falls_next : (t : Token) (ts : List Token) → Falls t ts ts
unfolding Falls
falls_next t ts = let c = costs_token t ts in (omega (arith, c), omega arith)

falls_to : (t : Token) (ts us rest : List Token) → Falls t ts us → Some us ≡ Some rest → Falls t ts rest
falls_to t ts us rest f e = let same : us ≡ rest = cc in subst (Falls t ts) same f

int_falls : (a b : Bool) (t : Token) (ts rest : List Token) → (if a then Some ts else (if b then Some (past_int ts) else None)) ≡ Some rest → Falls t ts rest
int_falls true b t ts rest e = falls_to t ts ts rest (falls_next t ts) e
int_falls false true t ts rest e = falls_to t ts (past_int ts) rest (falls_past t ts) e
int_falls false false t ts rest e = absurd cc

unsigned_falls : (a : Bool) (t : Token) (ts rest : List Token) → (if a then Some (past_int ts) else None) ≡ Some rest → Falls t ts rest
unsigned_falls true t ts rest e = falls_to t ts (past_int ts) rest (falls_past t ts) e
unsigned_falls false t ts rest e = absurd cc

type_falls : (of : Ctype) (t : Token) (ts rest : List Token) → type_walk of (t ∷ ts) ≡ Some rest → Falls t ts rest
type_falls Int t ts rest e = int_falls (is_key k.Int t.kind) (is_key k.Signed t.kind) t ts rest e
type_falls Unsigned t ts rest e = unsigned_falls (is_key k.Unsigned t.kind) t ts rest e

no_tokens : (of : Ctype) (rest : List Token) → type_walk of [] ≡ Some rest → ⊥
no_tokens Int rest e = cc
no_tokens Unsigned rest e = cc

type_nests : (of : Ctype) (ts rest : List Token) → type_walk of ts ≡ Some rest → nesting rest + 0 ≤ nesting ts
unfolding Falls
type_nests of [] rest e = absurd (no_tokens of rest e)
type_nests of (t ∷ ts) rest e = (type_falls of t ts rest e).0

type_takes : (of : Ctype) (ts rest : List Token) → type_walk of ts ≡ Some rest → length rest + 1 ≤ length ts
unfolding Falls
type_takes of [] rest e = absurd (no_tokens of rest e)
type_takes of (t ∷ ts) rest e = (type_falls of t ts rest e).1

pub moves_type : (of : Ctype) → Moves 0 1 (type_walk of)
moves_type of = record { nests = type_nests of; takes = type_takes of }

-- ---- lists

module _ {A : Type 0} (w : A → Walk) (h : A → ℕ) (spare : ℕ) where
  pub moves_each : (xs : List A) → ((x : A) → h x ≤ highest h xs → Moves (h x - spare) 1 (w x)) → Moves (highest h xs - spare) (length xs) (each w xs)
  moves_each [] f = moves_less (0 - spare) 0 0 0 stay (omega arith) (omega arith) moves_stay
  moves_each (x ∷ xs) f = moves_then (max (h x) (highest h xs) - spare) (length (x ∷ xs)) (h x - spare) 1 (highest h xs - spare) (length xs) (w x) (each w xs) (omega arith) (omega arith)
      (f x (omega arith)) (moves_each xs (λ y le. f y (omega (arith, le))))

  moves_commas : (xs : List A) → ((x : A) → Moves (h x - spare) 1 (w x)) → Moves (highest h xs - spare) (length xs) (commas w xs)
  moves_commas [] f = moves_less (0 - spare) 0 0 0 stay (omega arith) (omega arith) moves_stay
  moves_commas (x ∷ xs) f = moves_then (max (h x) (highest h xs) - spare) (length (x ∷ xs)) 0 1 (max (h x) (highest h xs) - spare) (length xs) (mark m.Comma) (w x >> commas w xs) (omega arith)
      (omega arith) (moves_any_mark m.Comma)
      (moves_then (max (h x) (highest h xs) - spare) (length xs) (h x - spare) 1 (highest h xs - spare) (length xs) (w x) (commas w xs) (omega arith) (omega arith) (f x) (moves_commas xs f))

  pub moves_listed : (xs : List A) → ((x : A) → Moves (h x - spare) 1 (w x)) → Moves (highest h xs - spare) (length xs) (listed w xs)
  moves_listed [] f = moves_nowhere (0 - spare) 0
  moves_listed (x ∷ xs) f = moves_then (max (h x) (highest h xs) - spare) (length (x ∷ xs)) (h x - spare) 1 (highest h xs - spare) (length xs) (w x) (commas w xs) (omega arith) (omega arith) (f x)
      (moves_commas xs f)

-- ---- declarations

moves_end : (size start : Option Expr) → Moves (max (any_height size) (any_height start) - 1) 0 (tree.declr_end size start)
moves_end None None = moves_less (0 - 1) 0 0 0 stay (omega arith) (omega arith) moves_stay
moves_end None (Some x) = moves_then (max 0 (part_of x).height - 1) 0 0 1 ((part_of x).height - 1) 1 (mark m.Assign) (part_of x).walk (omega arith) (omega arith) (moves_any_mark m.Assign)
    (moves_expr x)
moves_end (Some x) None = moves_then (max (part_of x).height 0 - 1) 0 0 1 ((part_of x).height - 1) 1 (mark m.LeftBracket) ((part_of x).walk >> mark m.RightBracket) (omega arith) (omega arith)
    (moves_any_mark m.LeftBracket)
    (moves_then ((part_of x).height - 1) 1 ((part_of x).height - 1) 1 0 1 (part_of x).walk (mark m.RightBracket) (omega arith) (omega arith) (moves_expr x) (moves_any_mark m.RightBracket))
moves_end (Some x) (Some y) = moves_nowhere (max (part_of x).height (part_of y).height - 1) 0

pub moves_declr : (d : Declr) → Moves (declr_height d - 1) 1 (declr_walk d)
moves_declr d = moves_on (declr_height d - 1) 1 d.line (named d.name >> tree.declr_end d.size d.start)
    (moves_then (declr_height d - 1) 1 0 1 (declr_height d - 1) 0 (named d.name) (tree.declr_end d.size d.start) (omega arith) (omega arith) (moves_name d.name) (moves_end d.size d.start))

pub moves_vars : (v : Vars) → Moves (vars_height v - 1) 1 (vars_walk v)
moves_vars v = moves_then (vars_height v - 1) 1 0 1 (vars_height v - 1) 0 (type_walk v.of) (listed declr_walk v.list >> mark m.Semicolon) (omega arith) (omega arith) (moves_type v.of)
    (moves_then (vars_height v - 1) 0 (vars_height v - 1) (length v.list) 0 1 (listed declr_walk v.list) (mark m.Semicolon) (omega arith) (omega arith)
    (moves_listed declr_walk declr_height 1 v.list moves_declr) (moves_any_mark m.Semicolon))

-- ---- labels

moves_value : (x : Option Expr) → Moves (any_height x) 1 (value_walk x)
moves_value None = moves_any_key k.Default
moves_value (Some x) = moves_then (part_of x).height 1 1 1 ((part_of x).height - 1) 1 (key k.Case) (part_of x).walk (omega arith) (omega arith) (moves_key k.Case refl) (moves_expr x)

pub moves_label : (l : Label) → Moves (label_height l) 1 (label_walk l)
moves_label l = moves_on (label_height l) 1 l.line (value_walk l.value >> mark m.Colon)
    (moves_then (label_height l) 1 (label_height l) 1 0 1 (value_walk l.value) (mark m.Colon) (omega arith) (omega arith) (moves_value l.value) (moves_any_mark m.Colon))

label_spare : (l : Label) → Moves (label_height l - 2) 1 (label_walk l)
label_spare l = moves_less (label_height l - 2) 1 (label_height l) 1 (label_walk l) (omega arith) (omega arith) (moves_label l)

pub moves_labels : (xs : List Label) → Moves (highest label_height xs - 2) (length xs) (each label_walk xs)
moves_labels xs = moves_each label_walk label_height 2 xs (λ l le. label_spare l)

-- ---- statements

abbrev walk_of : Stmt → Walk
walk_of x = (stmt_part x).walk

abbrev height_of : Stmt → ℕ
height_of x = (stmt_part x).height

abbrev Move : Stmt → Type 0
Move x = Moves (height_of x - 2) 1 (walk_of x)

by_form : (x : Stmt) (form : StmtPart) → stmt_part x ≡ form → Moves (form.height - 2) 1 form.walk → Move x
by_form x form e t = subst (λ (q : StmtPart). Moves (q.height - 2) 1 q.walk) (sym e) t

-- an expression in parentheses, and more
moves_paren : (n k h : ℕ) (x : Expr) (w : Walk) → n ≤ (part_of x).height + h → k ≤ 3 → Moves h 0 w → Moves n k (mark m.LeftParen >> (part_of x).walk >> mark m.RightParen >> w)
moves_paren n k h x w le le' p =
    moves_then n k 1 1 ((part_of x).height - 1 + h) 2 (mark m.LeftParen) ((part_of x).walk >> mark m.RightParen >> w) (omega (arith, le)) (omega (arith, le')) (moves_mark m.LeftParen refl)
    (moves_then ((part_of x).height - 1 + h) 2 ((part_of x).height - 1) 1 h 1 (part_of x).walk (mark m.RightParen >> w) (omega arith) (omega arith) (moves_expr x)
    (moves_then h 1 0 1 h 0 (mark m.RightParen) w (omega arith) (omega arith) (moves_any_mark m.RightParen) p))

-- what may be missing up to a mark, and more
moves_upto : (n h : ℕ) (x : Option Expr) (end : Mark) (w : Walk) → n ≤ any_height x - 1 + h → Moves h 0 w → Moves n 0 (any_walk x >> mark end >> w)
moves_upto n h x end w le p =
    moves_then n 0 (any_height x - 1) 0 h 1 (any_walk x) (mark end >> w) (omega (arith, le)) (omega arith) (moves_any x)
    (moves_then h 1 0 1 h 0 (mark end) w (omega arith) (omega arith) (moves_any_mark end) p)

part_less : (x : Stmt) → Move x → Moves (height_of x - 2) 0 (walk_of x)
part_less x p = moves_less (height_of x - 2) 0 (height_of x - 2) 1 (walk_of x) (omega arith) (omega arith) p

moves_leaf : (l : Key) (line : ℕ) → Moves 0 1 (on line >> key l >> mark m.Semicolon)
moves_leaf l line = moves_on 0 1 line (key l >> mark m.Semicolon) (moves_then 0 1 0 1 0 1 (key l) (mark m.Semicolon) (omega arith) (omega arith) (moves_any_key l) (moves_any_mark m.Semicolon))

returned_less : (x : Option Expr) → returned_height x - 2 ≤ any_height x - 1
returned_less None = omega arith
returned_less (Some x) = omega arith

moves_stmts : (xs : List Stmt) → ((x : Stmt) → height_of x ≤ highest height_of xs → Move x)
    → Moves (highest (λ (x : StmtPart). x.height) (map stmt_part xs) - 2) (length xs) (each (λ (x : StmtPart). x.walk) (map stmt_part xs))
moves_stmts xs f =
    subst (λ (n : ℕ). Moves (n - 2) (length xs) (each (λ (x : StmtPart). x.walk) (map stmt_part xs))) (sym (stmts_high xs))
    (subst (λ (w : Walk). Moves (highest height_of xs - 2) (length xs) w) (sym (stmts_walk xs)) (moves_each walk_of height_of 2 xs f))

-- an arm takes a token for each label and each statement
pub moves_arm : (x : Arm) → ((y : Stmt) → height_of y ≤ (arm_part x).height → Move y) → Moves ((arm_part x).height - 2) (length x.labels + length x.list) (arm_part x).walk
moves_arm x f =
    let form = arm_step (record { labels = x.labels; list = map stmt_part x.list }) in
    let a = highest label_height x.labels in
    let b = highest (λ (z : StmtPart). z.height) (map stmt_part x.list) in
    let high : (arm_part x).height ≡ max a b = ap (λ (p : ArmPart). p.height) (part-Arm x) in
    let same : b ≡ highest height_of x.list = stmts_high x.list in
    subst (λ (p : ArmPart). Moves (p.height - 2) (length x.labels + length x.list) p.walk) (sym (part-Arm x))
    (moves_then (max a b - 2) (length x.labels + length x.list) (a - 2) (length x.labels) (b - 2) (length x.list) (each label_walk x.labels) (each (λ (z : StmtPart). z.walk) (map stmt_part x.list))
    (omega arith) (omega arith)
    (moves_each label_walk label_height 2 x.labels (λ l le. label_spare l)) (moves_stmts x.list (λ y le. f y (omega (arith, le, high, same)))))

moves_arms : (xs : List Arm) → ((x : Arm) → (arm_part x).height ≤ highest (λ z. (arm_part z).height) xs → Moves ((arm_part x).height - 2) 0 (arm_part x).walk)
    → Moves (highest (λ (x : ArmPart). x.height) (map arm_part xs) - 2) 0 (each (λ (x : ArmPart). x.walk) (map arm_part xs))
moves_arms [] f = moves_less (0 - 2) 0 0 0 stay (omega arith) (omega arith) moves_stay
moves_arms (x ∷ xs) f =
    let a = (arm_part x).height in
    let b = highest (λ (z : ArmPart). z.height) (map arm_part xs) in
    let same = arms_high xs in
    moves_then (max a b - 2) 0 (a - 2) 0 (b - 2) 0 (arm_part x).walk (each (λ (z : ArmPart). z.walk) (map arm_part xs)) (omega arith) (omega arith)
    (f x (omega arith)) (moves_arms xs (λ y le. f y (omega (arith, le))))

module _ (h : ℕ) (lower : (y : Stmt) → height_of y < h → Move y) where
  moves_else : (x : Option Stmt) → else_height (option_map stmt_part x) < h → Moves (else_height (option_map stmt_part x) - 2) 0 (else_walk (option_map stmt_part x))
  moves_else None lt = moves_less (0 - 2) 0 0 0 stay (omega arith) (omega arith) moves_stay
  moves_else (Some x) lt = moves_then (height_of x - 2) 0 0 1 (height_of x - 2) 1 (key k.Else) (walk_of x) (omega arith) (omega arith) (moves_any_key k.Else) (lower x lt)

  moves_view : (x : Stmt) → View x → height_of x < suc h → Move x
  moves_view x (Block locals list line) lt =
      let form = part-Block locals list line in
      let a = highest vars_height locals in
      let b = highest (λ (z : StmtPart). z.height) (map stmt_part list) in
      let l : height_of (s.Block locals list line) ≡ suc (max a b) = ap (λ q. q.height) form in
      let same = stmts_high list in
      let v = each vars_walk locals in let w = each (λ (z : StmtPart). z.walk) (map stmt_part list) in
      by_form (s.Block locals list line) _ form (moves_on (suc (max a b) - 2) 1 line (mark m.LeftBrace >> v >> w >> mark m.RightBrace)
      (moves_then (suc (max a b) - 2) 1 1 1 (max (a - 1) (b - 2)) 0 (mark m.LeftBrace) (v >> w >> mark m.RightBrace) (omega arith) (omega arith) (moves_mark m.LeftBrace refl)
      (moves_then (max (a - 1) (b - 2)) 0 (a - 1) (length locals) (b - 2) 0 v (w >> mark m.RightBrace) (omega arith) (omega arith) (moves_each vars_walk vars_height 1 locals (λ z le. moves_vars z))
      (moves_then (b - 2) 0 (b - 2) (length list) 0 1 w (mark m.RightBrace) (omega arith) (omega arith) (moves_stmts list (λ z le. lower z (omega (arith, le, l, lt, same))))
      (moves_any_mark m.RightBrace)))))
  moves_view x (Empty line) lt = by_form (s.Empty line) _ (part-Empty line) (moves_on 0 1 line (mark m.Semicolon) (moves_any_mark m.Semicolon))
  moves_view x (Run part line) lt =
      let a = (part_of part).height in
      by_form (s.Run part line) _ (part-Run part line) (moves_on (suc a - 2) 1 line ((part_of part).walk >> mark m.Semicolon)
      (moves_then (suc a - 2) 1 (a - 1) 1 0 1 (part_of part).walk (mark m.Semicolon) (omega arith) (omega arith) (moves_expr part) (moves_any_mark m.Semicolon)))
  moves_view x (If test first second line) lt =
      let form = part-If test first second line in
      let a = (part_of test).height in let b = height_of first in let c = else_height (option_map stmt_part second) in
      let l : height_of (s.If test first second line) ≡ suc (max a (max b c)) = ap (λ q. q.height) form in
      let w = walk_of first in let v = else_walk (option_map stmt_part second) in
      by_form (s.If test first second line) _ form (moves_on (suc (max a (max b c)) - 2) 1 line (key k.If >> mark m.LeftParen >> (part_of test).walk >> mark m.RightParen >> w >> v)
      (moves_then (suc (max a (max b c)) - 2) 1 1 1 (a + max (b - 2) (c - 2)) 0 (key k.If) (mark m.LeftParen >> (part_of test).walk >> mark m.RightParen >> w >> v) (omega arith) (omega arith)
      (moves_key k.If refl)
      (moves_paren (a + max (b - 2) (c - 2)) 0 (max (b - 2) (c - 2)) test (w >> v) (omega arith) (omega arith)
      (moves_then (max (b - 2) (c - 2)) 0 (b - 2) 1 (c - 2) 0 w v (omega arith) (omega arith) (lower first (omega (arith, l, lt))) (moves_else second (omega (arith, l, lt)))))))
  moves_view x (While test body line) lt =
      let form = part-While test body line in
      let a = (part_of test).height in let b = height_of body in
      let l : height_of (s.While test body line) ≡ suc (max a b) = ap (λ q. q.height) form in
      by_form (s.While test body line) _ form (moves_on (suc (max a b) - 2) 1 line (key k.While >> mark m.LeftParen >> (part_of test).walk >> mark m.RightParen >> walk_of body)
      (moves_then (suc (max a b) - 2) 1 1 1 (a + (b - 2)) 0 (key k.While) (mark m.LeftParen >> (part_of test).walk >> mark m.RightParen >> walk_of body) (omega arith) (omega arith)
      (moves_key k.While refl)
      (moves_paren (a + (b - 2)) 0 (b - 2) test (walk_of body) (omega arith) (omega arith) (part_less body (lower body (omega (arith, l, lt)))))))
  moves_view x (Do body test line) lt =
      let form = part-Do body test line in
      let a = (part_of test).height in let b = height_of body in
      let l : height_of (s.Do body test line) ≡ suc (max b a) = ap (λ q. q.height) form in
      let w = walk_of body in let q = (part_of test).walk in
      by_form (s.Do body test line) _ form (moves_on (suc (max b a) - 2) 1 line (key k.Do >> w >> key k.While >> mark m.LeftParen >> q >> mark m.RightParen >> mark m.Semicolon)
      (moves_then (suc (max b a) - 2) 1 1 1 ((b - 2) + a) 0 (key k.Do) (w >> key k.While >> mark m.LeftParen >> q >> mark m.RightParen >> mark m.Semicolon) (omega arith) (omega arith)
      (moves_key k.Do refl)
      (moves_then ((b - 2) + a) 0 (b - 2) 1 a 0 w (key k.While >> mark m.LeftParen >> q >> mark m.RightParen >> mark m.Semicolon) (omega arith) (omega arith) (lower body (omega (arith, l, lt)))
      (moves_then a 0 0 1 a 0 (key k.While) (mark m.LeftParen >> q >> mark m.RightParen >> mark m.Semicolon) (omega arith) (omega arith) (moves_any_key k.While)
      (moves_paren a 0 0 test (mark m.Semicolon) (omega arith) (omega arith) (moves_less 0 0 0 1 (mark m.Semicolon) (omega arith) (omega arith) (moves_any_mark m.Semicolon)))))))
  moves_view x (For start test third body line) lt =
      let form = part-For start test third body line in
      let a = any_height start in let b = any_height test in let c = any_height third in let d = height_of body in
      let l : height_of (s.For start test third body line) ≡ suc (max a (max b (max c d))) = ap (λ q. q.height) form in
      let w = walk_of body in
      let z : Moves (c - 1 + (d - 2)) 0 (any_walk third >> mark m.RightParen >> w) = moves_upto (c - 1 + (d - 2)) (d - 2) third m.RightParen w (omega arith)
      (part_less body (lower body (omega (arith, l, lt)))) in
      let y : Moves (b - 1 + (c - 1 + (d - 2))) 0 (any_walk test >> mark m.Semicolon >> any_walk third >> mark m.RightParen >> w) =
      moves_upto (b - 1 + (c - 1 + (d - 2))) (c - 1 + (d - 2)) test m.Semicolon (any_walk third >> mark m.RightParen >> w) (omega arith) z in
      let u : Moves (a - 1 + (b - 1 + (c - 1 + (d - 2)))) 0 (any_walk start >> mark m.Semicolon >> any_walk test >> mark m.Semicolon >> any_walk third >> mark m.RightParen >> w) =
      moves_upto (a - 1 + (b - 1 + (c - 1 + (d - 2)))) (b - 1 + (c - 1 + (d - 2))) start m.Semicolon (any_walk test >> mark m.Semicolon >> any_walk third >> mark m.RightParen >> w) (omega arith) y in
      by_form (s.For start test third body line) _ form
      (moves_on (suc (max a (max b (max c d))) - 2) 1 line
      (key k.For >> mark m.LeftParen >> any_walk start >> mark m.Semicolon >> any_walk test >> mark m.Semicolon >> any_walk third >> mark m.RightParen >> w)
      (moves_then (suc (max a (max b (max c d))) - 2) 1 1 1 (1 + (a - 1 + (b - 1 + (c - 1 + (d - 2))))) 0 (key k.For)
      (mark m.LeftParen >> any_walk start >> mark m.Semicolon >> any_walk test >> mark m.Semicolon >> any_walk third >> mark m.RightParen >> w) (omega arith) (omega arith) (moves_key k.For refl)
      (moves_then (1 + (a - 1 + (b - 1 + (c - 1 + (d - 2))))) 0 1 1 (a - 1 + (b - 1 + (c - 1 + (d - 2)))) 0 (mark m.LeftParen)
      (any_walk start >> mark m.Semicolon >> any_walk test >> mark m.Semicolon >> any_walk third >> mark m.RightParen >> w) (omega arith) (omega arith) (moves_mark m.LeftParen refl) u)))
  moves_view x (Break line) lt = by_form (s.Break line) _ (part-Break line) (moves_leaf k.Break line)
  moves_view x (Continue line) lt = by_form (s.Continue line) _ (part-Continue line) (moves_leaf k.Continue line)
  moves_view x (Return value line) lt =
      let a = any_height value in
      by_form (s.Return value line) _ (part-Return value line) (moves_on (returned_height value - 2) 1 line (key k.Return >> any_walk value >> mark m.Semicolon)
      (moves_then (returned_height value - 2) 1 0 1 (a - 1) 0 (key k.Return) (any_walk value >> mark m.Semicolon) (omega (arith, returned_less value)) (omega arith) (moves_any_key k.Return)
      (moves_then (a - 1) 0 (a - 1) 0 0 1 (any_walk value) (mark m.Semicolon) (omega arith) (omega arith) (moves_any value) (moves_any_mark m.Semicolon))))
  moves_view x (Switch test arms line) lt =
      let form = part-Switch test arms line in
      let a = (part_of test).height in let b = highest (λ (z : ArmPart). z.height) (map arm_part arms) in
      let l : height_of (s.Switch test arms line) ≡ suc (max a b) = ap (λ q. q.height) form in
      let same = arms_high arms in
      let w = each (λ (z : ArmPart). z.walk) (map arm_part arms) in
      let arm : (z : Arm) → (arm_part z).height ≤ highest (λ y. (arm_part y).height) arms → Moves ((arm_part z).height - 2) 0 (arm_part z).walk = λ z le.
      moves_less ((arm_part z).height - 2) 0 ((arm_part z).height - 2) (length z.labels + length z.list) (arm_part z).walk (omega arith) (omega arith)
      (moves_arm z (λ y le'. lower y (omega (arith, le, le', l, lt, same)))) in
      by_form (s.Switch test arms line) _ form
      (moves_on (suc (max a b) - 2) 1 line (key k.Switch >> mark m.LeftParen >> (part_of test).walk >> mark m.RightParen >> mark m.LeftBrace >> w >> mark m.RightBrace)
      (moves_then (suc (max a b) - 2) 1 1 1 (a + (b - 2)) 0 (key k.Switch) (mark m.LeftParen >> (part_of test).walk >> mark m.RightParen >> mark m.LeftBrace >> w >> mark m.RightBrace) (omega arith)
      (omega arith) (moves_key k.Switch refl)
      (moves_paren (a + (b - 2)) 0 (b - 2) test (mark m.LeftBrace >> w >> mark m.RightBrace) (omega arith) (omega arith)
      (moves_then (b - 2) 0 0 1 (b - 2) 0 (mark m.LeftBrace) (w >> mark m.RightBrace) (omega arith) (omega arith) (moves_any_mark m.LeftBrace)
      (moves_then (b - 2) 0 (b - 2) 0 0 1 w (mark m.RightBrace) (omega arith) (omega arith) (moves_arms arms arm) (moves_any_mark m.RightBrace))))))

moves_by : (h : ℕ) (x : Stmt) → height_of x < h → Move x
moves_by zero x lt = absurd (omega (arith, lt))
moves_by (suc h) x lt = moves_view h (moves_by h) x (view x) lt

-- a statement takes a token, and as many nesting tokens as it is high, but for two
pub moves_stmt : (x : Stmt) → Moves ((stmt_part x).height - 2) 1 (stmt_part x).walk
moves_stmt x = moves_by (suc (height_of x)) x (omega arith)
