-- Each form of statement is read from its tokens.
use Rattle.std.proofs.Common.{◌≡◌, ℕ, zero, suc, ◌+◌, ◌<◌, ◌≤◌, max, Bool, true, false, not, ◌&&◌, List, [], ◌∷◌, map, length, Option, Some, None, Result, Ok, refl, sym, ap, ◌∙◌, subst, arith}
use Rattle.std.proofs.Common.{lit≤}
use Rattle.std.specs.Prelude.{if◌then◌else◌, option_map, is_some, ◌||◌}
use Rattle.std.specs.List.{list_all}
use Rattle.c_lexer.specs.declared.token.Token.{Token}
use Rattle.c_lexer.specs.declared.token.Tok.{Tok}
use Rattle.c_lexer.specs.declared.token.Tok.TheVariants as tok
use Rattle.c_lexer.specs.declared.token.Key.{Key}
use Rattle.c_lexer.specs.declared.token.Key.TheVariants as k
use Rattle.c_lexer.specs.declared.token.Mark.{Mark}
use Rattle.c_lexer.specs.declared.token.Mark.TheVariants as m
use Rattle.c_tree.specs.declared.tree.Expr.{Expr}
use Rattle.c_tree.specs.declared.tree.Vars.{Vars}
use Rattle.c_tree.specs.declared.tree.Label.{Label}
use Rattle.c_tree.specs.declared.tree.Arm.{Arm}
use Rattle.c_tree.specs.declared.tree.Stmt.{Stmt}
use Rattle.c_tree.specs.declared.tree.Stmt.TheVariants as s
use Rattle.c_tree.specs.declared.tree.Stmt.TheOpen.{Stmt-F}
use Rattle.c_parser.specs.Tokens.{follow}
use Rattle.c_parser.specs.Walk.{Walk, ◌>>◌, stay, mark, key, each, on}
use Rattle.c_parser.specs.Expr.{fits_at, part_of}
use Rattle.c_parser.specs.Stmt as tree
use Rattle.c_parser.specs.Stmt.{StmtPart, ArmPart, highest, is_empty, any_walk, any_height, any_fits, vars_walk, vars_fit, vars_height}
use Rattle.c_parser.specs.Stmt.{label_walk, label_fits, label_height, returned_height, stmt_step, arm_step, stmt_part, arm_part}
use Rattle.c_parser.specs.private.Reader.{Failure, Reader, after, expected}
use Rattle.c_parser.specs.private.ReadExpr.{read_expr}
use Rattle.c_parser.specs.private.ReadStmt as read
use Rattle.c_parser.specs.private.ReadStmt.{some_of, expect_key, found, type_by, type_at}
use Rattle.c_parser.specs.private.ReadStmt.{locals, condition, optional, begins_label, labels, list_end, leaf, returned, run}
use Rattle.c_parser.specs.private.ReadStmt.{statements, otherwise, block, branch, whiled, done, counted, arm, arms, switched, stmt_by, stmt, read_stmt}
use Rattle.c_parser.proofs.Steps.{marked, and_true, then_some, on_then}
use Rattle.c_parser.proofs.Spells.{then_walk}
use Rattle.c_parser.proofs.Follow.{begins, begins_mark, none_of, follow_mark}
use Rattle.c_parser.proofs.StmtLaws.{part-Block, part-Empty, part-Run, part-If, part-While, part-Do, part-For, part-Break, part-Continue, part-Return, part-Switch, part-Arm}
use Rattle.c_parser.proofs.StmtMoves.{View, Block, Empty, Run, If, While, Do, For, Break, Continue, Return, Switch, view, moves_stmt, moves_arm}
use Rattle.c_parser.proofs.StmtSound.{stmt_shape, arm_shape, keyed, stmts_walk, stmts_fit, stmts_high, arms_walk, arms_fit, arms_high, stmts_empty}
use Rattle.c_parser.proofs.StmtFull.{bind_to, expect_to, found_to, none_to, reads, expr_begins, Full, Listing, repeated_full, condition_full, optional_full, first_of}
use Rattle.c_parser.proofs.StmtFull.{key_first, label_begins, not_nothing, some_to, locals_full, labels_full}

-- ---- tokens that begin a statement

starts_key : Key → Bool
starts_key k.If = true
starts_key k.While = true
starts_key k.Do = true
starts_key k.For = true
starts_key k.Switch = true
starts_key k.Break = true
starts_key k.Continue = true
starts_key k.Return = true
starts_key _ = false

starts_mark : Mark → Bool
starts_mark m.LeftBrace = true
starts_mark m.Semicolon = true
starts_mark n = begins_mark n

starts : Tok → Bool
starts (tok.Mark n) = starts_mark n
starts (tok.Keyword l) = starts_key l
starts (tok.Const bits of) = true
starts tok.Name = true
starts tok.Text = false

mark_starts : (n : Mark) → begins_mark n ≡ true → starts_mark n ≡ true
unfolding starts_mark
mark_starts m.LeftBrace e = refl
mark_starts m.Semicolon e = refl
mark_starts _ e = e

begins_starts : (o : Tok) → begins o ≡ true → starts o ≡ true
unfolding starts
begins_starts (tok.Mark n) e = mark_starts n e
begins_starts (tok.Keyword l) e = absurd cc
begins_starts (tok.Const bits of) e = refl
begins_starts tok.Name e = refl
begins_starts tok.Text e = absurd cc

key_starts : (l : Key) (line : ℕ) (w : Walk) (t : Token) (ts rest : List Token) → starts_key l ≡ true → (on line >> key l >> w) (t ∷ ts) ≡ Some rest → starts t.kind ≡ true
unfolding starts
key_starts l line w t ts rest e walks =
    let a = on_then line (key l >> w) (t ∷ ts) rest walks in
    let b = then_some (key l) w (t ∷ ts) rest a.1 in
    ap starts (key_first l t ts b.0 b.1).0 ∙ e

start_mark : (n : Mark) (line : ℕ) (w : Walk) (t : Token) (ts rest : List Token) → starts_mark n ≡ true → (on line >> mark n >> w) (t ∷ ts) ≡ Some rest → starts t.kind ≡ true
unfolding starts
start_mark n line w t ts rest e walks =
    let a = on_then line (mark n >> w) (t ∷ ts) rest walks in
    let b = then_some (mark n) w (t ∷ ts) rest a.1 in
    ap starts (first_of n t ts b.0 b.1) ∙ e

walk_of : (x : Stmt) (form : StmtPart) (ts rest : List Token) → stmt_part x ≡ form → (stmt_part x).walk ts ≡ Some rest → form.walk ts ≡ Some rest
walk_of x form ts rest e walks = subst (λ (p : StmtPart). p.walk ts ≡ Some rest) e walks

empty_starts : (line : ℕ) (t : Token) (ts rest : List Token) → (on line >> mark m.Semicolon) (t ∷ ts) ≡ Some rest → starts t.kind ≡ true
unfolding starts starts_mark
empty_starts line t ts rest walks =
    let a = on_then line (mark m.Semicolon) (t ∷ ts) rest walks in
    ap starts (first_of m.Semicolon t ts rest a.1)

run_starts : (part : Expr) (line : ℕ) (t : Token) (ts rest : List Token) → (on line >> (part_of part).walk >> mark m.Semicolon) (t ∷ ts) ≡ Some rest → fits_at 14 (part_of part) ≡ true
    → starts t.kind ≡ true
run_starts part line t ts rest walks fits =
    let a = on_then line ((part_of part).walk >> mark m.Semicolon) (t ∷ ts) rest walks in
    let b = then_some (part_of part).walk (mark m.Semicolon) (t ∷ ts) rest a.1 in
    let f : follow b.0 ≡ 15 = follow_mark m.Semicolon b.0 rest b.2 in
    begins_starts t.kind (expr_begins 14 part t ts b.0 (lit≤ tt) b.1 fits (omega (arith, f)))

stmt_starts : (x : Stmt) → View x → (t : Token) (ts rest : List Token) → (stmt_part x).walk (t ∷ ts) ≡ Some rest → (stmt_part x).fits ≡ true → starts t.kind ≡ true
unfolding starts_key starts_mark
stmt_starts x (Block locals list line) t ts rest walks fits = start_mark m.LeftBrace line _ t ts rest refl (walk_of (s.Block locals list line) _ (t ∷ ts) rest (part-Block locals list line) walks)
stmt_starts x (Empty line) t ts rest walks fits = empty_starts line t ts rest (walk_of (s.Empty line) _ (t ∷ ts) rest (part-Empty line) walks)
stmt_starts x (Run part line) t ts rest walks fits = run_starts part line t ts rest (walk_of (s.Run part line) _ (t ∷ ts) rest (part-Run part line) walks)
    (ap (λ (p : StmtPart). p.fits) (sym (part-Run part line)) ∙ fits)
stmt_starts x (If test first second line) t ts rest walks fits = key_starts k.If line _ t ts rest refl (walk_of (s.If test first second line) _ (t ∷ ts) rest (part-If test first second line) walks)
stmt_starts x (While test body line) t ts rest walks fits = key_starts k.While line _ t ts rest refl (walk_of (s.While test body line) _ (t ∷ ts) rest (part-While test body line) walks)
stmt_starts x (Do body test line) t ts rest walks fits = key_starts k.Do line _ t ts rest refl (walk_of (s.Do body test line) _ (t ∷ ts) rest (part-Do body test line) walks)
stmt_starts x (For start test third body line) t ts rest walks fits = key_starts k.For line _ t ts rest refl
    (walk_of (s.For start test third body line) _ (t ∷ ts) rest (part-For start test third body line) walks)
stmt_starts x (Break line) t ts rest walks fits = key_starts k.Break line _ t ts rest refl (walk_of (s.Break line) _ (t ∷ ts) rest (part-Break line) walks)
stmt_starts x (Continue line) t ts rest walks fits = key_starts k.Continue line _ t ts rest refl (walk_of (s.Continue line) _ (t ∷ ts) rest (part-Continue line) walks)
stmt_starts x (Return value line) t ts rest walks fits = key_starts k.Return line _ t ts rest refl (walk_of (s.Return value line) _ (t ∷ ts) rest (part-Return value line) walks)
stmt_starts x (Switch test arms line) t ts rest walks fits = key_starts k.Switch line _ t ts rest refl (walk_of (s.Switch test arms line) _ (t ∷ ts) rest (part-Switch test arms line) walks)

-- the tokens begin a statement
Started : List Token → Type 0
Started ts = (t : Token) × (us : List Token) × (ts ≡ t ∷ us) × (starts t.kind ≡ true)

stmt_begins : (x : Stmt) (ts rest : List Token) → (stmt_part x).walk ts ≡ Some rest → (stmt_part x).fits ≡ true → Started ts
unfolding Started
stmt_begins x [] rest walks fits = absurd (let f = (moves_stmt x).takes [] rest walks in omega (arith, f))
stmt_begins x (t ∷ ts) rest walks fits = (t, ts, refl, stmt_starts x (view x) t ts rest walks fits)

no_mark : (n : Mark) (ts : List Token) → starts_mark n ≡ false → Started ts → mark n ts ≡ None
unfolding Started starts
no_mark n ts not b = none_of (mark n ts) (λ us e.
    let kind = first_of n b.0 b.1 us (ap (mark n) (sym b.2) ∙ e) in
    let bad : true ≡ false = sym b.3 ∙ ap starts kind ∙ not in cc)

no_key : (l : Key) (ts : List Token) → starts_key l ≡ false → Started ts → key l ts ≡ None
unfolding Started starts
no_key l ts not b = none_of (key l ts) (λ us e.
    let kind = (key_first l b.0 b.1 us (ap (key l) (sym b.2) ∙ e)).0 in
    let bad : true ≡ false = sym b.3 ∙ ap starts kind ∙ not in cc)

no_type_key : (l : Key) (ts : List Token) → starts_key l ≡ true → type_by (tok.Keyword l) ts ≡ None
unfolding starts_key
no_type_key k.Int ts e = absurd cc
no_type_key k.Signed ts e = absurd cc
no_type_key k.Unsigned ts e = absurd cc
no_type_key _ ts e = refl

no_type_by : (o : Tok) (ts : List Token) → starts o ≡ true → type_by o ts ≡ None
unfolding starts
no_type_by (tok.Keyword l) ts e = no_type_key l ts e
no_type_by _ ts e = refl

no_type_at : (ts : List Token) → Started ts → type_at ts ≡ None
unfolding Started
no_type_at ts b = ap type_at b.2 ∙ no_type_by b.0.kind b.1 b.3

-- a mark and a keyword can't both come next
not_both : (n : Mark) (l : Key) (ts us : List Token) → mark n ts ≡ Some us → key l ts ≡ None
not_both n l ts us e = none_of (key l ts) (λ vs h.
    let a = marked n ts us e in
    let kind = (key_first l a.token us vs (ap (key l) (sym a.tokens) ∙ h)).0 in
    let bad : tok.Mark n ≡ tok.Keyword l = sym a.kind ∙ kind in cc)

not_two : (j l : Key) (ts us : List Token) → (tok.Keyword j ≡ tok.Keyword l → ⊥) → key j ts ≡ Some us → key l ts ≡ None
not_two j l ts us apart e = none_of (key l ts) (λ vs h.
    let a = keyed j ts us e in
    let kind = (key_first l a.token us vs (ap (key l) (sym a.tokens) ∙ h)).0 in
    apart (sym a.kind ∙ kind))

-- ---- lists of statements

abbrev pub ElseStop : Stmt → List Token → Type 0
ElseStop x ts = (stmt_part x).takes_else ≡ true → key k.Else ts ≡ None

either_ends : (a b c : Option (List Token)) (ts rest : List Token) (Q : Type 0) → ((us : List Token) → a ≡ Some us → Q) → ((us : List Token) → b ≡ Some us → Q) → ((us : List Token) → c ≡ Some us → Q)
    → (if is_some a || (is_some b || is_some c) then Some ts else None) ≡ Some rest → Q
either_ends (Some us) b c ts rest Q f g h e = f us refl
either_ends None (Some us) c ts rest Q f g h e = g us refl
either_ends None None (Some us) ts rest Q f g h e = h us refl
either_ends None None None ts rest Q f g h e = absurd cc

pub stmt_listing : Listing stmt_shape ElseStop list_end
unfolding stmt_shape starts_mark starts_key
stmt_listing = record {
  begins = λ x ts rest walks fits. let b = stmt_begins x ts rest walks fits in
      let a = no_mark m.RightBrace ts refl b in let c = no_key k.Case ts refl b in let d = no_key k.Default ts refl b in
      ap (λ (o : Option (List Token)). if is_some o || begins_label ts then Some ts else None) a
      ∙ ap (λ (o : Option (List Token)). if is_some o || is_some (key k.Default ts) then Some ts else None) c
      ∙ ap (λ (o : Option (List Token)). if is_some o then Some ts else None) d;
  takes = λ x ts rest walks fits. let f = (moves_stmt x).takes ts rest walks in omega (arith, f);
  at_stop = λ x ts rest e. λ taken. either_ends (mark m.RightBrace ts) (key k.Case ts) (key k.Default ts) ts rest (key k.Else ts ≡ None)
      (λ us h. not_both m.RightBrace k.Else ts us h) (λ us h. not_two k.Case k.Else ts us (λ bad. cc) h) (λ us h. not_two k.Default k.Else ts us (λ bad. cc) h) e;
  at_next = λ x y ts rest walks fits. λ taken. no_key k.Else ts refl (stmt_begins y ts rest walks fits);
}

-- ---- forms

module _ (below : ℕ) (lower : Reader (Stmt × ℕ)) (full : Full stmt_shape below ElseStop lower) where
  lower_is : (x : Stmt) (ts rest : List Token) → (stmt_part x).walk ts ≡ Some rest → (stmt_part x).fits ≡ true → (stmt_part x).height ≤ below → ElseStop x rest
      → lower ts ≡ Ok ((x, (stmt_part x).height), rest)
  unfolding stmt_shape
  lower_is x ts rest walks fits low stop = full.of x ts rest walks fits low stop

  -- what is to be shown of a form
  abbrev pub Form : StmtPart → Stmt → Type 0
  Form p x = (ts rest : List Token) → p.walk ts ≡ Some rest → p.fits ≡ true → p.height ≤ suc below → (p.takes_else ≡ true → key k.Else rest ≡ None) → stmt below lower ts ≡ Ok ((x, p.height), rest)

  key_start : (l : Key) (line : ℕ) (w : Walk) (ts rest : List Token) → (on line >> key l >> w) ts ≡ Some rest → (us : List Token)
      × (stmt below lower ts ≡ stmt_by below lower (tok.Keyword l) line us ts) × (w us ≡ Some rest)
  unfolding stmt
  key_start l line w [] rest e = absurd (not_nothing line (key l >> w) rest e)
  key_start l line w (t ∷ ts) rest e =
      let a = on_then line (key l >> w) (t ∷ ts) rest e in
      let b = then_some (key l) w (t ∷ ts) rest a.1 in
      let h = key_first l t ts b.0 b.1 in (
        b.0,
        ap (λ o. stmt_by below lower o t.line ts (t ∷ ts)) h.0 ∙ ap (λ (n : ℕ). stmt_by below lower (tok.Keyword l) n ts (t ∷ ts)) a.0
            ∙ ap (λ (us : List Token). stmt_by below lower (tok.Keyword l) line us (t ∷ ts)) h.1,
        b.2,
      )

  mark_start : (n : Mark) (line : ℕ) (w : Walk) (ts rest : List Token) → (on line >> mark n >> w) ts ≡ Some rest → (us : List Token)
      × (stmt below lower ts ≡ stmt_by below lower (tok.Mark n) line us ts) × (w us ≡ Some rest)
  unfolding stmt
  mark_start n line w [] rest e = absurd (not_nothing line (mark n >> w) rest e)
  mark_start n line w (t ∷ ts) rest e =
      let a = on_then line (mark n >> w) (t ∷ ts) rest e in
      let b = then_some (mark n) w (t ∷ ts) rest a.1 in
      let k' = marked n (t ∷ ts) b.0 b.1 in
      let more : ts ≡ b.0 = let h : t ∷ ts ≡ k'.token ∷ b.0 = k'.tokens in cc in (
        b.0,
        ap (λ o. stmt_by below lower o t.line ts (t ∷ ts)) (first_of n t ts b.0 b.1) ∙ ap (λ (l : ℕ). stmt_by below lower (tok.Mark n) l ts (t ∷ ts)) a.0
            ∙ ap (λ (us : List Token). stmt_by below lower (tok.Mark n) line us (t ∷ ts)) more,
        b.2,
      )

  -- no type comes next where statements end
  type_after : (list : List Stmt) (ts last rest : List Token) → each (λ x. (stmt_part x).walk) list ts ≡ Some last → mark m.RightBrace last ≡ Some rest → list_all (λ x. (stmt_part x).fits) list ≡ true
      → type_at ts ≡ None
  type_after [] ts last rest walks close fits =
      let same : ts ≡ last = let h : Some ts ≡ Some last = walks in cc in
      let a = marked m.RightBrace ts rest (ap (mark m.RightBrace) same ∙ close) in
      ap type_at a.tokens ∙ ap (λ o. type_by o rest) a.kind
  type_after (x ∷ xs) ts last rest walks close fits =
      let w = then_some (stmt_part x).walk (each (λ x. (stmt_part x).walk) xs) ts last walks in
      no_type_at ts (stmt_begins x ts w.0 w.1 (and_true (stmt_part x).fits _ fits).0)

  pub block_full : (locals : List Vars) (list : List Stmt) (line : ℕ) (us rest : List Token)
      → (each vars_walk locals >> each (λ (z : StmtPart). z.walk) (map stmt_part list) >> mark m.RightBrace) us ≡ Some rest
      → (list_all vars_fit locals && list_all (λ (z : StmtPart). z.fits) (map stmt_part list)) ≡ true
      → max (highest vars_height locals) (highest (λ (z : StmtPart). z.height) (map stmt_part list)) ≤ below
      → block below lower line us ≡ Ok ((s.Block locals list line, suc (max (highest vars_height locals) (highest (λ (z : StmtPart). z.height) (map stmt_part list)))), rest)
  unfolding block statements stmt_shape
  block_full locals list line us rest walks fits low =
      let v = each vars_walk locals in let w = each (λ (z : StmtPart). z.walk) (map stmt_part list) in
      let a = highest vars_height locals in
      let high = stmts_high list in
      let p = then_some v (w >> mark m.RightBrace) us rest walks in
      let q = then_some w (mark m.RightBrace) p.0 rest p.2 in
      let f = and_true (list_all vars_fit locals) (list_all (λ (z : StmtPart). z.fits) (map stmt_part list)) fits in
      let listed = ap (λ (o : Walk). o p.0) (sym (stmts_walk list)) ∙ q.1 in
      let fit = sym (stmts_fit list) ∙ f.1 in
      let first = locals_full below locals us p.0 p.1 f.0 (omega (arith, low)) (type_after list p.0 q.0 rest listed q.2 fit) in
      let ends = ap (λ (o : Option (List Token)). if is_some o || begins_label q.0 then Some q.0 else None) q.2 in
      let second = repeated_full stmt_shape below ElseStop lower full list_end stmt_listing list (length p.0 + 1) p.0 q.0 q.0 listed ends fit (omega (arith, low, high)) (omega arith) in
      bind_to (read.locals below us) _ ((locals, a), p.0) _ first
      (bind_to (statements lower p.0) _ ((list, highest (λ x. (stmt_part x).height) list), q.0) _ second
      (expect_to m.RightBrace q.0 rest _ _ q.2 (ap (λ (n : ℕ). Ok ((s.Block locals list line, suc (max a n)), rest)) (sym high))))

  block_form : (locals : List Vars) (list : List Stmt) (line : ℕ) → Form (stmt_step (Stmt-F.Block locals (map stmt_part list) line)) (s.Block locals list line)
  block_form locals list line ts rest walks fits low stop =
      let h = mark_start m.LeftBrace line (each vars_walk locals >> each (λ (z : StmtPart). z.walk) (map stmt_part list) >> mark m.RightBrace) ts rest walks in
      h.1 ∙ block_full locals list line h.0 rest h.2 fits (omega (arith, low))

  empty_form : (line : ℕ) → Form (stmt_step (Stmt-F.Empty line)) (s.Empty line)
  empty_form line ts rest walks fits low stop =
      let h = mark_start m.Semicolon line stay ts rest (stays_on ts walks) in
      let same : h.0 ≡ rest = let e : Some h.0 ≡ Some rest = h.2 in cc in
      h.1 ∙ ap (λ (us : List Token). Ok ((s.Empty line, 1), us)) same
    where
      stays_on : (ts : List Token) → (on line >> mark m.Semicolon) ts ≡ Some rest → (on line >> mark m.Semicolon >> stay) ts ≡ Some rest
      stays_on ts e =
          let a = then_some (on line) (mark m.Semicolon) ts rest e in
          then_walk (on line) (mark m.Semicolon >> stay) ts a.0 a.1 ∙ then_walk (mark m.Semicolon) stay a.0 rest a.2

  leaf_form : (l : Key) (x : Stmt) (line : ℕ) → ((us ts : List Token) → stmt_by below lower (tok.Keyword l) line us ts ≡ leaf x us) → Form (tree.leaf_stmt (on line >> key l >> mark m.Semicolon)) x
  unfolding leaf
  leaf_form l x line is ts rest walks fits low stop =
      let h = key_start l line (mark m.Semicolon) ts rest walks in
      h.1 ∙ is h.0 ts ∙ expect_to m.Semicolon h.0 rest _ _ h.2 refl

  returned_is : (value : Option Expr) → suc (any_height value) ≡ returned_height value
  returned_is None = refl
  returned_is (Some x) = refl

  returned_low : (value : Option Expr) (n : ℕ) → returned_height value ≤ suc n → any_height value ≤ n
  returned_low None n le = omega arith
  returned_low (Some x) n le = omega (arith, le)

  upto : (x : Option Expr) (n : Mark) (ts rest : List Token) → (any_walk x >> mark n) ts ≡ Some rest → (any_walk x >> mark n >> stay) ts ≡ Some rest
  upto x n ts rest e =
      let a = then_some (any_walk x) (mark n) ts rest e in
      then_walk (any_walk x) (mark n >> stay) ts a.0 a.1 ∙ then_walk (mark n) stay a.0 rest a.2

  return_form : (value : Option Expr) (line : ℕ) → Form (stmt_step (Stmt-F.Return value line)) (s.Return value line)
  unfolding returned
  return_form value line ts rest walks fits low stop =
      let h = key_start k.Return line (any_walk value >> mark m.Semicolon) ts rest walks in
      let o = optional_full below 14 m.Semicolon value stay h.0 rest (lit≤ tt) refl refl (upto value m.Semicolon h.0 rest h.2) fits (returned_low value below low) in
      let same : o.0 ≡ rest = let e : Some o.0 ≡ Some rest = o.2 in cc in
      h.1 ∙ bind_to (optional 14 m.Semicolon below h.0) _ ((value, any_height value), o.0) _ o.1
      (ap (λ (us : List Token). Ok ((s.Return value line, suc (any_height value)), us)) same ∙ ap (λ (n : ℕ). Ok ((s.Return value line, n), rest)) (returned_is value))

  run_by : (o : Tok) (line : ℕ) (us ts : List Token) → begins o ≡ true → stmt_by below lower o line us ts ≡ run below line ts
  run_by (tok.Const bits of) line us ts e = refl
  run_by tok.Name line us ts e = refl
  run_by tok.Text line us ts e = absurd cc
  run_by (tok.Keyword l) line us ts e = absurd cc
  run_by (tok.Mark n) line us ts e = run_mark n e
    where
      run_mark : (n : Mark) → begins_mark n ≡ true → stmt_by below lower (tok.Mark n) line us ts ≡ run below line ts
      run_mark m.LeftBrace e = absurd cc
      run_mark m.Semicolon e = absurd cc
      run_mark _ e = refl

  run_form : (part : Expr) (line : ℕ) → Form (stmt_step (Stmt-F.Run part line)) (s.Run part line)
  unfolding stmt run
  run_form part line [] rest walks fits low stop = absurd (not_nothing line ((part_of part).walk >> mark m.Semicolon) rest walks)
  run_form part line (t ∷ ts) rest walks fits low stop =
      let q = part_of part in
      let a = on_then line (q.walk >> mark m.Semicolon) (t ∷ ts) rest walks in
      let b = then_some q.walk (mark m.Semicolon) (t ∷ ts) rest a.1 in
      let f : follow b.0 ≡ 15 = follow_mark m.Semicolon b.0 rest b.2 in
      let r = reads below 14 part (t ∷ ts) b.0 (lit≤ tt) b.1 fits (omega (arith, low)) (omega (arith, f)) in
      let S : Expr → ℕ → ℕ → Result ((Stmt × ℕ) × List Token) Failure = λ y n l. Ok ((s.Run y l, suc n), rest) in
      run_by t.kind t.line ts (t ∷ ts) (expr_begins 14 part t ts b.0 (lit≤ tt) b.1 fits (omega (arith, f)))
      ∙ bind_to (read_expr below 14 (t ∷ ts)) _ (r.operand, b.0) _ r.found (expect_to m.Semicolon b.0 rest _ _ b.2
      (ap (λ (y : Expr). S y r.operand.height t.line) r.is ∙ ap (λ (n : ℕ). S part n t.line) r.high ∙ ap (λ (l : ℕ). S part q.height l) a.0))

  -- ---- if

  not_true : (b : Bool) → not b ≡ true → b ≡ false
  not_true true e = absurd cc
  not_true false e = refl

  branch_none : (test : Expr) (first : Stmt) (line : ℕ) → Form (stmt_step (Stmt-F.If test (stmt_part first) None line)) (s.If test first None line)
  unfolding branch otherwise
  branch_none test first line ts rest walks fits low stop =
      let q = part_of test in let w = (stmt_part first).walk in
      let f = and_true (fits_at 14 q && (stmt_part first).fits) true fits in
      let g = and_true (fits_at 14 q) (stmt_part first).fits f.0 in
      let h = key_start k.If line (mark m.LeftParen >> q.walk >> mark m.RightParen >> w >> stay) ts rest walks in
      let c = condition_full below test (w >> stay) h.0 rest h.2 g.0 (omega (arith, low)) in
      let v = then_some w stay c.0 rest c.2 in
      let same : v.0 ≡ rest = let e : Some v.0 ≡ Some rest = v.2 in cc in
      let walk : w c.0 ≡ Some rest = v.1 ∙ ap Some same in
      let S : Expr → ℕ → Result ((Stmt × ℕ) × List Token) Failure = λ y n. Ok ((s.If y first None line, suc (max n (max (stmt_part first).height 0))), rest) in
      h.1 ∙ bind_to (condition below h.0) _ (c.1.operand, c.0) _ c.1.found
      (bind_to (lower c.0) _ ((first, (stmt_part first).height), rest) _ (lower_is first c.0 rest walk g.1 (omega (arith, low)) (λ taken. stop refl))
      (bind_to (otherwise lower rest) _ ((None, 0), rest) _ (none_to (key k.Else rest) _ _ _ (stop refl) refl)
      (ap (λ (y : Expr). S y c.1.operand.height) c.1.is ∙ ap (λ (n : ℕ). S test n) c.1.high)))

  branch_some : (test : Expr) (first second : Stmt) (line : ℕ) → Form (stmt_step (Stmt-F.If test (stmt_part first) (Some (stmt_part second)) line)) (s.If test first (Some second) line)
  unfolding branch otherwise
  branch_some test first second line ts rest walks fits low stop =
      let q = part_of test in let w = (stmt_part first).walk in let u = (stmt_part second).walk in
      let f = and_true (fits_at 14 q && (stmt_part first).fits) (not (stmt_part first).takes_else && (stmt_part second).fits) fits in
      let g = and_true (fits_at 14 q) (stmt_part first).fits f.0 in
      let e = and_true (not (stmt_part first).takes_else) (stmt_part second).fits f.1 in
      let h = key_start k.If line (mark m.LeftParen >> q.walk >> mark m.RightParen >> w >> key k.Else >> u) ts rest walks in
      let c = condition_full below test (w >> key k.Else >> u) h.0 rest h.2 g.0 (omega (arith, low)) in
      let v = then_some w (key k.Else >> u) c.0 rest c.2 in
      let z = then_some (key k.Else) u v.0 rest v.2 in
      let no = not_true (stmt_part first).takes_else e.0 in
      let S : Expr → ℕ → Result ((Stmt × ℕ) × List Token) Failure = λ y n. Ok ((s.If y first (Some second) line, suc (max n (max (stmt_part first).height (stmt_part second).height))), rest) in
      h.1 ∙ bind_to (condition below h.0) _ (c.1.operand, c.0) _ c.1.found
      (bind_to (lower c.0) _ ((first, (stmt_part first).height), v.0) _ (lower_is first c.0 v.0 v.1 g.1 (omega (arith, low)) (λ taken. let bad : true ≡ false = sym taken ∙ no in absurd cc))
      (bind_to (otherwise lower v.0) _ ((Some second, (stmt_part second).height), rest) _
      (found_to (key k.Else v.0) _ _ z.0 _ z.1 (bind_to (lower z.0) _ ((second, (stmt_part second).height), rest) _ (lower_is second z.0 rest z.2 e.1 (omega (arith, low)) stop) refl))
      (ap (λ (y : Expr). S y c.1.operand.height) c.1.is ∙ ap (λ (n : ℕ). S test n) c.1.high)))

  branch_form : (test : Expr) (first : Stmt) (second : Option Stmt) (line : ℕ) → Form (stmt_step (Stmt-F.If test (stmt_part first) (option_map stmt_part second) line)) (s.If test first second line)
  branch_form test first None line = branch_none test first line
  branch_form test first (Some second) line = branch_some test first second line

  -- ---- loops

  while_form : (test : Expr) (body : Stmt) (line : ℕ) → Form (stmt_step (Stmt-F.While test (stmt_part body) line)) (s.While test body line)
  unfolding whiled
  while_form test body line ts rest walks fits low stop =
      let q = part_of test in let w = (stmt_part body).walk in
      let f = and_true (fits_at 14 q) (stmt_part body).fits fits in
      let h = key_start k.While line (mark m.LeftParen >> q.walk >> mark m.RightParen >> w) ts rest walks in
      let c = condition_full below test w h.0 rest h.2 f.0 (omega (arith, low)) in
      let S : Expr → ℕ → Result ((Stmt × ℕ) × List Token) Failure = λ y n. Ok ((s.While y body line, suc (max n (stmt_part body).height)), rest) in
      h.1 ∙ bind_to (condition below h.0) _ (c.1.operand, c.0) _ c.1.found
      (bind_to (lower c.0) _ ((body, (stmt_part body).height), rest) _ (lower_is body c.0 rest c.2 f.1 (omega (arith, low)) stop)
      (ap (λ (y : Expr). S y c.1.operand.height) c.1.is ∙ ap (λ (n : ℕ). S test n) c.1.high))

  do_form : (body : Stmt) (test : Expr) (line : ℕ) → Form (stmt_step (Stmt-F.Do (stmt_part body) test line)) (s.Do body test line)
  unfolding done
  do_form body test line ts rest walks fits low stop =
      let q = part_of test in let w = (stmt_part body).walk in
      let f = and_true (stmt_part body).fits (fits_at 14 q) fits in
      let h = key_start k.Do line (w >> key k.While >> mark m.LeftParen >> q.walk >> mark m.RightParen >> mark m.Semicolon) ts rest walks in
      let a = then_some w (key k.While >> mark m.LeftParen >> q.walk >> mark m.RightParen >> mark m.Semicolon) h.0 rest h.2 in
      let b = then_some (key k.While) (mark m.LeftParen >> q.walk >> mark m.RightParen >> mark m.Semicolon) a.0 rest a.2 in
      let c = condition_full below test (mark m.Semicolon) b.0 rest b.2 f.1 (omega (arith, low)) in
      let S : Expr → ℕ → Result ((Stmt × ℕ) × List Token) Failure = λ y n. Ok ((s.Do body y line, suc (max (stmt_part body).height n)), rest) in
      h.1 ∙ bind_to (lower h.0) _ ((body, (stmt_part body).height), a.0) _ (lower_is body h.0 a.0 a.1 f.0 (omega (arith, low)) (λ taken. not_two k.While k.Else a.0 b.0 (λ bad. cc) b.1))
      (bind_to (expect_key k.While a.0) _ b.0 _ (ap expected b.1)
      (bind_to (condition below b.0) _ (c.1.operand, c.0) _ c.1.found (expect_to m.Semicolon c.0 rest _ _ c.2
      (ap (λ (y : Expr). S y c.1.operand.height) c.1.is ∙ ap (λ (n : ℕ). S test n) c.1.high))))

  for_form : (start test third : Option Expr) (body : Stmt) (line : ℕ) → Form (stmt_step (Stmt-F.For start test third (stmt_part body) line)) (s.For start test third body line)
  unfolding counted
  for_form start test third body line ts rest walks fits low stop =
      let w = (stmt_part body).walk in
      let f = and_true (any_fits 14 start && any_fits 14 test && any_fits 14 third) (stmt_part body).fits fits in
      let g = and_true (any_fits 14 start && any_fits 14 test) (any_fits 14 third) f.0 in
      let e = and_true (any_fits 14 start) (any_fits 14 test) g.0 in
      let z = any_walk third >> mark m.RightParen >> w in
      let y = any_walk test >> mark m.Semicolon >> z in
      let h = key_start k.For line (mark m.LeftParen >> any_walk start >> mark m.Semicolon >> y) ts rest walks in
      let p = then_some (mark m.LeftParen) (any_walk start >> mark m.Semicolon >> y) h.0 rest h.2 in
      let a = optional_full below 14 m.Semicolon start y p.0 rest (lit≤ tt) refl refl p.2 e.0 (omega (arith, low)) in
      let b = optional_full below 14 m.Semicolon test z a.0 rest (lit≤ tt) refl refl a.2 e.1 (omega (arith, low)) in
      let c = optional_full below 14 m.RightParen third w b.0 rest (lit≤ tt) refl refl b.2 g.1 (omega (arith, low)) in
      h.1 ∙ expect_to m.LeftParen h.0 p.0 _ _ p.1
      (bind_to (optional 14 m.Semicolon below p.0) _ ((start, any_height start), a.0) _ a.1
      (bind_to (optional 14 m.Semicolon below a.0) _ ((test, any_height test), b.0) _ b.1
      (bind_to (optional 14 m.RightParen below b.0) _ ((third, any_height third), c.0) _ c.1
      (bind_to (lower c.0) _ ((body, (stmt_part body).height), rest) _ (lower_is body c.0 rest c.2 f.1 (omega (arith, low)) stop) refl))))

  -- ---- switch
  -- an arm ends where another one begins, or at the end of the switch
  abbrev ArmStop : Arm → List Token → Type 0
  ArmStop x ts = list_end ts ≡ Some ts

  no_label_after : (list : List Stmt) (ts rest : List Token) → not (is_empty list) ≡ true → each (λ x. (stmt_part x).walk) list ts ≡ Some rest → list_all (λ x. (stmt_part x).fits) list ≡ true
      → begins_label ts ≡ false
  unfolding starts_key
  no_label_after [] ts rest some walks fits = absurd cc
  no_label_after (x ∷ xs) ts rest some walks fits =
      let w = then_some (stmt_part x).walk (each (λ x. (stmt_part x).walk) xs) ts rest walks in
      let b = stmt_begins x ts w.0 w.1 (and_true (stmt_part x).fits _ fits).0 in
      ap (λ (o : Option (List Token)). is_some o || is_some (key k.Default ts)) (no_key k.Case ts refl b) ∙ ap is_some (no_key k.Default ts refl b)

  arm_reads : (x : Arm) (ts rest : List Token) → (each label_walk x.labels >> each (λ (z : StmtPart). z.walk) (map stmt_part x.list)) ts ≡ Some rest
      → ((not (is_empty x.labels) && list_all label_fits x.labels) && (not (is_empty (map stmt_part x.list)) && list_all (λ (z : StmtPart). z.fits) (map stmt_part x.list))) ≡ true
      → max (highest label_height x.labels) (highest (λ (z : StmtPart). z.height) (map stmt_part x.list)) ≤ below → list_end rest ≡ Some rest
      → arm below lower ts ≡ Ok ((x, max (highest label_height x.labels) (highest (λ (z : StmtPart). z.height) (map stmt_part x.list))), rest)
  unfolding arm statements stmt_shape
  arm_reads x ts rest walks fits low stop =
      let w = each (λ (z : StmtPart). z.walk) (map stmt_part x.list) in
      let a = highest label_height x.labels in
      let high = stmts_high x.list in
      let p = then_some (each label_walk x.labels) w ts rest walks in
      let f = and_true (not (is_empty x.labels) && list_all label_fits x.labels) _ fits in
      let g = and_true (not (is_empty x.labels)) (list_all label_fits x.labels) f.0 in
      let h = and_true (not (is_empty (map stmt_part x.list))) _ f.1 in
      let some : not (is_empty x.list) ≡ true = ap not (sym (stmts_empty x.list)) ∙ h.0 in
      let listed = ap (λ (o : Walk). o p.0) (sym (stmts_walk x.list)) ∙ p.2 in
      let fit = sym (stmts_fit x.list) ∙ h.1 in
      let first = labels_full below x.labels ts p.0 p.1 g.1 (omega (arith, low)) (not_true (is_empty x.labels) g.0) (no_label_after x.list p.0 rest some listed fit) in
      let second = repeated_full stmt_shape below ElseStop lower full list_end stmt_listing x.list (length p.0 + 1) p.0 rest rest listed stop fit (omega (arith, low, high)) (omega arith) in
      bind_to (labels below ts) _ ((x.labels, a), p.0) _ first
      (bind_to (some_of (statements lower p.0)) _ ((x.list, highest (λ z. (stmt_part z).height) x.list), rest) _
      (some_to (statements lower p.0) ((x.list, highest (λ z. (stmt_part z).height) x.list), rest) second (not_true (is_empty x.list) some))
      (ap (λ (n : ℕ). Ok ((x, max a n), rest)) (sym high)))

  arm_full : Full arm_shape below ArmStop (arm below lower)
  unfolding arm_shape
  arm_full = record {
    of = λ x ts rest walks fits low stop.
        let form = arm_step (record { labels = x.labels; list = map stmt_part x.list }) in
        let law = part-Arm x in
        let h = ap (λ (p : ArmPart). p.height) law in
        arm_reads x ts rest (subst (λ (p : ArmPart). p.walk ts ≡ Some rest) law walks) (ap (λ (p : ArmPart). p.fits) (sym law) ∙ fits) (subst (λ (n : ℕ). n ≤ below) h low) stop
        ∙ ap (λ (n : ℕ). Ok ((x, n), rest)) (sym h);
  }

  arm_labels : (x : Arm) (ts rest : List Token) → (arm_part x).walk ts ≡ Some rest → (arm_part x).fits ≡ true → begins_label ts ≡ true
  arm_labels x ts rest walks fits =
      let law = part-Arm x in
      let w = each (λ (z : StmtPart). z.walk) (map stmt_part x.list) in
      let p = then_some (each label_walk x.labels) w ts rest (subst (λ (p : ArmPart). p.walk ts ≡ Some rest) law walks) in
      let f = and_true (not (is_empty x.labels) && list_all label_fits x.labels) _ (ap (λ (p : ArmPart). p.fits) (sym law) ∙ fits) in
      from x.labels p.0 (and_true (not (is_empty x.labels)) (list_all label_fits x.labels) f.0).0 p.1
    where
      from : (ls : List Label) (us : List Token) → not (is_empty ls) ≡ true → each label_walk ls ts ≡ Some us → begins_label ts ≡ true
      from [] us some e = absurd cc
      from (l ∷ ls) us some e = let p = then_some (label_walk l) (each label_walk ls) ts us e in label_begins l ts p.0 p.1

  arm_takes : (x : Arm) (ts rest : List Token) → (arm_part x).walk ts ≡ Some rest → (arm_part x).fits ≡ true → length rest < length ts
  arm_takes x ts rest walks fits =
      let law = part-Arm x in
      let f = and_true (not (is_empty x.labels) && list_all label_fits x.labels) _ (ap (λ (p : ArmPart). p.fits) (sym law) ∙ fits) in
      let g = (and_true (not (is_empty x.labels)) (list_all label_fits x.labels) f.0).0 in
      let t = (moves_arm x (λ y le. moves_stmt y)).takes ts rest walks in
      let l = longer x.labels g in
      omega (arith, t, l)
    where
      longer : (ls : List Label) → not (is_empty ls) ≡ true → 0 < length ls
      longer [] some = absurd cc
      longer (l ∷ ls) some = omega arith

  label_ends : (ts : List Token) → begins_label ts ≡ true → list_end ts ≡ Some ts
  label_ends ts e = from (is_some (mark m.RightBrace ts)) (begins_label ts) e
    where
      from : (a b : Bool) → b ≡ true → (if a || b then Some ts else None) ≡ Some ts
      from true b e = refl
      from false true e = refl
      from false false e = absurd cc

  label_no_brace : (ts : List Token) → begins_label ts ≡ true → mark m.RightBrace ts ≡ None
  label_no_brace ts e = none_of (mark m.RightBrace ts) (λ us h.
      let a = not_both m.RightBrace k.Case ts us h in
      let b = not_both m.RightBrace k.Default ts us h in
      let c : begins_label ts ≡ false = ap (λ (o : Option (List Token)). is_some o || is_some (key k.Default ts)) a ∙ ap is_some b in
      let bad : true ≡ false = sym e ∙ c in cc)

  arm_listing : Listing arm_shape ArmStop (after m.RightBrace)
  unfolding arm_shape
  arm_listing = record {
    begins = λ x ts rest walks fits. label_no_brace ts (arm_labels x ts rest walks fits);
    takes = λ x ts rest walks fits. arm_takes x ts rest walks fits;
    at_stop = λ x ts rest e. ap (λ (o : Option (List Token)). if is_some o || begins_label ts then Some ts else None) e;
    at_next = λ x y ts rest walks fits. label_ends ts (arm_labels y ts rest walks fits);
  }

  switch_form : (test : Expr) (list : List Arm) (line : ℕ) → Form (stmt_step (Stmt-F.Switch test (map arm_part list) line)) (s.Switch test list line)
  unfolding switched arms arm_shape
  switch_form test list line ts rest walks fits low stop =
      let q = part_of test in let w = each (λ (z : ArmPart). z.walk) (map arm_part list) in
      let high = arms_high list in
      let f = and_true (fits_at 14 q) _ fits in
      let h = key_start k.Switch line (mark m.LeftParen >> q.walk >> mark m.RightParen >> mark m.LeftBrace >> w >> mark m.RightBrace) ts rest walks in
      let c = condition_full below test (mark m.LeftBrace >> w >> mark m.RightBrace) h.0 rest h.2 f.0 (omega (arith, low)) in
      let a = then_some (mark m.LeftBrace) (w >> mark m.RightBrace) c.0 rest c.2 in
      let b = then_some w (mark m.RightBrace) a.0 rest a.2 in
      let listed = ap (λ (o : Walk). o a.0) (sym (arms_walk list)) ∙ b.1 in
      let fit = sym (arms_fit list) ∙ f.1 in
      let all = repeated_full arm_shape below ArmStop (arm below lower) arm_full (after m.RightBrace) arm_listing list (length a.0 + 1) a.0 b.0 rest listed b.2 fit (omega (arith, low, high))
      (omega arith) in
      let n = highest (λ (z : ArmPart). z.height) (map arm_part list) in
      let S : Expr → ℕ → ℕ → Result ((Stmt × ℕ) × List Token) Failure = λ y i j. Ok ((s.Switch y list line, suc (max i j)), rest) in
      h.1 ∙ bind_to (condition below h.0) _ (c.1.operand, c.0) _ c.1.found (expect_to m.LeftBrace c.0 a.0 _ _ a.1
      (bind_to (read.arms below lower a.0) _ ((list, highest (λ z. (arm_part z).height) list), rest) _ all
      (ap (λ (y : Expr). S y c.1.operand.height (highest (λ z. (arm_part z).height) list)) c.1.is ∙ ap (λ (i : ℕ). S test i (highest (λ z. (arm_part z).height) list)) c.1.high
      ∙ ap (λ (j : ℕ). S test q.height j) (sym high))))

  -- ---- all forms

  form_to : (x : Stmt) (form : StmtPart) → stmt_part x ≡ form → Form form x → Form (stmt_part x) x
  form_to x form e f = subst (λ (p : StmtPart). Form p x) (sym e) f

  pub form_view : (x : Stmt) → View x → Form (stmt_part x) x
  form_view x (Block locals list line) = form_to (s.Block locals list line) _ (part-Block locals list line) (block_form locals list line)
  form_view x (Empty line) = form_to (s.Empty line) _ (part-Empty line) (empty_form line)
  form_view x (Run part line) = form_to (s.Run part line) _ (part-Run part line) (run_form part line)
  form_view x (If test first second line) = form_to (s.If test first second line) _ (part-If test first second line) (branch_form test first second line)
  form_view x (While test body line) = form_to (s.While test body line) _ (part-While test body line) (while_form test body line)
  form_view x (Do body test line) = form_to (s.Do body test line) _ (part-Do body test line) (do_form body test line)
  form_view x (For start test third body line) = form_to (s.For start test third body line) _ (part-For start test third body line) (for_form start test third body line)
  form_view x (Break line) = form_to (s.Break line) _ (part-Break line) (leaf_form k.Break (s.Break line) line (λ us ts. refl))
  form_view x (Continue line) = form_to (s.Continue line) _ (part-Continue line) (leaf_form k.Continue (s.Continue line) line (λ us ts. refl))
  form_view x (Return value line) = form_to (s.Return value line) _ (part-Return value line) (return_form value line)
  form_view x (Switch test list line) = form_to (s.Switch test list line) _ (part-Switch test list line) (switch_form test list line)

returned_positive : (value : Option Expr) → 0 < returned_height value
returned_positive None = omega arith
returned_positive (Some x) = omega arith

positive : (x : Stmt) → View x → 0 < (stmt_part x).height
positive x (Block locals list line) = let l = ap (λ (p : StmtPart). p.height) (part-Block locals list line) in omega (arith, l)
positive x (Empty line) = let l = ap (λ (p : StmtPart). p.height) (part-Empty line) in omega (arith, l)
positive x (Run part line) = let l = ap (λ (p : StmtPart). p.height) (part-Run part line) in omega (arith, l)
positive x (If test first second line) = let l = ap (λ (p : StmtPart). p.height) (part-If test first second line) in omega (arith, l)
positive x (While test body line) = let l = ap (λ (p : StmtPart). p.height) (part-While test body line) in omega (arith, l)
positive x (Do body test line) = let l = ap (λ (p : StmtPart). p.height) (part-Do body test line) in omega (arith, l)
positive x (For start test third body line) = let l = ap (λ (p : StmtPart). p.height) (part-For start test third body line) in omega (arith, l)
positive x (Break line) = let l = ap (λ (p : StmtPart). p.height) (part-Break line) in omega (arith, l)
positive x (Continue line) = let l = ap (λ (p : StmtPart). p.height) (part-Continue line) in omega (arith, l)
positive x (Return value line) = let l = ap (λ (p : StmtPart). p.height) (part-Return value line) in let r = returned_positive value in omega (arith, l, r)
positive x (Switch test list line) = let l = ap (λ (p : StmtPart). p.height) (part-Switch test list line) in omega (arith, l)

-- The tokens of a statement that isn't higher than the limit are read as it, where an `else` that it would take doesn't follow.
pub stmt_full : (limit : ℕ) → Full stmt_shape limit ElseStop (read_stmt limit)
unfolding read_stmt stmt_shape
stmt_full zero = record { of = λ x ts rest walks fits low stop. absurd (let p = positive x (view x) in omega (arith, low, p)) }
stmt_full (suc below) = record { of = λ x ts rest walks fits low stop. form_view below (read_stmt below) (stmt_full below) x (view x) ts rest walks fits low stop }
