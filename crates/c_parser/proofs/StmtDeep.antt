-- Statements and items are too deep only where that many tokens nest.
use Rattle.std.proofs.Common.{◌≡◌, ℕ, zero, suc, ◌+◌, ◌≤◌, Bool, true, List, [], ◌∷◌, length, Option, Some, None, Result, Ok, Err, refl, arith}
use Rattle.std.proofs.Common.{lit≤}
use Rattle.nm_base.specs.declared.operator.Ctype.{Ctype}
use Rattle.c_lexer.specs.declared.token.Token.{Token}
use Rattle.c_lexer.specs.declared.token.Tok.{Tok}
use Rattle.c_lexer.specs.declared.token.Tok.TheVariants as tok
use Rattle.c_lexer.specs.declared.token.Key.{Key}
use Rattle.c_lexer.specs.declared.token.Key.TheVariants as k
use Rattle.c_lexer.specs.declared.token.Mark.{Mark}
use Rattle.c_lexer.specs.declared.token.Mark.TheVariants as m
use Rattle.c_tree.specs.declared.tree.Expr.{Expr}
use Rattle.c_tree.specs.declared.tree.Declr.{Declr}
use Rattle.c_tree.specs.declared.tree.Vars.{Vars}
use Rattle.c_tree.specs.declared.tree.Label.{Label}
use Rattle.c_tree.specs.declared.tree.Arm.{Arm}
use Rattle.c_tree.specs.declared.tree.Stmt.{Stmt}
use Rattle.c_tree.specs.declared.tree.Stmt.TheVariants as s
use Rattle.c_tree.specs.declared.tree.Param.{Param}
use Rattle.c_tree.specs.declared.tree.Head.{Head}
use Rattle.c_tree.specs.declared.tree.Item.{Item}
use Rattle.c_parser.specs.declared.expr.Operand.{Operand}
use Rattle.c_parser.specs.Tokens.{nesting, is_nesting_key}
use Rattle.c_parser.specs.Walk.{◌>>◌, mark, key}
use Rattle.c_parser.specs.Expr.{part_of}
use Rattle.c_parser.specs.Stmt.{is_empty, any_walk, vars_walk, vars_height}
use Rattle.c_lexer.specs.Lexemes.{◌>>=◌}
use Rattle.c_parser.specs.private.Reader.{Failure, Wrong, Reader, at_mark, after}
use Rattle.c_parser.specs.private.ReadExpr.{line_at, read_expr}
use Rattle.c_parser.specs.private.ReadStmt.{repeated, separated, some_of, name_at, found, expect_name, type_at, is_declr_end, size_of, start_of, declr_end}
use Rattle.c_parser.specs.private.ReadStmt.{declarator, declarations, no_type, local, locals, condition, present, optional, label_by, label, no_label, labels, list_end, leaf, returned, run}
use Rattle.c_parser.specs.private.ReadStmt.{statements, otherwise, block, branch, whiled, done, counted, arm, arms, switched, stmt_by, stmt, read_stmt}
use Rattle.c_parser.specs.private.ReadExpr.{is_separator}
use Rattle.c_parser.specs.Unit.{params_walk, params_named}
use Rattle.c_parser.specs.private.ReadUnit.{array_at, param_of, parameter, parameters, body_of, headed, function_of, vars_of, item_of, read_item, at_end, read_items}
use Rattle.c_parser.proofs.Steps.{mark_is, mark_takes, at_mark_some, then_some}
use Rattle.c_parser.proofs.Deep.{Deeps, deeps_ok, deeps_wrong, deeps_bind, deeps_expected, deeps_expect, deeps_found, deeps_if, fewer, expr_deeps}
use Rattle.c_parser.proofs.Nesting.{costs_token}
use Rattle.c_parser.proofs.StmtMoves.{moves_mark, moves_key, moves_any_key, moves_name, moves_expr, moves_any, moves_type, moves_declr, moves_vars, moves_label}
use Rattle.c_parser.proofs.StmtMoves.{moves_labels, moves_stmt, moves_each, moves_arm}
use Rattle.c_parser.proofs.StmtSound.{key_takes, condition_sound, optional_sound, declr_shape, vars_shape}
use Rattle.c_parser.proofs.StmtSound.{label_shape, arm_shape, declarator_sound, local_sound, locals_sound, label_sound, labels_sound, stmt_sound, arm_sound, name_is, type_is}
use Rattle.c_parser.proofs.UnitSound.{param_shape, item_shape, parameter_sound, parameters_sound, item_sound}
use Rattle.c_parser.proofs.UnitFull.{moves_param, moves_params, moves_item}

-- ---- lists

module _ {A : Type 0} (P : Type 0) (k c : ℕ) (item : Reader (A × ℕ)) (deep : (us : List Token) → nesting us + c ≤ k → Deeps P (item us)) (falls : (us : List Token) (y : (A × ℕ) × List Token)
    → item us ≡ Ok y → nesting y.1 ≤ nesting us) where
  repeated_deeps : (stops : List Token → Option (List Token)) (n : ℕ) (us : List Token) → nesting us + c ≤ k → Deeps P (repeated stops item n us)
  unfolding repeated
  repeated_deeps stops zero us le = deeps_wrong P
  repeated_deeps stops (suc n) us le = deeps_found P (stops us) _ _
      (deeps_bind P (item us) _ (deep us le) (λ x r.
      let f = falls us x r in
      deeps_bind P (repeated stops item n x.1) _ (repeated_deeps stops n x.1 (omega (arith, le, f))) (λ xs q. deeps_ok P _)))
      (λ rest e. deeps_ok P _)

  separated_deeps : (more : Mark → Option Bool) (n : ℕ) (us : List Token) → nesting us + c ≤ k → Deeps P (separated more item n us)
  unfolding separated
  separated_deeps more zero us le = deeps_wrong P
  separated_deeps more (suc n) us le =
      deeps_bind P (item us) _ (deep us le) (λ x r.
      let f = falls us x r in
      deeps_found P (at_mark more x.1) (Err Wrong) _ (deeps_wrong P) (λ y found.
      let a = at_mark_some more x.1 y.0 y.1 found in
      let g = fewer a.0 x.1 y.1 (mark_is a.0 x.1 y.1 a.1) in
      deeps_if P y.0 _ _ (λ _. deeps_bind P (separated more item n y.1) _ (separated_deeps more n y.1 (omega (arith, le, f, g))) (λ xs q. deeps_ok P _)) (λ _. deeps_ok P _)))

some_deeps : {A : Type 0} (P : Type 0) (r : Result ((List A × ℕ) × List Token) Failure) → Deeps P r → Deeps P (some_of r)
some_deeps P r d = deeps_bind P r _ d (λ x e. deeps_if P (is_empty x.0.0) (Err Wrong) (Ok x) (λ _. deeps_wrong P) (λ _. deeps_ok P x))

name_deeps : {A : Type 0} (P : Type 0) (ts : List Token) (f : List ℕ × List Token → Result A Failure) → ((x : List ℕ × List Token) → name_at ts ≡ Some x → Deeps P (f x))
    → Deeps P (expect_name ts >>= f)
name_deeps P ts f h = from (name_at ts) h
  where
    from : (o : Option (List ℕ × List Token)) → ((x : List ℕ × List Token) → o ≡ Some x → Deeps P (f x)) → Deeps P (found o >>= f)
    from None g = deeps_wrong P
    from (Some x) g = g x refl

-- ---- what falls along a reading

name_falls : (ts : List Token) (x : List ℕ × List Token) → name_at ts ≡ Some x → nesting x.1 ≤ nesting ts
name_falls ts x e = let n = name_is ts x e in let f = (moves_name x.0).nests ts x.1 n.walks in omega (arith, f)

type_falls : (ts : List Token) (x : Ctype × List Token) → type_at ts ≡ Some x → nesting x.1 ≤ nesting ts
type_falls ts x e = let f = (moves_type x.0).nests ts x.1 (type_is ts x e) in omega (arith, f)

key_falls : (l : Key) (ts us : List Token) → key l ts ≡ Some us → nesting us ≤ nesting ts
key_falls l ts us e = let f = (moves_any_key l).nests ts us e in omega (arith, f)

condition_falls : (limit : ℕ) (ts : List Token) (x : Operand × List Token) → condition limit ts ≡ Ok x → nesting x.1 ≤ nesting ts
condition_falls limit ts x e =
    let p = (condition_sound limit ts).of x e in
    let q = (part_of x.0.expr).walk in
    let a = then_some (mark m.LeftParen) (q >> mark m.RightParen) ts x.1 p.walks in
    let b = then_some q (mark m.RightParen) a.0 x.1 a.2 in
    let f = fewer m.LeftParen ts a.0 a.1 in let g = (moves_expr x.0.expr).nests a.0 b.0 b.1 in let h = fewer m.RightParen b.0 x.1 b.2 in
    omega (arith, f, g, h)

optional_falls : (level : ℕ) (end : Mark) (limit : ℕ) (ts : List Token) (x : (Option Expr × ℕ) × List Token) → level ≤ 14 → optional level end limit ts ≡ Ok x → nesting x.1 ≤ nesting ts
optional_falls level end limit ts x le e =
    let p = (optional_sound level end limit ts le).of x e in
    let a = then_some (any_walk x.0.0) (mark end) ts x.1 p.walks in
    let f = (moves_any x.0.0).nests ts a.0 a.1 in let g = fewer end a.0 x.1 a.2 in
    omega (arith, f, g)

declr_falls : (limit : ℕ) (ts : List Token) (x : (Declr × ℕ) × List Token) → declarator limit ts ≡ Ok x → nesting x.1 ≤ nesting ts
unfolding declr_shape
declr_falls limit ts x e = let p = (declarator_sound limit ts).of x e in let f = (moves_declr x.0.0).nests ts x.1 p.walks in omega (arith, f)

local_falls : (limit : ℕ) (ts : List Token) (x : (Vars × ℕ) × List Token) → local limit ts ≡ Ok x → nesting x.1 ≤ nesting ts
unfolding vars_shape
local_falls limit ts x e = let p = (local_sound limit ts).of x e in let f = (moves_vars x.0.0).nests ts x.1 p.walks in omega (arith, f)

locals_falls : (limit : ℕ) (ts : List Token) (x : (List Vars × ℕ) × List Token) → locals limit ts ≡ Ok x → nesting x.1 ≤ nesting ts
unfolding vars_shape
locals_falls limit ts x e = let p = (locals_sound limit ts).of x e in let f = (moves_each vars_walk vars_height 1 x.0.0 (λ v le. moves_vars v)).nests ts x.1 p.walks in omega (arith, f)

label_falls : (limit : ℕ) (ts : List Token) (x : (Label × ℕ) × List Token) → label limit ts ≡ Ok x → nesting x.1 ≤ nesting ts
unfolding label_shape
label_falls limit ts x e = let p = (label_sound limit ts).of x e in let f = (moves_label x.0.0).nests ts x.1 p.walks in omega (arith, f)

labels_falls : (limit : ℕ) (ts : List Token) (x : (List Label × ℕ) × List Token) → labels limit ts ≡ Ok x → nesting x.1 ≤ nesting ts
unfolding label_shape
labels_falls limit ts x e =
    let p = (labels_sound limit ts).of x e in
    let f = (moves_labels x.0.0).nests ts x.1 p.0.walks in omega (arith, f)

lower_falls : (limit : ℕ) (ts : List Token) (x : (Stmt × ℕ) × List Token) → read_stmt limit ts ≡ Ok x → nesting x.1 ≤ nesting ts
lower_falls limit ts x e = let p = (stmt_sound limit ts).of x e in let f = (moves_stmt x.0.0).nests ts x.1 p.walks in omega (arith, f)

arm_falls : (limit : ℕ) (ts : List Token) (x : (Arm × ℕ) × List Token) → arm limit (read_stmt limit) ts ≡ Ok x → nesting x.1 ≤ nesting ts
unfolding arm_shape
arm_falls limit ts x e =
    let p = (arm_sound limit (read_stmt limit) (stmt_sound limit) ts).of x e in
    let f = (moves_arm x.0.0 (λ y le. moves_stmt y)).nests ts x.1 p.walks in omega (arith, f)

-- ---- parts

module _ (below most : ℕ) where
  abbrev P : Type 0
  P = below ≤ most

  part_deeps : (level : ℕ) (ts : List Token) → level ≤ 14 → nesting ts ≤ most → Deeps P (read_expr below level ts)
  part_deeps level ts le lt = record { of = λ e. let d = (expr_deeps below level ts le).of e in omega (arith, d, lt) }

  condition_deeps : (ts : List Token) → nesting ts ≤ most → Deeps P (condition below ts)
  unfolding condition
  condition_deeps ts le = deeps_expect P m.LeftParen ts _ (λ us e. let f = fewer m.LeftParen ts us e in
      deeps_bind P (read_expr below 14 us) _ (part_deeps 14 us (lit≤ tt) (omega (arith, le, f))) (λ x r. deeps_expect P m.RightParen x.1 _ (λ rest close. deeps_ok P _)))

  optional_deeps : (level : ℕ) (end : Mark) (ts : List Token) → level ≤ 14 → nesting ts ≤ most → Deeps P (optional level end below ts)
  unfolding optional present
  optional_deeps level end ts top le = deeps_found P (mark end ts) _ _
      (deeps_bind P (read_expr below level ts) _ (part_deeps level ts top le) (λ x r. deeps_expect P end x.1 _ (λ rest close. deeps_ok P _))) (λ rest e. deeps_ok P _)

  declr_end_deeps : (ts : List Token) → nesting ts ≤ most → Deeps P (declr_end below ts)
  unfolding declr_end size_of start_of
  declr_end_deeps ts le = deeps_found P (mark m.LeftBracket ts) _ _
      (deeps_found P (mark m.Assign ts) _ _ (deeps_ok P _) (λ us e. let f = fewer m.Assign ts us e in
      deeps_bind P (read_expr below 13 us) _ (part_deeps 13 us (lit≤ tt) (omega (arith, le, f))) (λ x r. deeps_ok P _)))
      (λ us e. let f = fewer m.LeftBracket ts us e in
      deeps_bind P (read_expr below 12 us) _ (part_deeps 12 us (lit≤ tt) (omega (arith, le, f))) (λ x r. deeps_expect P m.RightBracket x.1 _ (λ rest close. deeps_ok P _)))

  declarator_deeps : (ts : List Token) → nesting ts + 0 ≤ most → Deeps P (declarator below ts)
  unfolding declarator
  declarator_deeps ts le = name_deeps P ts _ (λ x name. let f = name_falls ts x name in
      deeps_bind P (declr_end below x.1) _ (declr_end_deeps x.1 (omega (arith, le, f))) (λ y r. deeps_ok P _))

  declarations_deeps : (of : Ctype) (ts : List Token) → nesting ts ≤ most → Deeps P (declarations below of ts)
  unfolding declarations
  declarations_deeps of ts le = deeps_bind P (separated is_declr_end (declarator below) (length ts + 1) ts) _
      (separated_deeps P most 0 (declarator below) declarator_deeps (declr_falls below) is_declr_end (length ts + 1) ts (omega (arith, le))) (λ x r. deeps_ok P _)

  local_deeps : (ts : List Token) → nesting ts + 0 ≤ most → Deeps P (local below ts)
  unfolding local
  local_deeps ts le = deeps_found P (type_at ts) (Err Wrong) _ (deeps_wrong P) (λ x type. let f = type_falls ts x type in declarations_deeps x.0 x.1 (omega (arith, le, f)))

  locals_deeps : (ts : List Token) → nesting ts ≤ most → Deeps P (locals below ts)
  unfolding locals
  locals_deeps ts le = repeated_deeps P most 0 (local below) local_deeps (local_falls below) no_type (length ts + 1) ts (omega (arith, le))

  label_key_deeps : (l : Key) (line : ℕ) (ts : List Token) → nesting ts ≤ most → Deeps P (label_by below (tok.Keyword l) line ts)
  label_key_deeps k.Default line ts le = deeps_expect P m.Colon ts _ (λ rest e. deeps_ok P _)
  label_key_deeps k.Case line ts le = deeps_bind P (read_expr below 12 ts) _ (part_deeps 12 ts (lit≤ tt) le) (λ x r. deeps_expect P m.Colon x.1 _ (λ rest e. deeps_ok P _))
  label_key_deeps _ line ts le = deeps_wrong P

  label_tok_deeps : (o : Tok) (line : ℕ) (ts : List Token) → nesting ts ≤ most → Deeps P (label_by below o line ts)
  label_tok_deeps (tok.Keyword l) line ts le = label_key_deeps l line ts le
  label_tok_deeps _ line ts le = deeps_wrong P

  label_deeps : (ts : List Token) → nesting ts + 0 ≤ most → Deeps P (label below ts)
  unfolding label
  label_deeps [] le = deeps_wrong P
  label_deeps (t ∷ ts) le = label_tok_deeps t.kind t.line ts (let c = costs_token t ts in omega (arith, c, le))

  labels_deeps : (ts : List Token) → nesting ts ≤ most → Deeps P (labels below ts)
  unfolding labels
  labels_deeps ts le = some_deeps P _ (repeated_deeps P most 0 (label below) label_deeps (label_falls below) no_label (length ts + 1) ts (omega (arith, le)))

  module _ (lower : (ts : List Token) → nesting ts + 1 ≤ most → Deeps P (read_stmt below ts)) where
    statements_deeps : (ts : List Token) → nesting ts + 1 ≤ most → Deeps P (statements (read_stmt below) ts)
    unfolding statements
    statements_deeps ts le = repeated_deeps P most 1 (read_stmt below) lower (lower_falls below) list_end (length ts + 1) ts le

    pub block_deeps : (line : ℕ) (ts : List Token) → nesting ts + 1 ≤ most → Deeps P (block below (read_stmt below) line ts)
    unfolding block
    block_deeps line ts le = deeps_bind P (locals below ts) _ (locals_deeps ts (omega (arith, le))) (λ x r. let f = locals_falls below ts x r in
        deeps_bind P (statements (read_stmt below) x.1) _ (statements_deeps x.1 (omega (arith, le, f))) (λ y q. deeps_expect P m.RightBrace y.1 _ (λ rest e. deeps_ok P _)))

    otherwise_deeps : (ts : List Token) → nesting ts + 1 ≤ most → Deeps P (otherwise (read_stmt below) ts)
    unfolding otherwise
    otherwise_deeps ts le = deeps_found P (key k.Else ts) _ _ (deeps_ok P _) (λ us e. let f = key_falls k.Else ts us e in
        deeps_bind P (read_stmt below us) _ (lower us (omega (arith, le, f))) (λ x r. deeps_ok P _))

    branch_deeps : (line : ℕ) (ts : List Token) → nesting ts + 1 ≤ most → Deeps P (branch below (read_stmt below) line ts)
    unfolding branch
    branch_deeps line ts le = deeps_bind P (condition below ts) _ (condition_deeps ts (omega (arith, le))) (λ x r. let f = condition_falls below ts x r in
        deeps_bind P (read_stmt below x.1) _ (lower x.1 (omega (arith, le, f))) (λ y q. let g = lower_falls below x.1 y q in
        deeps_bind P (otherwise (read_stmt below) y.1) _ (otherwise_deeps y.1 (omega (arith, le, f, g))) (λ z s. deeps_ok P _)))

    whiled_deeps : (line : ℕ) (ts : List Token) → nesting ts + 1 ≤ most → Deeps P (whiled below (read_stmt below) line ts)
    unfolding whiled
    whiled_deeps line ts le = deeps_bind P (condition below ts) _ (condition_deeps ts (omega (arith, le))) (λ x r. let f = condition_falls below ts x r in
        deeps_bind P (read_stmt below x.1) _ (lower x.1 (omega (arith, le, f))) (λ y q. deeps_ok P _))

    done_deeps : (line : ℕ) (ts : List Token) → nesting ts + 1 ≤ most → Deeps P (done below (read_stmt below) line ts)
    unfolding done
    done_deeps line ts le = deeps_bind P (read_stmt below ts) _ (lower ts le) (λ x r. let f = lower_falls below ts x r in
        deeps_expected P (key k.While x.1) _ (λ us e. let g = key_falls k.While x.1 us e in
        deeps_bind P (condition below us) _ (condition_deeps us (omega (arith, le, f, g))) (λ y q. deeps_expect P m.Semicolon y.1 _ (λ rest h. deeps_ok P _))))

    counted_deeps : (line : ℕ) (ts : List Token) → nesting ts + 1 ≤ most → Deeps P (counted below (read_stmt below) line ts)
    unfolding counted
    counted_deeps line ts le = deeps_expect P m.LeftParen ts _ (λ us e. let f = fewer m.LeftParen ts us e in
        deeps_bind P (optional 14 m.Semicolon below us) _ (optional_deeps 14 m.Semicolon us (lit≤ tt) (omega (arith, le, f))) (λ x r. let g = optional_falls 14 m.Semicolon below us x (lit≤ tt) r in
        deeps_bind P (optional 14 m.Semicolon below x.1) _ (optional_deeps 14 m.Semicolon x.1 (lit≤ tt) (omega (arith, le, f, g)))
        (λ y q. let h = optional_falls 14 m.Semicolon below x.1 y (lit≤ tt) q in
        deeps_bind P (optional 14 m.RightParen below y.1) _ (optional_deeps 14 m.RightParen y.1 (lit≤ tt) (omega (arith, le, f, g, h)))
        (λ z s. let i = optional_falls 14 m.RightParen below y.1 z (lit≤ tt) s in
        deeps_bind P (read_stmt below z.1) _ (lower z.1 (omega (arith, le, f, g, h, i))) (λ w t. deeps_ok P _)))))

    arm_deeps : (ts : List Token) → nesting ts + 1 ≤ most → Deeps P (arm below (read_stmt below) ts)
    unfolding arm
    arm_deeps ts le = deeps_bind P (labels below ts) _ (labels_deeps ts (omega (arith, le))) (λ x r. let f = labels_falls below ts x r in
        deeps_bind P (some_of (statements (read_stmt below) x.1)) _ (some_deeps P _ (statements_deeps x.1 (omega (arith, le, f)))) (λ y q. deeps_ok P _))

    switched_deeps : (line : ℕ) (ts : List Token) → nesting ts + 1 ≤ most → Deeps P (switched below (read_stmt below) line ts)
    unfolding switched arms
    switched_deeps line ts le = deeps_bind P (condition below ts) _ (condition_deeps ts (omega (arith, le))) (λ x r. let f = condition_falls below ts x r in
        deeps_expect P m.LeftBrace x.1 _ (λ us e. let g = fewer m.LeftBrace x.1 us e in
        deeps_bind P (arms below (read_stmt below) us) _
        (repeated_deeps P most 1 (arm below (read_stmt below)) arm_deeps (arm_falls below) (after m.RightBrace) (length us + 1) us (omega (arith, le, f, g))) (λ y q. deeps_ok P _)))

    leaf_deeps : (x : Stmt) (ts : List Token) → Deeps P (leaf x ts)
    unfolding leaf
    leaf_deeps x ts = deeps_expect P m.Semicolon ts _ (λ rest e. deeps_ok P _)

    returned_deeps : (line : ℕ) (ts : List Token) → nesting ts ≤ most → Deeps P (returned below line ts)
    unfolding returned
    returned_deeps line ts le = deeps_bind P (optional 14 m.Semicolon below ts) _ (optional_deeps 14 m.Semicolon ts (lit≤ tt) le) (λ x r. deeps_ok P _)

    run_deeps : (line : ℕ) (ts : List Token) → nesting ts ≤ most → Deeps P (run below line ts)
    unfolding run
    run_deeps line ts le = deeps_bind P (read_expr below 14 ts) _ (part_deeps 14 ts (lit≤ tt) le) (λ x r. deeps_expect P m.Semicolon x.1 _ (λ rest e. deeps_ok P _))

    nested_mark : (n : Mark) (t : Token) (ts : List Token) → t.kind ≡ tok.Mark n → nesting (t ∷ ts) ≤ most → Deeps P (stmt_by below (read_stmt below) (tok.Mark n) t.line ts (t ∷ ts))
    nested_mark m.LeftBrace t ts e le = block_deeps t.line ts (let f = (moves_mark m.LeftBrace refl).nests (t ∷ ts) ts (mark_takes m.LeftBrace t ts e) in omega (arith, f, le))
    nested_mark m.Semicolon t ts e le = deeps_ok P _
    nested_mark _ t ts e le = run_deeps t.line (t ∷ ts) le

    one_key : (l : Key) (t : Token) (ts : List Token) → is_nesting_key l ≡ true → t.kind ≡ tok.Keyword l → nesting (t ∷ ts) ≤ most → nesting ts + 1 ≤ most
    one_key l t ts nests e le = let f = (moves_key l nests).nests (t ∷ ts) ts (key_takes l t ts e) in omega (arith, f, le)

    nested_key : (l : Key) (t : Token) (ts : List Token) → t.kind ≡ tok.Keyword l → nesting (t ∷ ts) ≤ most → Deeps P (stmt_by below (read_stmt below) (tok.Keyword l) t.line ts (t ∷ ts))
    nested_key k.If t ts e le = branch_deeps t.line ts (one_key k.If t ts refl e le)
    nested_key k.While t ts e le = whiled_deeps t.line ts (one_key k.While t ts refl e le)
    nested_key k.Do t ts e le = done_deeps t.line ts (one_key k.Do t ts refl e le)
    nested_key k.For t ts e le = counted_deeps t.line ts (one_key k.For t ts refl e le)
    nested_key k.Switch t ts e le = switched_deeps t.line ts (one_key k.Switch t ts refl e le)
    nested_key k.Break t ts e le = leaf_deeps (s.Break t.line) ts
    nested_key k.Continue t ts e le = leaf_deeps (s.Continue t.line) ts
    nested_key k.Return t ts e le = returned_deeps t.line ts (let c = costs_token t ts in omega (arith, c, le))
    nested_key _ t ts e le = run_deeps t.line (t ∷ ts) le

    nested : (o : Tok) (t : Token) (ts : List Token) → t.kind ≡ o → nesting (t ∷ ts) ≤ most → Deeps P (stmt_by below (read_stmt below) o t.line ts (t ∷ ts))
    nested (tok.Mark n) t ts e le = nested_mark n t ts e le
    nested (tok.Keyword l) t ts e le = nested_key l t ts e le
    nested tok.Name t ts e le = run_deeps t.line (t ∷ ts) le
    nested tok.Text t ts e le = run_deeps t.line (t ∷ ts) le
    nested (tok.Const bits of) t ts e le = run_deeps t.line (t ∷ ts) le

-- a statement is too deep only where as many tokens nest as the limit, but for one
pub stmt_deeps : (limit : ℕ) (ts : List Token) → Deeps (limit ≤ nesting ts + 1) (read_stmt limit ts)
unfolding read_stmt stmt
stmt_deeps zero ts = record { of = λ e. omega arith }
stmt_deeps (suc below) [] = deeps_wrong (suc below ≤ nesting [] + 1)
stmt_deeps (suc below) (t ∷ ts) = record {
  of = λ e.
      let d = (nested below (nesting (t ∷ ts)) (λ us le. record { of = λ h. let f = (stmt_deeps below us).of h in omega (arith, f, le) }) t.kind t ts refl (omega arith)).of e in
      omega (arith, d);
}

-- ---- items

module _ (most : ℕ) where
  abbrev Q : Type 0
  Q = 64 ≤ most

  array_deeps : (ts : List Token) → nesting ts ≤ most → Deeps Q (array_at ts)
  unfolding array_at
  array_deeps ts le = deeps_found Q (mark m.LeftBracket ts) _ _ (deeps_ok Q _) (λ us e. let f = fewer m.LeftBracket ts us e in
      deeps_bind Q (optional 12 m.RightBracket 64 us) _ (optional_deeps 64 most 12 m.RightBracket us (lit≤ tt) (omega (arith, le, f))) (λ x r. deeps_ok Q _))

  param_of_deeps : (of : Ctype) (name : Option (List ℕ)) (line : ℕ) (ts : List Token) → nesting ts ≤ most → Deeps Q (param_of of name line ts)
  unfolding param_of
  param_of_deeps of name line ts le = deeps_bind Q (array_at ts) _ (array_deeps ts le) (λ x r. deeps_ok Q _)

  parameter_deeps : (ts : List Token) → nesting ts + 0 ≤ most → Deeps Q (parameter ts)
  unfolding parameter
  parameter_deeps ts le = deeps_found Q (type_at ts) (Err Wrong) _ (deeps_wrong Q) (λ x type. let f = type_falls ts x type in
      deeps_found Q (name_at x.1) _ _ (param_of_deeps x.0 None (line_at ts) x.1 (omega (arith, le, f))) (λ y name. let g = name_falls x.1 y name in
      param_of_deeps x.0 (Some y.0) (line_at x.1) y.1 (omega (arith, le, f, g))))

  param_falls : (ts : List Token) (x : (Param × ℕ) × List Token) → parameter ts ≡ Ok x → nesting x.1 ≤ nesting ts
  unfolding param_shape
  param_falls ts x e = let p = (parameter_sound ts).of x e in let f = (moves_param x.0.0).nests ts x.1 p.walks in omega (arith, f)

  parameters_deeps : (ts : List Token) → nesting ts ≤ most → Deeps Q (parameters ts)
  unfolding parameters
  parameters_deeps ts le = deeps_found Q (key k.Void ts) _ _
      (deeps_found Q (mark m.RightParen ts) _ _ (separated_deeps Q most 0 parameter parameter_deeps param_falls is_separator (length ts + 1) ts (omega (arith, le))) (λ rest e. deeps_ok Q _))
      (λ us e. deeps_expect Q m.RightParen us _ (λ rest h. deeps_ok Q _))

  -- after the parenthesis of a head, which nests
  headed_deeps : (h : Head) (high : ℕ) (ts : List Token) → nesting ts + 1 ≤ most → Deeps Q (headed h high ts)
  unfolding headed body_of
  headed_deeps h high ts le = deeps_found Q (mark m.Semicolon ts) _ _
      (deeps_if Q (params_named h.params) _ (Err Wrong) (λ names. deeps_expect Q m.LeftBrace ts _ (λ us e.
      let f = (moves_mark m.LeftBrace refl).nests ts us e in
      deeps_bind Q (block 63 (read_stmt 63) (line_at ts) us) _
      (record {
        of = λ d.
            let b = (block_deeps 63 (nesting ts) (λ vs lt. record { of = λ g. let s = (stmt_deeps 63 vs).of g in omega (arith, s, lt) }) (line_at ts) us (omega (arith, f))).of d in omega
            (arith, b, le);
      })
      (λ x r. deeps_ok Q _))) (λ _. deeps_wrong Q))
      (λ rest e. deeps_ok Q _)

  params_falls : (ts : List Token) (x : (List Param × ℕ) × List Token) → parameters ts ≡ Ok x → nesting x.1 ≤ nesting ts
  params_falls ts x e =
      let p = (parameters_sound ts).of x e in
      let a = then_some (params_walk x.0.0) (mark m.RightParen) ts x.1 p.walks in
      let f = (moves_params x.0.0).nests ts a.0 a.1 in let g = fewer m.RightParen a.0 x.1 a.2 in omega (arith, f, g)

  vars_of_deeps : (of : Option Ctype) (ts : List Token) → nesting ts ≤ most → Deeps Q (vars_of of ts)
  unfolding vars_of
  vars_of_deeps None ts le = deeps_wrong Q
  vars_of_deeps (Some of) ts le = deeps_bind Q (declarations 64 of ts) _ (declarations_deeps 64 most of ts le) (λ x r. deeps_ok Q _)

  item_of_deeps : (of : Option Ctype) (ts : List Token) → nesting ts ≤ most → Deeps Q (item_of of ts)
  unfolding item_of function_of
  item_of_deeps of ts le = name_deeps Q ts _ (λ x name. let f = name_falls ts x name in
      deeps_found Q (mark m.LeftParen x.1) _ _ (vars_of_deeps of ts le) (λ us e. let g = (moves_mark m.LeftParen refl).nests x.1 us e in
      deeps_bind Q (parameters us) _ (parameters_deeps us (omega (arith, le, f, g))) (λ y r. let h = params_falls us y r in
      headed_deeps _ y.0.1 y.1 (omega (arith, le, f, g, h)))))

  item_deeps : (ts : List Token) → nesting ts + 0 ≤ most → Deeps Q (read_item ts)
  unfolding read_item
  item_deeps ts le = deeps_found Q (key k.Void ts) _ _
      (deeps_found Q (type_at ts) (Err Wrong) _ (deeps_wrong Q) (λ x type. let f = type_falls ts x type in item_of_deeps (Some x.0) x.1 (omega (arith, le, f))))
      (λ us e. let f = key_falls k.Void ts us e in item_of_deeps None us (omega (arith, le, f)))

item_falls : (ts : List Token) (x : (Item × ℕ) × List Token) → read_item ts ≡ Ok x → nesting x.1 ≤ nesting ts
unfolding item_shape
item_falls ts x e = let p = (item_sound ts).of x e in let f = (moves_item x.0.0).nests ts x.1 p.walks in omega (arith, f)

-- a unit is too deep only where at least 64 tokens nest
pub unit_deeps : (ts : List Token) → Deeps (64 ≤ nesting ts) (read_items ts)
unfolding read_items
unit_deeps ts = repeated_deeps (64 ≤ nesting ts) (nesting ts) 0 read_item (λ us le. item_deeps (nesting ts) us le) item_falls at_end (length ts + 1) ts (omega arith)
