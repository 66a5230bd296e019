-- Declarations and statements: their tokens, their heights, and the rule on `else`.
use Rattle.std.specs.Prelude.{ℕ, suc, max, Bool, true, false, not, ◌&&◌, if◌then◌else◌, List, [], ◌∷◌, Option, Some, None}
use Rattle.std.specs.List.{list_all}
use Rattle.nm_base.specs.declared.operator.Ctype.{Ctype}
use Rattle.nm_base.specs.declared.operator.Ctype.TheVariants.{Int, Unsigned}
use Rattle.c_lexer.specs.declared.token.Token.{Token}
use Rattle.c_lexer.specs.declared.token.Key.TheVariants as k
use Rattle.c_lexer.specs.declared.token.Mark.TheVariants as m
use Rattle.c_tree.specs.declared.tree.Expr.{Expr}
use Rattle.c_tree.specs.declared.tree.Declr.{Declr}
use Rattle.c_tree.specs.declared.tree.Vars.{Vars}
use Rattle.c_tree.specs.declared.tree.Label.{Label}
use Rattle.c_tree.specs.declared.tree.Arm.{Arm}
use Rattle.c_tree.specs.declared.tree.Stmt.{Stmt}
use Rattle.c_tree.specs.declared.tree.Stmt.TheOpen.{Stmt-F, Arm-F}
use Rattle.c_tree.specs.declared.tree.Stmt.TheBlock.{laid-Stmt, laid-Arm}
use Rattle.c_tree.specs.declared.tree.Stmt.TheFolds.{family, steps}
use Rattle.c_parser.specs.Tokens.{is_key}
use Rattle.c_parser.specs.Walk.{Walk, ◌>>◌, stay, nowhere, mark, key, named, each, listed, on}
use Rattle.c_parser.specs.Expr.{fits_at, part_of}

-- the greatest height
abbrev pub highest : {A : Type 0} → (A → ℕ) → List A → ℕ
highest height [] = 0
highest height (x ∷ xs) = max (height x) (highest height xs)

abbrev pub is_empty : {A : Type 0} → List A → Bool
is_empty [] = true
is_empty (x ∷ xs) = false

-- ---- parts that may be missing

abbrev pub any_walk : Option Expr → Walk
any_walk None = stay
any_walk (Some x) = (part_of x).walk

abbrev pub any_height : Option Expr → ℕ
any_height None = 0
any_height (Some x) = (part_of x).height

abbrev pub any_fits : ℕ → Option Expr → Bool
any_fits level None = true
any_fits level (Some x) = fits_at level (part_of x)

-- ---- declarations

-- `int` may stand after `signed` and `unsigned`
abbrev pub past_int : List Token → List Token
past_int [] = []
past_int (t ∷ ts) = if is_key k.Int t.kind then ts else t ∷ ts

abbrev pub type_walk : Ctype → Walk
type_walk of [] = None
type_walk Int (t ∷ ts) =
    if is_key k.Int t.kind then Some ts else (if is_key k.Signed t.kind then Some (past_int ts) else None)
type_walk Unsigned (t ∷ ts) = if is_key k.Unsigned t.kind then Some (past_int ts) else None

abbrev pub declr_end : Option Expr → Option Expr → Walk
declr_end None None = stay
declr_end None (Some start) = mark m.Assign >> (part_of start).walk
declr_end (Some size) None = mark m.LeftBracket >> (part_of size).walk >> mark m.RightBracket
declr_end (Some size) (Some start) = nowhere

abbrev pub declr_walk : Declr → Walk
declr_walk d = on d.line >> named d.name >> declr_end d.size d.start

abbrev pub declr_fits : Declr → Bool
declr_fits d = any_fits 12 d.size && any_fits 13 d.start

abbrev pub declr_height : Declr → ℕ
declr_height d = max (any_height d.size) (any_height d.start)

abbrev pub vars_walk : Vars → Walk
vars_walk v = type_walk v.of >> listed declr_walk v.list >> mark m.Semicolon

abbrev pub vars_fit : Vars → Bool
vars_fit v = list_all declr_fits v.list

abbrev pub vars_height : Vars → ℕ
vars_height v = highest declr_height v.list

-- ---- labels

-- a label without a value is `default`
abbrev pub value_walk : Option Expr → Walk
value_walk None = key k.Default
value_walk (Some x) = key k.Case >> (part_of x).walk

abbrev pub label_walk : Label → Walk
label_walk l = on l.line >> value_walk l.value >> mark m.Colon

abbrev pub label_fits : Label → Bool
label_fits l = any_fits 12 l.value

abbrev pub label_height : Label → ℕ
label_height l = any_height l.value

-- ---- statements

pub record StmtPart : Type 0 where
  pub walk : Walk
  pub height : ℕ
  pub fits : Bool
  -- it ends with an `if` that an `else` would belong to
  pub takes_else : Bool
  pub is_block : Bool

pub record ArmPart : Type 0 where
  pub walk : Walk
  pub height : ℕ
  pub fits : Bool

abbrev pub leaf_stmt : Walk → StmtPart
leaf_stmt walk = record { walk = walk; height = 1; fits = true; takes_else = false; is_block = false }

abbrev pub else_walk : Option StmtPart → Walk
else_walk None = stay
else_walk (Some x) = key k.Else >> x.walk

abbrev pub else_height : Option StmtPart → ℕ
else_height None = 0
else_height (Some x) = x.height

-- what stands before an `else` doesn't take it itself
abbrev pub else_fits : StmtPart → Option StmtPart → Bool
else_fits first None = true
else_fits first (Some second) = not first.takes_else && second.fits

abbrev pub else_takes : Option StmtPart → Bool
else_takes None = true
else_takes (Some second) = second.takes_else

abbrev pub returned_height : Option Expr → ℕ
returned_height None = 1
returned_height (Some x) = suc (part_of x).height

abbrev pub stmt_step : Stmt-F StmtPart ArmPart → StmtPart
stmt_step (Stmt-F.Block locals list line) = record {
  walk =
      on line >> mark m.LeftBrace >> each vars_walk locals >> each (λ (x : StmtPart). x.walk) list >> mark m.RightBrace;
  height = suc (max (highest vars_height locals) (highest (λ (x : StmtPart). x.height) list));
  fits = list_all vars_fit locals && list_all (λ (x : StmtPart). x.fits) list;
  takes_else = false;
  is_block = true;
}
stmt_step (Stmt-F.Empty line) = leaf_stmt (on line >> mark m.Semicolon)
stmt_step (Stmt-F.Run part line) = record {
  walk = on line >> (part_of part).walk >> mark m.Semicolon;
  height = suc (part_of part).height;
  fits = fits_at 14 (part_of part);
  takes_else = false;
  is_block = false;
}
stmt_step (Stmt-F.If test first second line) = record {
  walk = on line >> key k.If >> mark m.LeftParen >> (part_of test).walk >> mark m.RightParen >> first.walk
      >> else_walk second;
  height = suc (max (part_of test).height (max first.height (else_height second)));
  fits = fits_at 14 (part_of test) && first.fits && else_fits first second;
  takes_else = else_takes second;
  is_block = false;
}
stmt_step (Stmt-F.While test body line) = record {
  walk = on line >> key k.While >> mark m.LeftParen >> (part_of test).walk >> mark m.RightParen >> body.walk;
  height = suc (max (part_of test).height body.height);
  fits = fits_at 14 (part_of test) && body.fits;
  takes_else = body.takes_else;
  is_block = false;
}
stmt_step (Stmt-F.Do body test line) = record {
  walk = on line >> key k.Do >> body.walk >> key k.While >> mark m.LeftParen >> (part_of test).walk >> mark m.RightParen
      >> mark m.Semicolon;
  height = suc (max body.height (part_of test).height);
  fits = body.fits && fits_at 14 (part_of test);
  takes_else = false;
  is_block = false;
}
stmt_step (Stmt-F.For start test third body line) = record {
  walk = on line >> key k.For >> mark m.LeftParen >> any_walk start >> mark m.Semicolon >> any_walk test
      >> mark m.Semicolon
      >> any_walk third >> mark m.RightParen >> body.walk;
  height = suc (max (any_height start) (max (any_height test) (max (any_height third) body.height)));
  fits = any_fits 14 start && any_fits 14 test && any_fits 14 third && body.fits;
  takes_else = body.takes_else;
  is_block = false;
}
stmt_step (Stmt-F.Break line) = leaf_stmt (on line >> key k.Break >> mark m.Semicolon)
stmt_step (Stmt-F.Continue line) = leaf_stmt (on line >> key k.Continue >> mark m.Semicolon)
stmt_step (Stmt-F.Return value line) = record {
  walk = on line >> key k.Return >> any_walk value >> mark m.Semicolon;
  height = returned_height value;
  fits = any_fits 14 value;
  takes_else = false;
  is_block = false;
}
stmt_step (Stmt-F.Switch test arms line) = record {
  walk = on line >> key k.Switch >> mark m.LeftParen >> (part_of test).walk >> mark m.RightParen
      >> mark m.LeftBrace >> each (λ (x : ArmPart). x.walk) arms >> mark m.RightBrace;
  height = suc (max (part_of test).height (highest (λ (x : ArmPart). x.height) arms));
  fits = fits_at 14 (part_of test) && list_all (λ (x : ArmPart). x.fits) arms;
  takes_else = false;
  is_block = false;
}

-- an arm has at least one label and at least one statement
abbrev pub arm_step : Arm-F StmtPart ArmPart → ArmPart
arm_step arm = record {
  walk = each label_walk arm.labels >> each (λ (x : StmtPart). x.walk) arm.list;
  height = max (highest label_height arm.labels) (highest (λ (x : StmtPart). x.height) arm.list);
  fits = (not (is_empty arm.labels) && list_all label_fits arm.labels)
      && (not (is_empty arm.list) && list_all (λ (x : StmtPart). x.fits) arm.list);
}

unfoldable pub stmt_part : Stmt → StmtPart
stmt_part x = laid-Stmt (family StmtPart ArmPart) (steps StmtPart ArmPart stmt_step arm_step) x

unfoldable pub arm_part : Arm → ArmPart
arm_part x = laid-Arm (family StmtPart ArmPart) (steps StmtPart ArmPart stmt_step arm_step) x
