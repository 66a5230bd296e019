-- What the definitions of expressions say of each form.
use Rattle.std.proofs.Common.{◌≡◌, ℕ, Bool, List, Option, map, sym, ap, ◌∙◌}
use Rattle.nm_base.specs.declared.operator.Ctype.{Ctype}
use Rattle.nm_base.specs.declared.operator.BinaryOp.{BinaryOp}
use Rattle.nm_base.specs.declared.operator.UnaryOp.{UnaryOp}
use denote.Hole.Carrier.{out}
use Rattle.c_tree.specs.declared.tree.Expr.{Expr, roll-Expr, out-Expr, out-roll-Expr}
use Rattle.c_tree.specs.declared.tree.Expr.TheOpen.{Expr-F}
use Rattle.c_tree.specs.declared.tree.Expr.TheVariants as e
use Rattle.c_tree.specs.declared.tree.Expr.TheBlock.{the_family, the_fold, body-Expr, lays-Expr, laid-Expr}
use Rattle.c_tree.specs.declared.tree.Expr.TheFolds.{family, steps, map-Expr, map_is-Expr}
use Rattle.c_checker.specs.declared.constants.Constant.{Constant}
use Rattle.c_checker.specs.Constants.{constant_step, constant_of}
use Rattle.c_checker.specs.Scope.{ScopeNames}
use Rattle.c_checker.specs.Expressions.{ExprCheck, part_step, part_of}

module _ {A : Type 0} (step : Expr-F A → A) where
  abbrev laid : Expr → A
  laid x = laid-Expr (family A) (steps A step) x

  laid_roll : (x : Expr-F Expr) → laid (roll-Expr x) ≡ step (map-Expr Expr A laid x)
  unfolding out-Expr roll-Expr out
  laid_roll x =
      lays-Expr (family A) (steps A step) (roll-Expr x)
      ∙ ap (λ l. step ((body-Expr).map the_family (family A) (the_fold (family A) (steps A step)) l)) (out-roll-Expr x)
      ∙ ap step (map_is-Expr the_family (family A) (the_fold (family A) (steps A step)) x)

constant_roll : (x : Expr-F Expr) → constant_of (roll-Expr x) ≡ constant_step (map-Expr Expr (Option Constant) constant_of x)
unfolding constant_of
constant_roll x = laid_roll constant_step x

pub part_roll : (names : ScopeNames) (x : Expr-F Expr) → part_of names (roll-Expr x) ≡ part_step names (map-Expr Expr ExprCheck (part_of names) x)
unfolding part_of
part_roll names x = laid_roll (part_step names) x

pub constant_const : (bits : ℕ) (of : Ctype) (line : ℕ) → constant_of (e.Const bits of line) ≡ constant_step (Expr-F.Const bits of line)
constant_const bits of line = sym (ap (constant_of) (e.rolls-Const bits of line)) ∙ constant_roll (Expr-F.Const bits of line)

pub constant_text : (bytes : List ℕ) (line : ℕ) → constant_of (e.Text bytes line) ≡ constant_step (Expr-F.Text bytes line)
constant_text bytes line = sym (ap (constant_of) (e.rolls-Text bytes line)) ∙ constant_roll (Expr-F.Text bytes line)

pub constant_name : (name : List ℕ) (line : ℕ) → constant_of (e.Name name line) ≡ constant_step (Expr-F.Name name line)
constant_name name line = sym (ap (constant_of) (e.rolls-Name name line)) ∙ constant_roll (Expr-F.Name name line)

pub constant_at : (name : List ℕ) (index : Expr) (line : ℕ) → constant_of (e.At name index line) ≡ constant_step (Expr-F.At name (constant_of index) line)
constant_at name index line = sym (ap (constant_of) (e.rolls-At name index line)) ∙ constant_roll (Expr-F.At name index line)

pub constant_call : (name : List ℕ) (args : List Expr) (line : ℕ) → constant_of (e.Call name args line) ≡ constant_step (Expr-F.Call name (map (constant_of) args) line)
constant_call name args line = sym (ap (constant_of) (e.rolls-Call name args line)) ∙ constant_roll (Expr-F.Call name args line)

pub constant_paren : (part : Expr) (line : ℕ) → constant_of (e.Paren part line) ≡ constant_step (Expr-F.Paren (constant_of part) line)
constant_paren part line = sym (ap (constant_of) (e.rolls-Paren part line)) ∙ constant_roll (Expr-F.Paren part line)

pub constant_unary : (op : UnaryOp) (part : Expr) (line : ℕ) → constant_of (e.Unary op part line) ≡ constant_step (Expr-F.Unary op (constant_of part) line)
constant_unary op part line = sym (ap (constant_of) (e.rolls-Unary op part line)) ∙ constant_roll (Expr-F.Unary op part line)

pub constant_bump : (up : Bool) (before : Bool) (part : Expr) (line : ℕ) → constant_of (e.Bump up before part line) ≡ constant_step (Expr-F.Bump up before (constant_of part) line)
constant_bump up before part line = sym (ap (constant_of) (e.rolls-Bump up before part line)) ∙ constant_roll (Expr-F.Bump up before part line)

pub constant_binary : (op : BinaryOp) (left : Expr) (right : Expr) (line : ℕ) → constant_of (e.Binary op left right line) ≡ constant_step (Expr-F.Binary op (constant_of left) (constant_of right) line)
constant_binary op left right line = sym (ap (constant_of) (e.rolls-Binary op left right line)) ∙ constant_roll (Expr-F.Binary op left right line)

pub constant_and : (left : Expr) (right : Expr) (line : ℕ) → constant_of (e.And left right line) ≡ constant_step (Expr-F.And (constant_of left) (constant_of right) line)
constant_and left right line = sym (ap (constant_of) (e.rolls-And left right line)) ∙ constant_roll (Expr-F.And left right line)

pub constant_or : (left : Expr) (right : Expr) (line : ℕ) → constant_of (e.Or left right line) ≡ constant_step (Expr-F.Or (constant_of left) (constant_of right) line)
constant_or left right line = sym (ap (constant_of) (e.rolls-Or left right line)) ∙ constant_roll (Expr-F.Or left right line)

pub constant_choose : (test : Expr) (first : Expr) (second : Expr) (line : ℕ)
    → constant_of (e.Choose test first second line) ≡ constant_step (Expr-F.Choose (constant_of test) (constant_of first) (constant_of second) line)
constant_choose test first second line = sym (ap (constant_of) (e.rolls-Choose test first second line)) ∙ constant_roll (Expr-F.Choose test first second line)

pub constant_comma : (left : Expr) (right : Expr) (line : ℕ) → constant_of (e.Comma left right line) ≡ constant_step (Expr-F.Comma (constant_of left) (constant_of right) line)
constant_comma left right line = sym (ap (constant_of) (e.rolls-Comma left right line)) ∙ constant_roll (Expr-F.Comma left right line)

pub constant_assign : (op : Option BinaryOp) (place : Expr) (value : Expr) (line : ℕ)
    → constant_of (e.Assign op place value line) ≡ constant_step (Expr-F.Assign op (constant_of place) (constant_of value) line)
constant_assign op place value line = sym (ap (constant_of) (e.rolls-Assign op place value line)) ∙ constant_roll (Expr-F.Assign op place value line)

pub part_const : (names : ScopeNames) (bits : ℕ) (of : Ctype) (line : ℕ) → part_of names (e.Const bits of line) ≡ part_step names (Expr-F.Const bits of line)
part_const names bits of line = sym (ap (part_of names) (e.rolls-Const bits of line)) ∙ part_roll names (Expr-F.Const bits of line)

pub part_text : (names : ScopeNames) (bytes : List ℕ) (line : ℕ) → part_of names (e.Text bytes line) ≡ part_step names (Expr-F.Text bytes line)
part_text names bytes line = sym (ap (part_of names) (e.rolls-Text bytes line)) ∙ part_roll names (Expr-F.Text bytes line)

pub part_name : (names : ScopeNames) (name : List ℕ) (line : ℕ) → part_of names (e.Name name line) ≡ part_step names (Expr-F.Name name line)
part_name names name line = sym (ap (part_of names) (e.rolls-Name name line)) ∙ part_roll names (Expr-F.Name name line)

pub part_at : (names : ScopeNames) (name : List ℕ) (index : Expr) (line : ℕ) → part_of names (e.At name index line) ≡ part_step names (Expr-F.At name (part_of names index) line)
part_at names name index line = sym (ap (part_of names) (e.rolls-At name index line)) ∙ part_roll names (Expr-F.At name index line)

pub part_call : (names : ScopeNames) (name : List ℕ) (args : List Expr) (line : ℕ) → part_of names (e.Call name args line) ≡ part_step names (Expr-F.Call name (map (part_of names) args) line)
part_call names name args line = sym (ap (part_of names) (e.rolls-Call name args line)) ∙ part_roll names (Expr-F.Call name args line)

pub part_paren : (names : ScopeNames) (part : Expr) (line : ℕ) → part_of names (e.Paren part line) ≡ part_step names (Expr-F.Paren (part_of names part) line)
part_paren names part line = sym (ap (part_of names) (e.rolls-Paren part line)) ∙ part_roll names (Expr-F.Paren part line)

pub part_unary : (names : ScopeNames) (op : UnaryOp) (part : Expr) (line : ℕ) → part_of names (e.Unary op part line) ≡ part_step names (Expr-F.Unary op (part_of names part) line)
part_unary names op part line = sym (ap (part_of names) (e.rolls-Unary op part line)) ∙ part_roll names (Expr-F.Unary op part line)

pub part_bump : (names : ScopeNames) (up : Bool) (before : Bool) (part : Expr) (line : ℕ) → part_of names (e.Bump up before part line) ≡ part_step names (Expr-F.Bump up before (part_of names part) line)
part_bump names up before part line = sym (ap (part_of names) (e.rolls-Bump up before part line)) ∙ part_roll names (Expr-F.Bump up before part line)

pub part_binary : (names : ScopeNames) (op : BinaryOp) (left : Expr) (right : Expr) (line : ℕ)
    → part_of names (e.Binary op left right line) ≡ part_step names (Expr-F.Binary op (part_of names left) (part_of names right) line)
part_binary names op left right line = sym (ap (part_of names) (e.rolls-Binary op left right line)) ∙ part_roll names (Expr-F.Binary op left right line)

pub part_and : (names : ScopeNames) (left : Expr) (right : Expr) (line : ℕ) → part_of names (e.And left right line) ≡ part_step names (Expr-F.And (part_of names left) (part_of names right) line)
part_and names left right line = sym (ap (part_of names) (e.rolls-And left right line)) ∙ part_roll names (Expr-F.And left right line)

pub part_or : (names : ScopeNames) (left : Expr) (right : Expr) (line : ℕ) → part_of names (e.Or left right line) ≡ part_step names (Expr-F.Or (part_of names left) (part_of names right) line)
part_or names left right line = sym (ap (part_of names) (e.rolls-Or left right line)) ∙ part_roll names (Expr-F.Or left right line)

pub part_choose : (names : ScopeNames) (test : Expr) (first : Expr) (second : Expr) (line : ℕ)
    → part_of names (e.Choose test first second line) ≡ part_step names (Expr-F.Choose (part_of names test) (part_of names first) (part_of names second) line)
part_choose names test first second line = sym (ap (part_of names) (e.rolls-Choose test first second line)) ∙ part_roll names (Expr-F.Choose test first second line)

pub part_comma : (names : ScopeNames) (left : Expr) (right : Expr) (line : ℕ) → part_of names (e.Comma left right line) ≡ part_step names (Expr-F.Comma (part_of names left) (part_of names right) line)
part_comma names left right line = sym (ap (part_of names) (e.rolls-Comma left right line)) ∙ part_roll names (Expr-F.Comma left right line)

pub part_assign : (names : ScopeNames) (op : Option BinaryOp) (place : Expr) (value : Expr) (line : ℕ)
    → part_of names (e.Assign op place value line) ≡ part_step names (Expr-F.Assign op (part_of names place) (part_of names value) line)
part_assign names op place value line = sym (ap (part_of names) (e.rolls-Assign op place value line)) ∙ part_roll names (Expr-F.Assign op place value line)

pub ruleset constant_forms = (
  constant_const,
  constant_text,
  constant_name,
  constant_at,
  constant_call,
  constant_paren,
  constant_unary,
  constant_bump,
  constant_binary,
  constant_and,
  constant_or,
  constant_choose,
  constant_comma,
  constant_assign,
)

pub ruleset part_forms = (part_const, part_text, part_name, part_at, part_call, part_paren, part_unary, part_bump, part_binary, part_and, part_or, part_choose, part_comma, part_assign)
