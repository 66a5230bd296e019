-- What the definitions of expressions say of each form.
use Rattle.std.proofs.Common.{◌≡◌, ℕ, Bool, List, Option, map, map, sym, ap, ◌∙◌}
use Rattle.nm_base.specs.declared.operator.Ctype.{Ctype}
use Rattle.nm_base.specs.declared.operator.BinaryOp.{BinaryOp}
use Rattle.nm_base.specs.declared.operator.UnaryOp.{UnaryOp}
use denote.Hole.Carrier.{out}
use Rattle.c_tree.specs.declared.tree.Expr.{Expr, roll-Expr, out-Expr, out-roll-Expr}
use Rattle.c_tree.specs.declared.tree.Expr.TheOpen.{Expr-F}
use Rattle.c_tree.specs.declared.tree.Expr.TheVariants as e
use Rattle.c_tree.specs.declared.tree.Expr.TheBlock.{the_family, the_fold, body-Expr, lays-Expr}
use Rattle.c_tree.specs.declared.tree.Expr.TheFolds.{family, steps, map-Expr, map_is-Expr}
use Rattle.c_parser.specs.Expr.{Phrase, expr_step, part_of}

pub part_roll : (x : Expr-F Expr) → part_of (roll-Expr x) ≡ expr_step (map-Expr Expr Phrase part_of x)
unfolding part_of out-Expr roll-Expr out
part_roll x =
    let A = family Phrase in
    let S = steps Phrase expr_step in
    lays-Expr A S (roll-Expr x)
    ∙ ap (λ l. expr_step ((body-Expr).map the_family A (the_fold A S) l)) (out-roll-Expr x)
    ∙ ap expr_step (map_is-Expr the_family A (the_fold A S) x)

pub part-Const : (bits : ℕ) (of : Ctype) (line : ℕ) → part_of (e.Const bits of line) ≡ expr_step (Expr-F.Const bits of line)
part-Const bits of line = sym (ap part_of (e.rolls-Const bits of line)) ∙ part_roll (Expr-F.Const bits of line)

pub part-Text : (bytes : List ℕ) (line : ℕ) → part_of (e.Text bytes line) ≡ expr_step (Expr-F.Text bytes line)
part-Text bytes line = sym (ap part_of (e.rolls-Text bytes line)) ∙ part_roll (Expr-F.Text bytes line)

pub part-Name : (name : List ℕ) (line : ℕ) → part_of (e.Name name line) ≡ expr_step (Expr-F.Name name line)
part-Name name line = sym (ap part_of (e.rolls-Name name line)) ∙ part_roll (Expr-F.Name name line)

pub part-At : (name : List ℕ) (index : Expr) (line : ℕ) → part_of (e.At name index line) ≡ expr_step (Expr-F.At name (part_of index) line)
part-At name index line = sym (ap part_of (e.rolls-At name index line)) ∙ part_roll (Expr-F.At name index line)

pub part-Call : (name : List ℕ) (args : List Expr) (line : ℕ) → part_of (e.Call name args line) ≡ expr_step (Expr-F.Call name (map part_of args) line)
part-Call name args line = sym (ap part_of (e.rolls-Call name args line)) ∙ part_roll (Expr-F.Call name args line)

pub part-Paren : (part : Expr) (line : ℕ) → part_of (e.Paren part line) ≡ expr_step (Expr-F.Paren (part_of part) line)
part-Paren part line = sym (ap part_of (e.rolls-Paren part line)) ∙ part_roll (Expr-F.Paren part line)

pub part-Unary : (op : UnaryOp) (part : Expr) (line : ℕ) → part_of (e.Unary op part line) ≡ expr_step (Expr-F.Unary op (part_of part) line)
part-Unary op part line = sym (ap part_of (e.rolls-Unary op part line)) ∙ part_roll (Expr-F.Unary op part line)

pub part-Bump : (up before : Bool) (part : Expr) (line : ℕ) → part_of (e.Bump up before part line) ≡ expr_step (Expr-F.Bump up before (part_of part) line)
part-Bump up before part line = sym (ap part_of (e.rolls-Bump up before part line)) ∙ part_roll (Expr-F.Bump up before part line)

pub part-Binary : (op : BinaryOp) (left right : Expr) (line : ℕ) → part_of (e.Binary op left right line) ≡ expr_step (Expr-F.Binary op (part_of left) (part_of right) line)
part-Binary op left right line = sym (ap part_of (e.rolls-Binary op left right line)) ∙ part_roll (Expr-F.Binary op left right line)

pub part-And : (left right : Expr) (line : ℕ) → part_of (e.And left right line) ≡ expr_step (Expr-F.And (part_of left) (part_of right) line)
part-And left right line = sym (ap part_of (e.rolls-And left right line)) ∙ part_roll (Expr-F.And left right line)

pub part-Or : (left right : Expr) (line : ℕ) → part_of (e.Or left right line) ≡ expr_step (Expr-F.Or (part_of left) (part_of right) line)
part-Or left right line = sym (ap part_of (e.rolls-Or left right line)) ∙ part_roll (Expr-F.Or left right line)

pub part-Choose : (test first second : Expr) (line : ℕ) → part_of (e.Choose test first second line) ≡ expr_step (Expr-F.Choose (part_of test) (part_of first) (part_of second) line)
part-Choose test first second line = sym (ap part_of (e.rolls-Choose test first second line)) ∙ part_roll (Expr-F.Choose test first second line)

pub part-Comma : (left right : Expr) (line : ℕ) → part_of (e.Comma left right line) ≡ expr_step (Expr-F.Comma (part_of left) (part_of right) line)
part-Comma left right line = sym (ap part_of (e.rolls-Comma left right line)) ∙ part_roll (Expr-F.Comma left right line)

pub part-Assign : (op : Option BinaryOp) (place value : Expr) (line : ℕ) → part_of (e.Assign op place value line) ≡ expr_step (Expr-F.Assign op (part_of place) (part_of value) line)
part-Assign op place value line = sym (ap part_of (e.rolls-Assign op place value line)) ∙ part_roll (Expr-F.Assign op place value line)
