-- Constant expressions.
use Rattle.std.specs.Prelude.{ℕ, ◌==◌, if◌then◌else◌, Option, Some, None, Result, Ok, Err, option_map, option_and_then}
use Rattle.nm_base.specs.declared.operator.Ctype.TheVariants.{Int}
use Rattle.nm_base.specs.declared.operator.UnaryOp.{UnaryOp}
use Rattle.nm_base.specs.declared.operator.BinaryOp.{BinaryOp}
use Rattle.nm_base.specs.declared.kind.FaultCause.{FaultCause}
use Rattle.nm_base.specs.Word.{unary, binary, operation_type, common_type}
use Rattle.c_tree.specs.Typing.{unary_type, binary_type}
use Rattle.c_tree.specs.declared.tree.Expr.{Expr}
use Rattle.c_tree.specs.declared.tree.Expr.TheOpen.{Expr-F}
use Rattle.c_tree.specs.declared.tree.Expr.TheBlock.{laid-Expr}
use Rattle.c_tree.specs.declared.tree.Expr.TheFolds.{family, steps}
use Rattle.c_checker.specs.declared.constants.Constant.{Constant}

abbrev pub unless_fault : Result ℕ FaultCause → Option ℕ
unless_fault (Ok x) = Some x
unless_fault (Err cause) = None

abbrev pub unary_constant : UnaryOp → Constant → Constant
unary_constant op a = record {
  of = unary_type op a.of;
  bits = option_and_then (λ x. unless_fault (unary op a.of x)) a.bits;
}

abbrev pub binary_constant : BinaryOp → Constant → Constant → Constant
binary_constant op a b = record {
  of = binary_type op a.of b.of;
  bits = option_and_then
      (λ x. option_and_then (λ y. unless_fault (binary op (operation_type op a.of b.of) x y)) b.bits) a.bits;
}

-- 1 or 0
abbrev pub truth_of : Option ℕ → Option ℕ
truth_of bits = option_map (λ x. if x == 0 then 0 else 1) bits

-- the second operand is evaluated only where it is needed
abbrev pub and_constant : Constant → Constant → Constant
and_constant a b = record { of = Int; bits = option_and_then (λ x. if x == 0 then Some 0 else truth_of b.bits) a.bits }

abbrev pub or_constant : Constant → Constant → Constant
or_constant a b = record { of = Int; bits = option_and_then (λ x. if x == 0 then truth_of b.bits else Some 1) a.bits }

abbrev pub chosen_constant : Constant → Constant → Constant → Constant
chosen_constant test a b = record {
  of = common_type a.of b.of;
  bits = option_and_then (λ x. if x == 0 then b.bits else a.bits) test.bits;
}

abbrev pub on_both : (Constant → Constant → Constant) → Option Constant → Option Constant → Option Constant
on_both f a b = option_and_then (λ x. option_map (f x) b) a

abbrev pub constant_step : Expr-F (Option Constant) → Option Constant
constant_step (Expr-F.Const bits of line) = Some (record { of = of; bits = Some bits })
constant_step (Expr-F.Paren part line) = part
constant_step (Expr-F.Unary op part line) = option_map (unary_constant op) part
constant_step (Expr-F.Binary op left right line) = on_both (binary_constant op) left right
constant_step (Expr-F.And left right line) = on_both and_constant left right
constant_step (Expr-F.Or left right line) = on_both or_constant left right
constant_step (Expr-F.Choose test first second line) =
    option_and_then (λ x. on_both (chosen_constant x) first second) test
constant_step other = None

-- the constant that an expression stands for, or nothing where it is not made of constants
unfoldable pub constant_of : Expr → Option Constant
constant_of e = laid-Expr (family (Option Constant)) (steps (Option Constant) constant_step) e
