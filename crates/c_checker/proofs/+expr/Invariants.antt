use Rattle.std.proofs.Common.{◌≡◌, ◌+◌, ◌*◌, ◌≤◌, length, map}
use denote.Param.Weighed.{most}
use Rattle.std.specs.Prelude.{max}
use Rattle.c_tree.specs.declared.tree.Expr.{size-Expr}
use Rattle.c_checker.specs.Scope.{names_of}
use Rattle.c_checker.specs.Expressions as spec
use Rattle.c_checker.specs.Expressions.{part_of}
use Rattle.c_checker.proofs.+expr.Given as goal

abbrev pub decreases-expr::value : goal.decreases-expr::value
decreases-expr::value l = 8 * size-Expr l.e.now

abbrev pub decreases-expr::boxed : goal.decreases-expr::boxed
decreases-expr::boxed l = 8 * size-Expr l.e.now + 1

abbrev pub decreases-expr::place : goal.decreases-expr::place
decreases-expr::place l = 8 * size-Expr l.e.now

abbrev pub decreases-operators::target : goal.decreases-operators::target
decreases-operators::target l = 8 * size-Expr l.e.now + 1

abbrev pub decreases-expr::element : goal.decreases-expr::element
decreases-expr::element l = 8 * size-Expr l.index.now + 2

abbrev pub decreases-calls::argument : goal.decreases-calls::argument
decreases-calls::argument l = 8 * size-Expr l.arg.now + 1

abbrev pub decreases-operators::both : goal.decreases-operators::both
decreases-operators::both l = 8 * max (size-Expr l.left.now) (size-Expr l.right.now) + 2

abbrev pub decreases-operators::stored : goal.decreases-operators::stored
decreases-operators::stored l = 8 * max (size-Expr l.place.now) (size-Expr l.stored.now) + 2

abbrev pub decreases-operators::three : goal.decreases-operators::three
decreases-operators::three l = 8 * max (size-Expr l.first.now) (max (size-Expr l.second.now) (size-Expr l.third.now)) + 2

abbrev pub decreases-calls::arguments : goal.decreases-calls::arguments
decreases-calls::arguments l = 8 * most size-Expr l.args.now + 2

abbrev pub decreases-calls::call_function : goal.decreases-calls::call_function
decreases-calls::call_function l = 8 * most size-Expr l.args.now + 3

abbrev pub decreases-calls::call_simple : goal.decreases-calls::call_simple
decreases-calls::call_simple l = 8 * most size-Expr l.args.now + 3

abbrev pub decreases-calls::print_text : goal.decreases-calls::print_text
decreases-calls::print_text l = 8 * most size-Expr l.more.now + 3

abbrev pub decreases-calls::print : goal.decreases-calls::print
decreases-calls::print l = 8 * max (size-Expr l.first.now) (most size-Expr l.more.now) + 4

abbrev pub decreases-calls::call_printf : goal.decreases-calls::call_printf
decreases-calls::call_printf l = 8 * most size-Expr l.args.now + 5

abbrev pub decreases-calls::call_thing : goal.decreases-calls::call_thing
decreases-calls::call_thing l = 8 * most size-Expr l.args.now + 6

abbrev pub decreases-calls::call : goal.decreases-calls::call
decreases-calls::call l = 8 * most size-Expr l.args.now + 7

abbrev pub decreases-calls::values : goal.decreases-calls::values
decreases-calls::values l = 8 * most size-Expr l.args.now + 2

abbrev pub invariant-calls::values-loop-args : goal.invariant-calls::values-loop-args
invariant-calls::values-loop-args l =
    let part = part_of (names_of l.scope.entries.now l.scope.functions.now) in
    record {
      no_deeper : most size-Expr l.args ≤ most size-Expr l.fn.args;
      found : spec.values l.fn.list (map part l.fn.args) l.fn.texts ≡ spec.values l.list (map part l.args) l.texts;
    }

abbrev pub decreases-calls::values-loop-args : goal.decreases-calls::values-loop-args
decreases-calls::values-loop-args l = length l.args

abbrev pub invariant-calls::arguments-loop-args : goal.invariant-calls::arguments-loop-args
invariant-calls::arguments-loop-args l =
    let part = part_of (names_of l.scope.entries.now l.scope.functions.now) in
    record {
      no_deeper : most size-Expr l.args ≤ most size-Expr l.fn.args;
      paired : length l.params ≡ length l.args;
      found : spec.arguments l.fn.params l.fn.list (map part l.fn.args) l.fn.texts ≡ spec.arguments l.params l.list (map part l.args) l.texts;
    }

abbrev pub decreases-calls::arguments-loop-args : goal.decreases-calls::arguments-loop-args
decreases-calls::arguments-loop-args l = length l.args

abbrev pub decreases-operators::unary : goal.decreases-operators::unary
decreases-operators::unary l = 8 * size-Expr l.part.now + 2

abbrev pub decreases-operators::bump : goal.decreases-operators::bump
decreases-operators::bump l = 8 * size-Expr l.part.now + 2

abbrev pub decreases-operators::binary : goal.decreases-operators::binary
decreases-operators::binary l = 8 * max (size-Expr l.left.now) (size-Expr l.right.now) + 3

abbrev pub decreases-operators::and : goal.decreases-operators::and
decreases-operators::and l = 8 * max (size-Expr l.left.now) (size-Expr l.right.now) + 3

abbrev pub decreases-operators::or : goal.decreases-operators::or
decreases-operators::or l = 8 * max (size-Expr l.left.now) (size-Expr l.right.now) + 3

abbrev pub decreases-operators::comma : goal.decreases-operators::comma
decreases-operators::comma l = 8 * max (size-Expr l.left.now) (size-Expr l.right.now) + 3

abbrev pub decreases-operators::choose : goal.decreases-operators::choose
decreases-operators::choose l = 8 * max (size-Expr l.test.now) (max (size-Expr l.yes.now) (size-Expr l.no.now)) + 3

abbrev pub decreases-operators::assign : goal.decreases-operators::assign
decreases-operators::assign l = 8 * max (size-Expr l.place.now) (size-Expr l.value.now) + 3
