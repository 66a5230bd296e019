use Rattle.std.proofs.Common.{◌≡◌, ℕ, ◌+◌, ◌*◌, ◌≤◌, [], length, map, Option, None, Some}
use Rattle.std.specs.Prelude.{max}
use denote.Param.Weighed.{most}
use Rattle.c_tree.specs.declared.tree.Stmt.{Stmt, size-Stmt}
use Rattle.c_tree.specs.declared.tree.Arm.{size-Arm}
use Rattle.c_checker.specs.Statements as spec
use Rattle.c_checker.specs.Statements.{stmt_of, arm_of}
use Rattle.c_checker.proofs.stmts.+stmt.Given as goal

abbrev size_option : Option Stmt → ℕ
size_option None = 0
size_option (Some s) = size-Stmt s

abbrev pub decreases-stmt : goal.decreases-stmt
decreases-stmt l = 8 * size-Stmt l.s.now

abbrev pub decreases-part : goal.decreases-part
decreases-part l = 8 * size-Stmt l.inner.now + 1

abbrev pub decreases-else_part : goal.decreases-else_part
decreases-else_part l = 8 * size_option l.inner.now + 2

abbrev pub decreases-if_stmt : goal.decreases-if_stmt
decreases-if_stmt l = 8 * max (size-Stmt l.yes.now) (size_option l.no.now) + 3

abbrev pub decreases-while_stmt : goal.decreases-while_stmt
decreases-while_stmt l = 8 * size-Stmt l.inner.now + 2

abbrev pub decreases-do_stmt : goal.decreases-do_stmt
decreases-do_stmt l = 8 * size-Stmt l.inner.now + 2

abbrev pub decreases-for_stmt : goal.decreases-for_stmt
decreases-for_stmt l = 8 * size-Stmt l.inner.now + 2

abbrev pub decreases-sequence : goal.decreases-sequence
decreases-sequence l = 8 * most size-Stmt l.list.now + 1

abbrev pub decreases-block_from : goal.decreases-block_from
decreases-block_from l = 8 * most size-Stmt l.list.now + 2

abbrev pub decreases-block : goal.decreases-block
decreases-block l = 8 * most size-Stmt l.list.now + 3

abbrev pub decreases-arm : goal.decreases-arm
decreases-arm l = 8 * size-Arm l.arm.now

abbrev pub decreases-arms : goal.decreases-arms
decreases-arms l = 8 * most size-Arm l.arms.now + 1

abbrev pub decreases-switch_stmt : goal.decreases-switch_stmt
decreases-switch_stmt l = 8 * most size-Arm l.list.now + 2

abbrev pub invariant-sequence-loop-list : goal.invariant-sequence-loop-list
invariant-sequence-loop-list l =
    let part = stmt_of l.within.functions.now l.within.returns in
    record {
      no_deeper : most size-Stmt l.list ≤ most size-Stmt l.fn.list;
      found : spec.sequence [] (map part l.fn.list) l.around l.fn.body ≡ spec.sequence l.done (map part l.list) l.around l.body;
    }

abbrev pub decreases-sequence-loop-list : goal.decreases-sequence-loop-list
decreases-sequence-loop-list l = length l.list

abbrev pub invariant-arms-loop-arms : goal.invariant-arms-loop-arms
invariant-arms-loop-arms l =
    let part = arm_of l.within.functions.now l.within.returns in
    record {
      no_deeper : most size-Arm l.arms ≤ most size-Arm l.fn.arms;
      found : spec.arms (map part l.fn.arms) [] [] l.line l.around l.fn.body ≡ spec.arms (map part l.arms) l.before l.done l.line l.around l.body;
    }

abbrev pub decreases-arms-loop-arms : goal.decreases-arms-loop-arms
decreases-arms-loop-arms l = length l.arms
