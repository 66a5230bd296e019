use Rattle.std.proofs.Common.{◌+◌, ◌*◌, drop}
use Rattle.std.specs.Prelude.{max}
use denote.Param.Weighed.{most}
use Rattle.c_tree.specs.declared.program.PStmt.{size-PStmt}
use Rattle.c_tree.specs.declared.program.PArm.{size-PArm}
use Rattle.c_compile.specs.private.Emitted.{shape_of, code_of_list, code_of_arms}
use Rattle.c_compile.proofs.Bodies.{Onward}
use Rattle.c_compile.proofs.stmt.+stmt.Given as goal

abbrev pub decreases-emit_stmt : goal.decreases-emit_stmt
decreases-emit_stmt l = 8 * size-PStmt l.s.now

abbrev pub decreases-emit_if : goal.decreases-emit_if
decreases-emit_if l = 8 * size-PStmt l.yes.now + 1

abbrev pub decreases-emit_if_else : goal.decreases-emit_if_else
decreases-emit_if_else l = 8 * max (size-PStmt l.yes.now) (size-PStmt l.no.now) + 1

abbrev pub decreases-emit_while : goal.decreases-emit_while
decreases-emit_while l = 8 * size-PStmt l.inner.now + 1

abbrev pub decreases-emit_do : goal.decreases-emit_do
decreases-emit_do l = 8 * size-PStmt l.inner.now + 1

abbrev pub decreases-emit_for : goal.decreases-emit_for
decreases-emit_for l = 8 * size-PStmt l.inner.now + 1

abbrev pub decreases-emit_list : goal.decreases-emit_list
decreases-emit_list l = 8 * most size-PStmt l.list.now + 1

abbrev pub decreases-emit_inside : goal.decreases-emit_inside
decreases-emit_inside l = 8 * most size-PStmt l.list.now + 2

abbrev pub decreases-emit_block : goal.decreases-emit_block
decreases-emit_block l = 8 * most size-PStmt l.list.now + 3

abbrev pub decreases-emit_arms : goal.decreases-emit_arms
decreases-emit_arms l = 8 * most size-PArm l.arms.now + 2

abbrev pub decreases-emit_switch : goal.decreases-emit_switch
decreases-emit_switch l = 8 * most size-PArm l.arms.now + 3

abbrev pub invariant-emit_list-loop-s : goal.invariant-emit_list-loop-s
invariant-emit_list-loop-s l = Onward l.initial.body l.body (code_of_list (shape_of l.scope) (drop l.s-index l.list) l.exits) (code_of_list (shape_of l.scope) l.list l.exits)

abbrev pub invariant-emit_arms-loop-arm : goal.invariant-emit_arms-loop-arm
invariant-emit_arms-loop-arm l = Onward l.initial.body l.body (code_of_arms (shape_of l.scope) (drop l.arm-index l.arms) l.exits) (code_of_arms (shape_of l.scope) l.arms l.exits)
