use Rattle.std.proofs.Common.{drop}
use Rattle.c_compile.specs.private.Emitted.{shape_of, code_of_cases}
use Rattle.c_compile.proofs.Bodies.{Onward}
use Rattle.c_compile.proofs.stmt_parts.put_cases.Given as goal

abbrev pub invariant-loop-arm : goal.invariant-loop-arm
invariant-loop-arm l = Onward l.initial.body l.body (code_of_cases (shape_of l.scope) (drop l.arm-index l.arms) l.start) (code_of_cases (shape_of l.scope) l.arms l.first)
