use Rattle.std.proofs.Common.{drop}
use Rattle.c_compile.specs.private.Emitted.{shape_of, code_of_zeros}
use Rattle.c_compile.proofs.Bodies.{Onward}
use Rattle.c_compile.proofs.stmt_parts.put_zeros.Given as goal

abbrev pub invariant-loop-local : goal.invariant-loop-local
invariant-loop-local l = Onward l.initial.body l.body (code_of_zeros (shape_of l.scope) (drop l.local-index l.locals)) (code_of_zeros (shape_of l.scope) l.locals)
