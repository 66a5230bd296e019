use Rattle.std.proofs.Common.{drop}
use Rattle.c_compile.specs.ExprCode.{Shape}
use Rattle.c_compile.specs.private.Emitted.{code_of_labels}
use Rattle.c_compile.specs.private.Body.{IsLaidOut}
use Rattle.c_compile.proofs.Bodies.{Onward}
use Rattle.c_compile.proofs.stmt_parts.put_labels.Given as goal

abbrev pub invariant-loop-label : goal.invariant-loop-label
invariant-loop-label l = IsLaidOut l.body × ((sh : Shape) → Onward l.initial.body l.body (code_of_labels sh (drop l.label-index l.labels) l.target) (code_of_labels sh l.labels l.target))
