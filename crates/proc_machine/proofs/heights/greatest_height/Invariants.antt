use Rattle.stack_code.specs.View.{seen_code}
use Rattle.proc_machine.proofs.Levels.{Covered}
use Rattle.proc_machine.proofs.heights.greatest_height.Given as goal

abbrev pub invariant-loop-function : goal.invariant-loop-function
invariant-loop-function l = Covered (seen_code l.fn.code) l.function l.most
