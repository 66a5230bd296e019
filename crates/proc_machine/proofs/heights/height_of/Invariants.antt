use Rattle.stack_code.specs.View.{seen_code}
use Rattle.proc_machine.proofs.Levels.{Seen}
use Rattle.proc_machine.proofs.heights.height_of.Given as goal

abbrev pub invariant-loop-place : goal.invariant-loop-place
invariant-loop-place l = Seen (seen_code l.fn.code) l.function l.place l.most l.level
