use Rattle.stack_code.specs.View.{seen_code}
use Rattle.c_process.specs.Begun.{AreBegun}
use Rattle.c_process.proofs.seats.seats_of.Given as goal

abbrev pub invariant-loop-me : goal.invariant-loop-me
invariant-loop-me l = AreBegun (seen_code l.code) l.n l.me l.seats.items
