use Rattle.std.proofs.Common.{drop}
use Rattle.cut_witness.specs.private.Queries.{meets, NonePasses}
use Rattle.cut_witness.proofs.query.last.Given as goal

abbrev pub invariant-loop-i : goal.invariant-loop-i
invariant-loop-i l = NonePasses (meets l.query) (drop l.i l.events.events)
