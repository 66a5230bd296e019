use Rattle.mailboxes.specs.Queues.{is_ready, IsLeastBelow}
use Rattle.mailboxes.proofs.ready.first_ready.Given as goal

abbrev pub invariant-loop-chan : goal.invariant-loop-chan
invariant-loop-chan g l = IsLeastBelow l.slots (is_ready l.mask (g.G.Gate.lets l.gate l.dest.no l.receive) l.dest.no l.set l.slots) l.chan l.least
