use Rattle.std.proofs.Common.{◌-◌, length}
use Rattle.mailboxes.specs.Queues.{Reached, is_ready}
use Rattle.mailboxes.proofs.ready.first_of_queue.Given as goal

abbrev pub invariant-loop-i : goal.invariant-loop-i
invariant-loop-i g l = Reached l.slots (is_ready l.mask (g.G.Gate.lets l.gate l.dest.no l.receive) l.dest.no l.set l.slots) l.queue l.i

abbrev pub decreases-loop-i : goal.decreases-loop-i
decreases-loop-i g l = length l.slots - l.i
