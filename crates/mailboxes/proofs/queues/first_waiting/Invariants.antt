use Rattle.std.proofs.Common.{◌-◌, length}
use Rattle.mailboxes.specs.Queues.{Reached}
use Rattle.mailboxes.proofs.queues.first_waiting.Given as goal

abbrev pub invariant-loop-i : goal.invariant-loop-i
invariant-loop-i l = Reached l.slots (λ s. s.waits) l.queue l.i

abbrev pub decreases-loop-i : goal.decreases-loop-i
decreases-loop-i l = length l.slots - l.i
