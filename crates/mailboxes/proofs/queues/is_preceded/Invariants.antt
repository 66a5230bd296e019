use Rattle.std.proofs.Common.{◌-◌}
use Rattle.std.specs.Prelude.{◌&&◌}
use Rattle.mailboxes.specs.Letters.{are_rivals}
use Rattle.mailboxes.specs.Queues.{queue_of, Reached}
use Rattle.mailboxes.proofs.queues.is_preceded.Given as goal

abbrev pub invariant-loop-i : goal.invariant-loop-i
invariant-loop-i l = Reached l.slots (λ s. s.waits && are_rivals s.letter l.l) (queue_of l.l) l.i

abbrev pub decreases-loop-i : goal.decreases-loop-i
decreases-loop-i l = l.place - l.i
