use Rattle.std.proofs.Common.{refl}
use Rattle.mailboxes.specs.Queues.{queue_of}
use Rattle.mailboxes.proofs.queues.queue_of.Goals as goal

pub returns-clause-queue : goal.returns-clause-queue
unfolding queue_of
returns-clause-queue c = refl
