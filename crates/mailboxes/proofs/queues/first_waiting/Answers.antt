use Rattle.mailboxes.proofs.QueueFacts.{step_at}
use Rattle.mailboxes.proofs.queues.first_waiting.Goals as goal

pub loop-i-preserved : goal.loop-i-preserved
loop-i-preserved c = step_at c.args.slots.now c.args.next.now (λ s. s.waits) c.args.queue c.loop-i.i _ c.requires.chain c.loop-i.invariant c.loop-i-test.true c.if-slots-i.false
