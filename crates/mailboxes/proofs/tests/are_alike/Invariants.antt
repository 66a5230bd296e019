use Rattle.mailboxes.specs.Numbered.{AreBelow}
use Rattle.mailboxes.specs.Queues.{waiting_in}
use Rattle.mailboxes.proofs.tests.are_alike.Given as goal

abbrev pub invariant-loop-step : goal.invariant-loop-step
invariant-loop-step g l = AreBelow l.plain.waiting.items l.step × AreBelow (waiting_in l.ordered.queues.slots) l.step
