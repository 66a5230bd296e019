use Rattle.std.proofs.Common.{◌∙◌, ap}
use Rattle.mailboxes.specs.Queues.{waiting_in}
use Rattle.mailboxes.proofs.SearchFacts.{waiting_kept}
use Rattle.mailboxes.proofs.queues.Queues.copy.Goals as goal

pub returns : goal.returns
returns c = waiting_kept c.slots.result.now c.in_ok-slots.slots.items c.in_ok-slots.ensures ∙ ap waiting_in c.slots.ensures
