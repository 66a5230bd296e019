use Rattle.mailboxes.proofs.QueueFacts.{linked_none}
use Rattle.mailboxes.proofs.queues.Queues.new.Goals as goal

pub invariant_of-result : goal.invariant_of-result
invariant_of-result c = linked_none _ _ _ _ c.new.ensures.items c.new-2.ensures.items c.no_places.ensures c.no_places-2.ensures
