use Rattle.event_list.proofs.StoredFacts.{bounded_take}
use Rattle.event_list.proofs.list.EventList.cut.Goals as goal

pub invariant_of-self : goal.invariant_of-self
invariant_of-self c = rw c.truncate.ensures.items (bounded_take _ _ c.self.invariant)
