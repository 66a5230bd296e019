use Rattle.std.proofs.Common.{length, ap, arith}
use Rattle.event_list.proofs.StoredFacts.{bounded_pushed}
use Rattle.event_list.proofs.list.EventList.push.Goals as goal

pub invariant_of-self : goal.invariant_of-self
invariant_of-self c =
    rw c.push.ensures.items (bounded_pushed _ _ _ c.self.invariant (omega (arith, c.requires.room, ap (λ v. length v.events) c.self.view_is)) (omega (arith, c.requires.process)))
