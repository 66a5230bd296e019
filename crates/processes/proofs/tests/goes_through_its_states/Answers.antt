use Rattle.processes.specs.ListedFacts.{can_take}
use Rattle.processes.proofs.tests.goes_through_its_states.Goals as goal

pub give-seat-requires-clause-channel : goal.give-seat-requires-clause-channel
give-seat-requires-clause-channel g c = can_take _ _ _ c.set-set.ensures c.if-set-ne1.false c.if-letter-ne0.false
