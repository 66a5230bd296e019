use Rattle.std.proofs.Common.{List, subst, sym}
use Rattle.mailboxes.specs.declared.queues.Slot.{Slot}
use Rattle.mailboxes.specs.Queues.{Reached, at}
use Rattle.mailboxes.proofs.queues.Queues.head_of.Goals as goal

pub first_waiting-requires-clause-from : goal.first_waiting-requires-clause-from
first_waiting-requires-clause-from c =
    subst (λ i. Reached c.as_slice.result.now (λ s. s.waits) c.args.queue i) (sym c.end_of-head.ensures)
    (subst (λ (xs : List Slot). Reached xs (λ s. s.waits) c.args.queue (at c.self.inside.heads c.args.queue)) (sym c.as_slice.ensures.value) (c.self.invariant.fronts c.args.queue))
