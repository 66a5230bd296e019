use Rattle.std.proofs.Common.{false, length, refl, subst, sym, ap, ◌∙◌, arith}
use Rattle.std.specs.Prelude.{slice_get, ◌<◌}
use Rattle.std.proofs.lemmas.Option.{same_Some}
use Rattle.mailboxes.specs.declared.queues.Slot.{Slot}
use Rattle.mailboxes.specs.Queues.{Kept}
use Rattle.mailboxes.proofs.QueueFacts.{got, linked_taken, linked_moved}
use Rattle.mailboxes.proofs.queues.Queues.take.Goals as goal

pub invariant_of-self : goal.invariant_of-self
invariant_of-self c =
    let slots = c.self.inside.slots.items in
    let within : c.args.place < length slots = subst (λ (k : Kept). c.args.place < length k.slots) (sym c.self.view_is) c.requires in
    linked_taken slots c.args.place c.index.result.now (record { letter = c.index.result.now.letter; waits = false }) (got slots c.args.place c.index.result.now within c.index.ensures) refl refl c.self.inside.next.items c.self.inside.heads c.self.inside.tails c.self.invariant

pub invariant_of-self-2 : goal.invariant_of-self-2
invariant_of-self-2 c =
    let slots = c.self.inside.slots.items in
    let within : c.args.place < length slots = subst (λ (k : Kept). c.args.place < length k.slots) (sym c.self.view_is) c.requires in
    let taken = linked_taken slots c.args.place c.index.result.now (record { letter = c.index.result.now.letter; waits = false }) (got slots c.args.place c.index.result.now within c.index.ensures) refl refl c.self.inside.next.items c.self.inside.heads c.self.inside.tails c.self.invariant in
    linked_moved _ _ c.self.inside.heads _ c.queue_of-queue.result c.head_of-head.result taken (omega (arith, c.queue_of-queue.ensures.below, c.self.told.0)) c.head_of-head.ensures

pub returns-clause-letter : goal.returns-clause-letter
returns-clause-letter c s is =
    let slots = c.self.inside.slots.items in
    let within : c.args.place < length slots = subst (λ (k : Kept). c.args.place < length k.slots) (sym c.self.view_is) c.requires in
    ap (λ (z : Slot). z.letter) (same_Some _ s (sym (got slots c.args.place c.index.result.now within c.index.ensures) ∙ ap (λ (k : Kept). slice_get k.slots c.args.place) c.self.view_is ∙ is))
