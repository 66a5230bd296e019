use Rattle.std.proofs.Common.{not, take, sym, ap, ◌∙◌}
use Rattle.std.specs.Prelude.{◌&&◌}
use Rattle.std.specs.List.{list_any}
use Rattle.mailboxes.specs.declared.queues.Slot.{Slot}
use Rattle.mailboxes.specs.Letters.{are_rivals}
use Rattle.mailboxes.proofs.QueueFacts.{preceded_at, read_is}
use Rattle.mailboxes.proofs.ready.is_first.Goals as goal

pub returns : goal.returns
returns c s is =
    let slots = c.args.slots.now in
    ap not (c.is_preceded.ensures ∙ ap (λ (t : Slot). list_any (λ u. u.waits && are_rivals u.letter t.letter) (take c.args.place slots)) (read_is slots c.args.place _ s c.requires.below is)
    ∙ sym (preceded_at 0 slots c.args.place s c.requires.queued.rising is (c.requires.waits s is)))
