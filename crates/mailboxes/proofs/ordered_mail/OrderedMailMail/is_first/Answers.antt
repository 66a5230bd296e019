use Rattle.std.proofs.Common.{◌<◌, List, length, ap, ◌∙◌, subst}
use Rattle.std.specs.Prelude.{slice_get}
use Rattle.std.proofs.lemmas.Bool.{and_parts}
use Rattle.mailboxes.specs.declared.queues.Slot.{Slot}
use Rattle.mailboxes.specs.Letters.{is_first}
use Rattle.mailboxes.specs.Queues.{waiting_in}
use Rattle.mailboxes.proofs.ListFacts.{asked_of}
use Rattle.mailboxes.proofs.QueueFacts.{slot_at, waits_at}
use Rattle.mailboxes.proofs.ordered_mail.OrderedMailMail.is_first.Goals as goal

pub is_first-requires-clause-waits : goal.is_first-requires-clause-waits
is_first-requires-clause-waits c s is =
    (and_parts _ _ (c.place_of-place.ensures.here s (ap (λ (xs : List Slot). slice_get xs c.place_of-place.result) c.slots.ensures ∙ is))).0

pub returns : goal.returns
returns c w h m =
    let slots = c.args.self.now.queues.slots in
    let i = c.place_of-place.result in
    let within : i < length slots = subst (λ (xs : List Slot). i < length xs) c.slots.ensures c.place_of-place.ensures.within in
    let s = slot_at slots i within in
    let here = and_parts _ _ (c.place_of-place.ensures.here s.0 (ap (λ (xs : List Slot). slice_get xs i) c.slots.ensures ∙ s.1)) in
    asked_of c.args.id (waiting_in slots) s.0.letter w c.is_first.result (is_first (waiting_in slots)) c.args.self.now.distinct (waits_at slots i s.0 s.1 here.0) here.1 h m (c.is_first.ensures s.0 s.1)
