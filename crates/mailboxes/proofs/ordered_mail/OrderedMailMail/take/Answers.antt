use Rattle.std.proofs.Common.{ap, ◌∙◌}
use Rattle.std.proofs.lemmas.Bool.{and_parts}
use Rattle.mailboxes.specs.Letters.{is_named}
use Rattle.mailboxes.specs.Queues.{waiting_in}
use Rattle.mailboxes.proofs.ListFacts.{named_is}
use Rattle.mailboxes.proofs.QueueFacts.{slot_at, parted_by, rises_left, distinct_left, leaves_parted}
use Rattle.mailboxes.proofs.ordered_mail.OrderedMailMail.take.Goals as goal

pub invariant_of-self : goal.invariant_of-self
invariant_of-self c =
    let slots = c.args.self.now.queues.slots in
    let i = c.place_in-place.result in
    let s = slot_at slots i c.place_in-place.ensures.within in
    let here = and_parts _ _ (c.place_in-place.ensures.here s.0 s.1) in
    let p = parted_by slots i s.0 c.take-letter.result c.take-letter.new.self.slots s.1 here.0 (c.take-letter.ensures.letter s.0 s.1) c.take-letter.ensures.slots in
    record {
      rising = rises_left (waiting_in slots) c.take-letter.result (waiting_in c.take-letter.new.self.slots) p c.args.self.now.rising;
      distinct = distinct_left (waiting_in slots) c.take-letter.result (waiting_in c.take-letter.new.self.slots) p c.args.self.now.distinct;
    }

pub returns-clause-name : goal.returns-clause-name
returns-clause-name c =
    let slots = c.args.self.now.queues.slots in
    let i = c.place_in-place.result in
    let s = slot_at slots i c.place_in-place.ensures.within in
    let here = and_parts _ _ (c.place_in-place.ensures.here s.0 s.1) in
    named_is c.args.id c.take-letter.result (ap (is_named c.args.id) (c.take-letter.ensures.letter s.0 s.1) ∙ here.1)

pub returns-clause-taken : goal.returns-clause-taken
returns-clause-taken c =
    let slots = c.args.self.now.queues.slots in
    let i = c.place_in-place.result in
    let s = slot_at slots i c.place_in-place.ensures.within in
    let here = and_parts _ _ (c.place_in-place.ensures.here s.0 s.1) in
    let p = parted_by slots i s.0 c.take-letter.result c.take-letter.new.self.slots s.1 here.0 (c.take-letter.ensures.letter s.0 s.1) c.take-letter.ensures.slots in
    leaves_parted (waiting_in slots) c.take-letter.result (waiting_in c.take-letter.new.self.slots) p c.args.self.now.distinct
