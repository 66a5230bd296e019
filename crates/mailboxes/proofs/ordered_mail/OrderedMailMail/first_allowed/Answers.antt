use Rattle.std.proofs.Common.{List, sym, ap, ◌∙◌}
use Rattle.std.specs.Prelude.{slice_get, option_map, ◌&&◌}
use Rattle.mailboxes.specs.declared.queues.Slot.{Slot}
use Rattle.mailboxes.specs.Letters.{is_allowed}
use Rattle.mailboxes.specs.Queues.{waiting_in}
use Rattle.mailboxes.proofs.QueueFacts.{ready_names, least_first}
use Rattle.mailboxes.proofs.ordered_mail.OrderedMailMail.first_allowed.Goals as goal

pub returns : goal.returns
returns g c =
    let slots = c.args.self.now.queues.slots in
    let test = is_allowed c.args.self.now.mask (g.G.Gate.lets c.args.gate.now c.args.dest.no c.args.receive) c.args.dest.no c.args.set (waiting_in slots) in
    ap (λ ns. slice_get ns 0) (sym (ready_names test slots))
    ∙ least_first (λ (s : Slot). s.letter.id) (λ s. s.waits && test s.letter) slots c.first_ready-place.result c.first_ready-place.ensures
    ∙ ap (λ (xs : List Slot). option_map (λ (s : Slot). s.letter.id) (slice_get xs c.first_ready-place.result)) (sym c.slots.ensures) ∙ sym c.name_at.ensures
