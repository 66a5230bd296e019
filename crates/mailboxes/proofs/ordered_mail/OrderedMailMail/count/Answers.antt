use Rattle.std.proofs.Common.{◌∙◌}
use Rattle.mailboxes.specs.Letters.{is_allowed}
use Rattle.mailboxes.specs.Queues.{waiting_in}
use Rattle.mailboxes.proofs.QueueFacts.{ready_count}
use Rattle.mailboxes.proofs.ordered_mail.OrderedMailMail.count.Goals as goal

pub returns : goal.returns
returns g c =
    let slots = c.args.self.now.queues.slots in
    let test = is_allowed c.args.self.now.mask (g.G.Gate.lets c.args.gate.now c.args.dest.no c.args.receive) c.args.dest.no c.args.set (waiting_in slots) in
    c.count_ready.ensures ∙ ready_count test slots
