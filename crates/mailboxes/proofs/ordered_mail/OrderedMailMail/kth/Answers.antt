use Rattle.std.proofs.Common.{◌<◌, sym, ap, ◌∙◌, subst}
use Rattle.std.specs.Prelude.{slice_get}
use Rattle.mailboxes.specs.Letters.{is_allowed}
use Rattle.mailboxes.specs.Queues.{waiting_in}
use Rattle.mailboxes.proofs.QueueFacts.{ready_count, ready_names}
use Rattle.mailboxes.proofs.ordered_mail.OrderedMailMail.kth.Goals as goal

pub kth_ready-requires-clause-below : goal.kth_ready-requires-clause-below
kth_ready-requires-clause-below g c =
    let slots = c.args.self.now.queues.slots in
    let test = is_allowed c.args.self.now.mask (g.G.Gate.lets c.args.gate.now c.args.dest.no c.args.receive) c.args.dest.no c.args.set (waiting_in slots) in
    subst (λ n. c.args.k < n) (sym (ready_count test slots)) c.requires

pub returns : goal.returns
returns g c =
    let slots = c.args.self.now.queues.slots in
    let test = is_allowed c.args.self.now.mask (g.G.Gate.lets c.args.gate.now c.args.dest.no c.args.receive) c.args.dest.no c.args.set (waiting_in slots) in
    ap (λ ns. slice_get ns c.args.k) (sym (ready_names test slots)) ∙ c.kth_ready.ensures
