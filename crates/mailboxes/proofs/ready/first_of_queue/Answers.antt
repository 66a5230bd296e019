use Rattle.std.proofs.Common.{sym, ◌∙◌, arith}
use Rattle.mailboxes.specs.Queues.{is_ready}
use Rattle.std.proofs.lemmas.Option.{slice_get_within}
use Rattle.mailboxes.proofs.QueueFacts.{step_on, slot_at}
use Rattle.mailboxes.proofs.ready.first_of_queue.Goals as goal

pub loop-i-preserved : goal.loop-i-preserved
loop-i-preserved g c =
    let slots = c.args.slots.now in
    let ready = is_ready c.args.mask (g.G.Gate.lets c.args.gate.now c.args.dest.no c.args.receive) c.args.dest.no c.args.set slots in
    let i = c.loop-i.i in
    let x = slot_at slots i c.loop-i-test.true in
    step_on slots c.args.next.now ready c.args.queue i x.0 c.requires.queued.chain c.loop-i.invariant x.1 (sym (c.is_ready.ensures x.0 x.1) ∙ c.if-is_ready.false)

pub returns-clause-ready : goal.returns-clause-ready
returns-clause-ready g c s is = absurd (omega (arith, c.loop-i-test.false, slice_get_within c.args.slots.now c.loop-i.i s is))
