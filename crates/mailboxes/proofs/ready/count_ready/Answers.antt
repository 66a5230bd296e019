use Rattle.std.proofs.Common.{◌+◌, length, sym, ap, ◌∙◌, arith}
use Rattle.mailboxes.specs.Letters.{is_allowed}
use Rattle.mailboxes.specs.Queues.{is_ready, waiting_in}
use Rattle.mailboxes.proofs.ListFacts.{rises_length}
use Rattle.mailboxes.proofs.QueueFacts.{slot_at, kept_from, left_from, fewer_ready}
use Rattle.mailboxes.proofs.ready.count_ready.Goals as goal

pub overflow_add-count : goal.overflow_add-count
overflow_add-count g c =
    let slots = c.args.slots.now in
    let ready = is_ready c.args.mask (g.G.Gate.lets c.args.gate.now c.args.dest.no c.args.receive) c.args.dest.no c.args.set slots in
    let i = c.loop-i.i in
    let x = slot_at slots i c.loop-i-test.true in
    let k = ap length (kept_from ready slots i x.0 x.1 (sym (c.is_ready.ensures x.0 x.1) ∙ c.if-not-is_ready.false)) in
    let few = fewer_ready (λ s. is_allowed c.args.mask (g.G.Gate.lets c.args.gate.now c.args.dest.no c.args.receive) c.args.dest.no c.args.set (waiting_in slots) s.letter) slots in
    omega (arith, k, few, c.loop-i.invariant, rises_length (waiting_in slots) c.requires.queued.rising)

pub loop-i-preserved : goal.loop-i-preserved
loop-i-preserved g c =
    let slots = c.args.slots.now in
    let ready = is_ready c.args.mask (g.G.Gate.lets c.args.gate.now c.args.dest.no c.args.receive) c.args.dest.no c.args.set slots in
    let i = c.loop-i.i in
    let x = slot_at slots i c.loop-i-test.true in
    omega (arith, ap length (kept_from ready slots i x.0 x.1 (sym (c.is_ready.ensures x.0 x.1) ∙ c.if-not-is_ready.false)), c.loop-i.invariant)

pub loop-i-preserved-then-not-is_ready : goal.loop-i-preserved-then-not-is_ready
loop-i-preserved-then-not-is_ready g c =
    let slots = c.args.slots.now in
    let ready = is_ready c.args.mask (g.G.Gate.lets c.args.gate.now c.args.dest.no c.args.receive) c.args.dest.no c.args.set slots in
    let i = c.loop-i.i in
    let x = slot_at slots i c.loop-i-test.true in
    ap (λ ys. c.loop-i.count + length ys) (sym (left_from ready slots i x.0 x.1 (sym (c.is_ready.ensures x.0 x.1) ∙ c.if-not-is_ready.true))) ∙ c.loop-i.invariant
