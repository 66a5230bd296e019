use Rattle.std.proofs.Common.{◌≡◌, ◌+◌, ◌*◌, ◌%◌, refl, sym, ◌∙◌, subst, arith}
use Rattle.mailboxes.specs.Queues.{is_ready, IsLeastBelow}
use Rattle.mailboxes.proofs.QueueFacts.{least_none, least_passed, least_more, least_of_few, least_all, few_channels}
use Rattle.mailboxes.proofs.ready.first_ready.Goals as goal

pub loop-chan-init : goal.loop-chan-init
loop-chan-init g c = least_none c.args.mask (g.G.Gate.lets c.args.gate.now c.args.dest.no c.args.receive) c.args.dest.no c.args.set c.args.slots.now _ refl

pub loop-chan-preserved : goal.loop-chan-preserved
loop-chan-preserved g c =
    let n = least_more c.args.mask (g.G.Gate.lets c.args.gate.now c.args.dest.no c.args.receive) c.args.dest.no c.args.set c.args.slots.now c.loop-chan.chan c.loop-chan.least c.first_of_queue-place.result (c.args.dest.no % 32 * 32 + c.loop-chan.chan) c.loop-chan-test.true refl c.loop-chan.invariant c.first_of_queue-place.ensures.reached c.first_of_queue-place.ensures.ready in
    let ready = is_ready c.args.mask (g.G.Gate.lets c.args.gate.now c.args.dest.no c.args.receive) c.args.dest.no c.args.set c.args.slots.now in
    subst (IsLeastBelow c.args.slots.now ready (c.loop-chan.chan + 1)) (sym c.min-least.ensures) n

pub loop-chan-preserved-then-not-has_channel : goal.loop-chan-preserved-then-not-has_channel
loop-chan-preserved-then-not-has_channel g c =
    least_passed c.args.mask (g.G.Gate.lets c.args.gate.now c.args.dest.no c.args.receive) c.args.dest.no c.args.set c.args.slots.now c.loop-chan.chan c.loop-chan.least c.loop-chan.invariant (sym c.has_channel.ensures ∙ c.if-not-has_channel.true)

pub returns : goal.returns
returns g c =
    let ready = is_ready c.args.mask (g.G.Gate.lets c.args.gate.now c.args.dest.no c.args.receive) c.args.dest.no c.args.set c.args.slots.now in
    let all : c.loop-chan.chan ≡ 32 = omega (arith, c.loop-chan-test.false, c.loop-chan.auto.chan-end) in
    least_all c.args.mask (g.G.Gate.lets c.args.gate.now c.args.dest.no c.args.receive) c.args.dest.no c.args.set c.args.slots.now c.loop-chan.least c.ranges.set.fits (subst (λ n. IsLeastBelow c.args.slots.now ready n c.loop-chan.least) all c.loop-chan.invariant)

pub returns-then-set-chan-eq0 : goal.returns-then-set-chan-eq0
returns-then-set-chan-eq0 g c =
    least_of_few c.args.mask (g.G.Gate.lets c.args.gate.now c.args.dest.no c.args.receive) c.args.dest.no c.args.set c.args.slots.now c.loop-chan.chan c.loop-chan.least (few_channels c.args.set c.loop-chan.chan c.if-set-chan-eq0.true) c.loop-chan.invariant
