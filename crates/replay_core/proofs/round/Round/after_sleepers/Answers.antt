use Rattle.std.proofs.Common.{sym, ◌∙◌, arith}
use Rattle.replay_core.proofs.RoundLaws.{first_slept, more_slept}
use Rattle.replay_core.proofs.round.Round.after_sleepers.Goals as goal

pub loop-round-init : goal.loop-round-init
loop-round-init c =
    let r = c.requires in
    let i = c.idled-round.ensures in
    first_slept c.args.self.now c.args.asleep.now.marks c.args.n c.args.most c.idled-round.result (λ T f why size at. i.is T f why size at) r.idle_now r.sleeps i.next i.turns i.idle r.few

pub loop-round-preserved : goal.loop-round-preserved
loop-round-preserved c =
    let i = c.idled-round-in-loop-round.ensures in
    more_slept c.args.self.now c.args.asleep.now.marks c.args.n c.args.most c.loop-round.round c.idled-round-in-loop-round.result c.loop-round.invariant (λ T f why size at. i.is T f why size at)
    (omega (arith, c.if-round-n.true)) (sym c.has.ensures ∙ c.if-has.true) i.next i.turns i.idle (omega (arith, c.loop-round-test.true))
