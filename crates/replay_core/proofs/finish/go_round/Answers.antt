use Rattle.std.proofs.Common.{sym, ◌∙◌, arith}
use Rattle.replay_core.proofs.RoundLaws.{no_rounds, next_round, slept_round, all_rounds, last_round}
use Rattle.replay_core.proofs.finish.go_round.Goals as goal

pub loop-round-init : goal.loop-round-init
loop-round-init g c =
    let b = c.begin-round.ensures in
    no_rounds g.P.Proc.stands_for g.P.Proc.origin_of c.args.replay.now c.enough_turns-most.result c.begin-round.result c.none-asleep.result.marks b.is c.none-asleep.ensures b.next b.turns b.idle
    (omega (arith, c.n-n.ensures.some, c.n-n.ensures.n))

pub loop-round-preserved-then-has : goal.loop-round-preserved-then-has
loop-round-preserved-then-has g c =
    slept_round g.P.Proc.stands_for g.P.Proc.origin_of c.args.replay.now c.enough_turns-most.result c.loop-round.replay c.loop-round.round c.loop-round.asleep.marks c.loop-round.invariant
    (λ s T R h. sym c.if-is_over.false ∙ c.is_over.ensures.is s T R h) c.after_sleepers-round.result c.n-n.result c.n-n.ensures.n c.after_sleepers-round.ensures.slept

pub loop-round-preserved : goal.loop-round-preserved
loop-round-preserved g c =
    let k = c.in_ok-turned.ensures in
    let n = c.after-round.ensures in
    next_round g.P.Proc.stands_for g.P.Proc.origin_of c.args.replay.now c.enough_turns-most.result c.loop-round.replay c.loop-round.round c.loop-round.asleep.marks c.loop-round.invariant
    (λ s T R h. sym c.if-is_over.false ∙ c.is_over.ensures.is s T R h)
    _ c.after-round.result c.note.new.self.marks _ c.in_ok-turned.turned c.n-n.result
    c.next_turn-t.ensures.proc c.next_turn-t.ensures.pick k.gone k.same c.n-n.ensures.n n.is n.next n.turns n.idle (omega (arith, c.loop-round-test.true))
    (sym c.has.ensures ∙ c.if-has.false) c.note.ensures.stays

pub returns-then-is_over-clause-rounded : goal.returns-then-is_over-clause-rounded
returns-then-is_over-clause-rounded g c =
    all_rounds g.P.Proc.stands_for g.P.Proc.origin_of c.args.replay.now c.enough_turns-most.result c.loop-round.replay c.loop-round.round c.loop-round.asleep.marks c.loop-round.invariant
    c.enough_turns-most.ensures.is (λ s T R h. sym c.if-is_over.true ∙ c.is_over.ensures.is s T R h)

pub returns-clause-rounded : goal.returns-clause-rounded
returns-clause-rounded g c =
    last_round g.P.Proc.stands_for g.P.Proc.origin_of c.args.replay.now c.enough_turns-most.result c.loop-round.replay c.loop-round.round c.loop-round.asleep.marks c.loop-round.invariant
    (omega (arith, c.loop-round-test.false)) c.enough_turns-most.ensures.is
