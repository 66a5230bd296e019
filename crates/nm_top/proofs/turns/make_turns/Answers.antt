use Rattle.std.proofs.Common.{arith}
use Rattle.nm_top.proofs.TurnLaws.{few_events, next_turn}
use Rattle.nm_top.proofs.turns.make_turns.Goals as goal

pub turn-requires-in-loop-i-clause-room : goal.turn-requires-in-loop-i-clause-room
turn-requires-in-loop-i-clause-room g c x at lets =
    let few = few_events g.P.Proc.stands_for g.P.Proc.origin_of c.args.world.now c.args.schedule.now c.loop-i.world c.loop-i.i c.requires.begins c.loop-i.invariant in
    omega (arith, few, c.loop-i-test.true, c.turns-i-end.ensures, c.requires.turns.few)

pub loop-i-preserved : goal.loop-i-preserved
loop-i-preserved g c =
    next_turn g.P.Proc.stands_for g.P.Proc.origin_of c.args.world.now c.args.schedule.now c.loop-i.world c.turn-in-loop-i.new.self c.loop-i.i c.turn.result
    c.in_ok-turn.field-0
    c.loop-i.invariant c.turn.ensures c.in_ok-turn.ensures.turned c.turn-in-loop-i.ensures.mask c.turn-in-loop-i.ensures.size c.turn-in-loop-i.ensures.origins
