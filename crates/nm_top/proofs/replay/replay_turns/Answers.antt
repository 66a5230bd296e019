use Rattle.std.proofs.Common.{length, arith}
use Rattle.std.proofs.lemmas.Result.{MatchResult-from_err}
use Rattle.nm_top.proofs.ReplayLaws.{replay_first, replay_next, replay_refused, replay_all, of_turn}
use Rattle.nm_top.proofs.replay.replay_turns.Goals as goal

pub loop-i-init : goal.loop-i-init
loop-i-init c = replay_first c.args.replay.now c.args.schedule.now

pub turn-requires-in-loop-i : goal.turn-requires-in-loop-i
turn-requires-in-loop-i c =
    omega (arith, of_turn (length c.args.replay.now.world.processes) c.args.schedule.now c.requires.turns c.loop-i.i c.turn.result c.turn.ensures, c.loop-i.invariant.same.size)

pub overflow_add-idle : goal.overflow_add-idle
overflow_add-idle c =
    omega (arith, c.loop-i.invariant.few, c.idle_turns-idle.ensures.few, c.loop-i-test.true, c.turns-i-end.ensures, c.requires.turns.few)

pub loop-i-preserved : goal.loop-i-preserved
loop-i-preserved c =
    replay_next c.args.replay.now c.loop-i.replay c.turn-in-loop-i.new.self c.args.schedule.now c.loop-i.i c.loop-i.idle c.idle_turns-idle.result c.turn.result c.in_ok-turned.turned
    c.loop-i.invariant c.turn.ensures c.in_ok-turned.ensures.gone c.turn-in-loop-i.ensures.same c.idle_turns-idle.ensures.few c.idle_turns-idle.ensures.counts

pub returns-in_err-turned-clause-began : goal.returns-in_err-turned-clause-began
returns-in_err-turned-clause-began c =
    MatchResult-from_err c.from_residual.result _ _ c.from_residual.ensures.0
    (λ e. replay_refused c.args.replay.now c.loop-i.replay c.turn-in-loop-i.new.self c.args.schedule.now c.loop-i.i c.loop-i.idle c.loop-i.invariant c.in_err-turned.ensures.refused
    c.turn-in-loop-i.ensures.same)

pub returns-clause-made : goal.returns-clause-made
returns-clause-made c = λ p t h.
    replay_all c.args.replay.now c.loop-i.replay c.args.schedule.now c.loop-i.i c.loop-i.idle c.loop-i.invariant (omega (arith, c.loop-i.invariant.within, c.loop-i-test.false, c.turns-i-end.ensures)) p t h
