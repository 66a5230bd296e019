use Rattle.std.proofs.Common.{◌∙◌, Err, ap}
use Rattle.c_tree.specs.Play.{script_of}
use Rattle.replay_core.specs.Gates.{seen_trace}
use Rattle.nm_top.specs.Finishing.{replayed}
use Rattle.nm_top.specs.Soaking.{soak_run}
use Rattle.nm_top.proofs.SoakLaws.{replays_soaked, few_turns, never_stuck}
use Rattle.nm_top.proofs.soak.replay_generated.Goals as goal

pub replay_turns-requires : goal.replay_turns-requires
replay_turns-requires c =
    let k = c.requires.recorded in
    record { turns = few_turns c.in_ok-schedule.schedule _ ((c.in_ok-replay.ensures k.0 k.1).replays.size ∙ k.2.processes) c.in_ok-schedule.ensures.turns }

pub returns-in-Ok : goal.returns-in-Ok
returns-in-Ok c = λ p is_code.
    let t = c.args.trace.now in
    let made = c.in_ok-idle.ensures.made p t (c.in_ok-replay.ensures p is_code) in
    replays_soaked c.replay_turns.new.replay c.finish.new.self p t c.args.seed c.in_ok-idle.idle c.in_ok-schedule.schedule c.in-Ok.field-0
    c.in_ok-schedule.ensures.list made.0 made.1 c.finish.ensures.same
    (c.in-Ok.ensures.finished (script_of p t.n) (seen_trace t) (replayed p t c.in_ok-schedule.schedule) made.0.replays)

pub unreachable-requires : goal.unreachable-requires
unreachable-requires c =
    let k = c.requires.recorded in
    let t = c.args.trace.now in
    let made = c.in_ok-idle.ensures.made k.0 t (c.in_ok-replay.ensures k.0 k.1) in
    never_stuck c.finish.result _ (c.in-Err-Stuck.is ∙ ap Err c.in-Err-Stuck.field-0-is)
    (c.finish.ensures.reaches (script_of k.0 t.n) (seen_trace t) (replayed k.0 t c.in_ok-schedule.schedule) (soak_run k.0 c.args.seed) made.0.replays k.2.recorded)
