use Rattle.std.proofs.Common.{refl}
use Rattle.std.proofs.lemmas.Option.{IfSome_then}
use Rattle.nm_top.specs.declared.status.Status.TheVariants as statuses
use Rattle.nm_top.specs.Commands.{Replay}
use Rattle.nm_top.specs.Answers.{demands_of}
use Rattle.nm_top.specs.Watches.{call}
use Rattle.nm_top.specs.private.Tellings.{IsReplayWork}
use Rattle.nm_top.proofs.TellLaws.{replay_nothing}
use Rattle.nm_top.proofs.FinishLaws.{replay_bears}
use Rattle.nm_top.proofs.HeardLaws.{early_replay, replay_hears, stopped_hears}
use Rattle.nm_top.proofs.ReplayLaws.{has_replayed}
use Rattle.nm_top.proofs.CarryLaws.{carried, command_stops, stopped}
use Rattle.nm_top.proofs.replay.replay.Goals as goal

pub returns-in_default-clause-carries : goal.returns-in_default-clause-carries
returns-in_default-clause-carries g c = λ input.
    let x = c.in-Ok.input in
    let command = Replay c.args.program.now c.args.trace.now c.args.schedule.now in
    let files = g.C.Cabinet.files c.args.files.now in
    carried _ _ x command _ _ _ (IsReplayWork x.pair.program x.pair.trace x.schedule _) (replay_nothing x.pair.program x.pair.trace x.schedule _ _ _)
    (replay_bears files c.args.program.now c.args.trace.now c.args.schedule.now x.pair.program x.pair.trace x.schedule c.in-Ok.ensures.gives _)
    c.in-Ok.ensures.counts c.in-Ok.ensures.files c.in-Ok.ensures.writes

pub returns-in_default-clause-told : goal.returns-in_default-clause-told
returns-in_default-clause-told g c =
    let x = c.in-Ok.input in
    IfSome_then (g.C.Cabinet.files c.args.files.now) c.in-Ok.ensures.gives
    (λ held k. replay_hears held c.args.program.now c.args.trace.now c.args.schedule.now x.pair.program x.pair.trace x.schedule _ k.0 k.1 statuses.WantOfMemory (0, refl))

pub returns-in_default-begun-clause-carries : goal.returns-in_default-begun-clause-carries
returns-in_default-begun-clause-carries g c = λ input.
    let x = c.in-Ok.input in
    let command = Replay c.args.program.now c.args.trace.now c.args.schedule.now in
    let files = g.C.Cabinet.files c.args.files.now in
    carried _ _ x command _ _ _ (IsReplayWork x.pair.program x.pair.trace x.schedule _) (replay_nothing x.pair.program x.pair.trace x.schedule _ _ _)
    (replay_bears files c.args.program.now c.args.trace.now c.args.schedule.now x.pair.program x.pair.trace x.schedule c.in-Ok.ensures.gives _)
    c.in-Ok.ensures.counts c.in-Ok.ensures.files c.in-Ok.ensures.writes

pub returns-in_default-begun-clause-told : goal.returns-in_default-begun-clause-told
returns-in_default-begun-clause-told g c =
    let x = c.in-Ok.input in
    IfSome_then (g.C.Cabinet.files c.args.files.now) c.in-Ok.ensures.gives
    (λ held k. replay_hears held c.args.program.now c.args.trace.now c.args.schedule.now x.pair.program x.pair.trace x.schedule _ k.0 k.1 statuses.WantOfMemory (0, refl))

pub returns-clause-carries : goal.returns-clause-carries
returns-clause-carries g c = λ input.
    let x = c.in-Ok.input in
    let command = Replay c.args.program.now c.args.trace.now c.args.schedule.now in
    let files = g.C.Cabinet.files c.args.files.now in
    carried _ _ x command _ _ _ (IsReplayWork x.pair.program x.pair.trace x.schedule _) (c.tell_replay.ensures.told x.pair.program x.pair.trace x.schedule (has_replayed c.in-Ok-begun.replay c.replay_turns-idle.new.replay x.schedule c.replay_turns-idle.result c.replay_turns-idle.ensures.made c.replay_turns-idle.ensures.began x.pair.program x.pair.trace (c.in-Ok-begun.ensures x.pair.program c.in-Ok-compiled.ensures)) c.turns.ensures)
    (replay_bears files c.args.program.now c.args.trace.now c.args.schedule.now x.pair.program x.pair.trace x.schedule c.in-Ok.ensures.gives _)
    c.in-Ok.ensures.counts c.in-Ok.ensures.files c.in-Ok.ensures.writes

pub returns-clause-told : goal.returns-clause-told
returns-clause-told g c =
    let x = c.in-Ok.input in
    IfSome_then (g.C.Cabinet.files c.args.files.now) c.in-Ok.ensures.gives
    (λ held k. replay_hears held c.args.program.now c.args.trace.now c.args.schedule.now x.pair.program x.pair.trace x.schedule _ k.0 k.1 _ (c.tell_replay.ensures.heard x.pair.program x.pair.trace x.schedule (has_replayed c.in-Ok-begun.replay c.replay_turns-idle.new.replay x.schedule c.replay_turns-idle.result c.replay_turns-idle.ensures.made c.replay_turns-idle.ensures.began x.pair.program x.pair.trace (c.in-Ok-begun.ensures x.pair.program c.in-Ok-compiled.ensures))))

pub returns-in-Err-clause-carries : goal.returns-in-Err-clause-carries
returns-in-Err-clause-carries g c = λ input.
    let command = Replay c.args.program.now c.args.trace.now c.args.schedule.now in
    stopped _ command _ _ c.tell.result c.in-Err.stop (command_stops (call input _) command (g.C.Cabinet.files c.args.files.now) c.in-Err.stop c.in-Err.ensures.gives)
    c.in-Err.ensures.counts refl c.in-Err.ensures.files c.in-Err.ensures.writes c.tell.ensures

pub returns-in-Err-clause-told : goal.returns-in-Err-clause-told
returns-in-Err-clause-told g c =
    let command = Replay c.args.program.now c.args.trace.now c.args.schedule.now in
    stopped_hears (g.C.Cabinet.files c.args.files.now) _ refl command (demands_of command) (early_replay c.args.program.now c.args.trace.now c.args.schedule.now) c.in-Err.stop
    c.in-Err.ensures.gives _ _ _ _ c.tell.result c.tell.ensures
