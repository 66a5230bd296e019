use Rattle.std.proofs.Common.{refl, [], ◌∷◌}
use Rattle.std.proofs.lemmas.Option.{IfSome_then}
use Rattle.nm_top.specs.declared.status.Status.TheVariants as statuses
use Rattle.nm_top.specs.Commands.{Finish}
use Rattle.nm_top.specs.Demands.{Finishes, IsFetched}
use Rattle.nm_top.specs.Answers.{pair_demands}
use Rattle.nm_top.specs.private.Tellings.{IsFinishWork}
use Rattle.nm_top.specs.Watches.{call}
use Rattle.nm_top.proofs.RunLaws.{gives_first}
use Rattle.nm_top.proofs.TellLaws.{finish_nothing}
use Rattle.nm_top.proofs.ReplayLaws.{has_finished}
use Rattle.nm_top.proofs.FinishLaws.{finish_bears}
use Rattle.nm_top.proofs.HeardLaws.{early_pair, finish_hears, stopped_hears}
use Rattle.nm_top.proofs.CarryLaws.{carried, command_stops, counts_more, fetched_more, stopped}
use Rattle.nm_top.proofs.finish.finish.Goals as goal

pub returns-in_default-clause-carries : goal.returns-in_default-clause-carries
returns-in_default-clause-carries g c = λ input.
    let x = c.in-Ok.pair in
    let command = Finish c.args.program.now c.args.trace.now in
    let files = g.C.Cabinet.files c.args.files.now in
    carried _ _ x command _ _ _ (IsFinishWork x.program x.trace _) (finish_nothing x.program x.trace _ _ _)
    (finish_bears files c.args.program.now c.args.trace.now x.program x.trace c.in-Ok.ensures.gives _)
    c.in-Ok.ensures.counts c.in-Ok.ensures.files c.in-Ok.ensures.writes

pub returns-in_default-clause-told : goal.returns-in_default-clause-told
returns-in_default-clause-told g c =
    let x = c.in-Ok.pair in
    IfSome_then (g.C.Cabinet.files c.args.files.now) c.in-Ok.ensures.gives
    (λ held k. finish_hears held c.args.program.now c.args.trace.now x.program x.trace _ k statuses.WantOfMemory (0, refl))

pub returns-in_default-begun-clause-carries : goal.returns-in_default-begun-clause-carries
returns-in_default-begun-clause-carries g c = λ input.
    let x = c.in-Ok.pair in
    let command = Finish c.args.program.now c.args.trace.now in
    let files = g.C.Cabinet.files c.args.files.now in
    carried _ _ x command _ _ _ (IsFinishWork x.program x.trace _) (finish_nothing x.program x.trace _ _ _)
    (finish_bears files c.args.program.now c.args.trace.now x.program x.trace c.in-Ok.ensures.gives _)
    c.in-Ok.ensures.counts c.in-Ok.ensures.files c.in-Ok.ensures.writes

pub returns-in_default-begun-clause-told : goal.returns-in_default-begun-clause-told
returns-in_default-begun-clause-told g c =
    let x = c.in-Ok.pair in
    IfSome_then (g.C.Cabinet.files c.args.files.now) c.in-Ok.ensures.gives
    (λ held k. finish_hears held c.args.program.now c.args.trace.now x.program x.trace _ k statuses.WantOfMemory (0, refl))

pub returns-clause-carries : goal.returns-clause-carries
returns-clause-carries g c = λ input.
    let x = c.in-Ok.pair in
    let command = Finish c.args.program.now c.args.trace.now in
    let files = g.C.Cabinet.files c.args.files.now in
    carried _ _ x command _ _ _ (IsFinishWork x.program x.trace _) (c.tell_finish.ensures.told x.program x.trace (has_finished c.in-Ok-begun.replay c.finish-round.new.self c.finish-round.result c.finish-round.ensures.same c.finish-round.ensures.finished c.finish-round.ensures.failed x.program x.trace (c.in-Ok-begun.ensures x.program c.in-Ok-compiled.ensures)) c.stuck_after-stuck.ensures)
    (finish_bears files c.args.program.now c.args.trace.now x.program x.trace c.in-Ok.ensures.gives _)
    c.in-Ok.ensures.counts c.in-Ok.ensures.files c.in-Ok.ensures.writes

pub returns-clause-told : goal.returns-clause-told
returns-clause-told g c =
    let x = c.in-Ok.pair in
    IfSome_then (g.C.Cabinet.files c.args.files.now) c.in-Ok.ensures.gives
    (λ held k. finish_hears held c.args.program.now c.args.trace.now x.program x.trace _ k _ (c.tell_finish.ensures.heard x.program x.trace (has_finished c.in-Ok-begun.replay c.finish-round.new.self c.finish-round.result c.finish-round.ensures.same c.finish-round.ensures.finished c.finish-round.ensures.failed x.program x.trace (c.in-Ok-begun.ensures x.program c.in-Ok-compiled.ensures)) c.stuck_after-stuck.ensures))

pub returns-in-Err-clause-carries : goal.returns-in-Err-clause-carries
returns-in-Err-clause-carries g c = λ input.
    let command = Finish c.args.program.now c.args.trace.now in
    stopped _ command _ _ c.tell.result c.in-Err.stop
    (command_stops (call input _) command (g.C.Cabinet.files c.args.files.now) c.in-Err.stop
    (gives_first (g.C.Cabinet.files c.args.files.now) (pair_demands c.args.program.now c.args.trace.now) (Finishes c.args.program.now c.args.trace.now ∷ []) c.in-Err.stop c.in-Err.ensures.gives))
    (counts_more (IsFetched (pair_demands c.args.program.now c.args.trace.now)) _ (fetched_more (pair_demands c.args.program.now c.args.trace.now) (Finishes c.args.program.now c.args.trace.now ∷ []))
    _ _ _ _ _ c.in-Err.ensures.counts) refl c.in-Err.ensures.files c.in-Err.ensures.writes c.tell.ensures

pub returns-in-Err-clause-told : goal.returns-in-Err-clause-told
returns-in-Err-clause-told g c =
    stopped_hears (g.C.Cabinet.files c.args.files.now) _ refl (Finish c.args.program.now c.args.trace.now) (pair_demands c.args.program.now c.args.trace.now)
    (early_pair c.args.program.now c.args.trace.now) c.in-Err.stop c.in-Err.ensures.gives _ _ _ _ c.tell.result c.tell.ensures
