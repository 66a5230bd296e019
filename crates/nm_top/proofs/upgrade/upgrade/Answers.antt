use Rattle.std.proofs.Common.{◌≡◌, refl}
use Rattle.nm_top.specs.Commands.{Upgrade}
use Rattle.nm_top.specs.Demands.{TraceText, trace_file}
use Rattle.nm_top.proofs.UpgradeLaws.{wrote}
use Rattle.nm_top.proofs.CarryLaws.{command_stops, counts_more, fetched_one, stopped}
use Rattle.nm_top.proofs.upgrade.upgrade.Goals as goal

pub returns-in-Ok : goal.returns-in-Ok
returns-in-Ok g c = λ w.
    let t = c.in-Ok.trace in
    wrote c.args.trace.now c.args.new.now t w _ t _ _ _ c.upgrade_trace.result c.in-Ok.ensures.gives c.in-Ok.ensures.counts c.in-Ok.ensures.files c.in-Ok.ensures.writes c.in-Ok.ensures.room refl refl
    c.upgrade_trace.ensures

pub returns-in-Err : goal.returns-in-Err
returns-in-Err g c = λ w.
    let command = Upgrade c.args.trace.now c.args.new.now in
    stopped w command _ _ c.tell.result c.in-Err.stop (command_stops w command (g.C.Cabinet.files c.args.files.now) c.in-Err.stop c.in-Err.ensures.gives)
    (counts_more (λ n. n ≡ c.args.trace.now) _ (fetched_one (TraceText c.args.trace.now) (trace_file c.args.trace.now) refl) c.in-Err.stop _ _ _ _ c.in-Err.ensures.counts) refl c.in-Err.ensures.files c.in-Err.ensures.writes c.tell.ensures
