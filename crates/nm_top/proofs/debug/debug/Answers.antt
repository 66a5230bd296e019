use Rattle.nm_top.specs.Commands.{Debug}
use Rattle.nm_top.proofs.CarryLaws.{command_stops, stop_not_full, stopped_out}
use Rattle.nm_top.proofs.DebugLaws.{debug_carries, debug_nothing}
use Rattle.nm_top.proofs.debug.debug.Goals as goal

pub returns-in-Err-clause-carries : goal.returns-in-Err-clause-carries
returns-in-Err-clause-carries g c =
    let command = Debug c.args.program.now c.args.trace.now in
    stopped_out _ command _ _ _ c.tell.result c.in-Err.stop (command_stops _ command (g.C.Cabinet.files c.args.files.now) c.in-Err.stop c.in-Err.ensures.gives)
    c.in-Err.ensures.counts tt c.in-Err.ensures.files c.in-Err.ensures.writes c.tell.ensures

pub returns-in_default-clause-carries : goal.returns-in_default-clause-carries
returns-in_default-clause-carries g c =
    let x = c.in-Ok.pair in
    debug_carries c.args.program.now c.args.trace.now x.program x.trace _ _ x _ _ _ _ _ c.in-Ok.ensures.gives
    (debug_nothing x.program x.trace _ _ _ _) c.in-Ok.ensures.counts c.in-Ok.ensures.files c.in-Ok.ensures.writes

pub returns-clause-carries : goal.returns-clause-carries
returns-clause-carries g c =
    let x = c.in-Ok.pair in
    debug_carries c.args.program.now c.args.trace.now x.program x.trace _ _ x _ _ _ _ c.debug_code.result c.in-Ok.ensures.gives
    (c.debug_code.ensures.tells x.program c.in-Ok-compiled.ensures) c.in-Ok.ensures.counts c.in-Ok.ensures.files c.in-Ok.ensures.writes

pub returns-in-Err-clause-full : goal.returns-in-Err-clause-full
returns-in-Err-clause-full g c = λ e.
    absurd (stop_not_full _ c.in-Err.stop c.in-Err.ensures.counts.blames _ _ _ _ c.tell.result c.tell.ensures e)
