use Rattle.nm_top.proofs.SoakLaws.{soaked, soak_none, soak_failed, soak_stopped}
use Rattle.nm_top.proofs.soak.soak.Goals as goal

pub returns-in-Err : goal.returns-in-Err
returns-in-Err g c = soak_stopped c.args.seed _ _ _ _ c.tell.result c.in-Err.stop c.in-Err.ensures.refused c.tell.ensures

pub returns-in_default : goal.returns-in_default
returns-in_default g c = soak_none c.args.seed _ _

pub returns-in-Ok-soak_line : goal.returns-in-Ok-soak_line
returns-in-Ok-soak_line g c =
    let p = c.in-Ok.source.program in
    soaked c.args.seed p _ _ _ _ _ _ c.tell_recording.result c.soak_line.result tt c.in-Ok-soak_line.is c.soak_line.ensures
    (c.tell_recording.ensures p c.in-Ok-compiled.ensures c.in-Ok.ensures.program)

pub returns : goal.returns
returns g c = soak_failed c.args.seed _ _ _ _ c.soak_line.result c.in-Err-soak_line.field-0 c.in-Err-soak_line.is c.soak_line.ensures
