use Rattle.debugger.proofs.GoingTo.{ends_full, ends_stuck}
use Rattle.debugger.proofs.backward.finish_all.Goals as goal

pub returns-in-Ok : goal.returns-in-Ok
returns-in-Ok g c =
    ends_full c.args.replay.now c.finish.new.self c.in-Ok.field-0 c.in-Ok.ensures.finished c.in-Ok.ensures.same

pub returns-in-Err-Stuck : goal.returns-in-Err-Stuck
returns-in-Err-Stuck g c =
    ends_stuck c.args.replay.now c.finish.new.self c.in-Err-Stuck.field-0 c.in-Err-Stuck.field-0-0
    c.in-Err-Stuck.field-0-is
    c.in-Err-Stuck.ensures.failed
