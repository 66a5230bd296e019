use Rattle.std.proofs.Common.{[], ◌∷◌}
use Rattle.nm_top.specs.Demands.{ProgramText, ScheduleText}
use Rattle.nm_top.proofs.RunLaws.{gives_first, gives_later, program_met}
use Rattle.nm_top.proofs.run.demanded.Goals as goal

pub returns-in-Err-clause-gives : goal.returns-in-Err-clause-gives
returns-in-Err-clause-gives g c =
    gives_first (g.C.Cabinet.files c.args.files.now) (ProgramText c.args.program.now ∷ []) (ScheduleText c.args.schedule.now c.args.processes ∷ []) c.in-Err.stop c.in-Err.ensures.gives

pub returns-in-Err-schedule_in-clause-gives : goal.returns-in-Err-schedule_in-clause-gives
returns-in-Err-schedule_in-clause-gives g c =
    gives_later (g.C.Cabinet.files c.args.files.now) _ (ProgramText c.args.program.now) (ScheduleText c.args.schedule.now c.args.processes ∷ []) c.in-Err-schedule_in.stop
    (program_met (g.C.Cabinet.files c.args.files.now) c.args.program.now c.in-Ok.source.program c.in-Ok.source.digest c.in-Ok.ensures.gives) c.in-Ok.ensures.files
    c.in-Err-schedule_in.ensures.gives
