use Rattle.std.proofs.Common.{refl}
use Rattle.std.proofs.lemmas.Option.{IfSome_then}
use Rattle.nm_top.specs.Demands.{ScheduleText}
use Rattle.nm_top.proofs.FileLaws.{unfetched_stops, unmet_stops, held_read}
use Rattle.nm_top.proofs.fetch.schedule_in.Goals as goal

pub returns-in-Err-clause-gives : goal.returns-in-Err-clause-gives
returns-in-Err-clause-gives g c = IfSome_then (g.C.Cabinet.files c.args.files.now) c.in-Err.ensures.unfetched
    (λ held why. unfetched_stops (ScheduleText c.args.name.now c.args.processes) held _ refl c.in-Err.stop why)

pub returns-clause-gives : goal.returns-clause-gives
returns-clause-gives g c = IfSome_then (g.C.Cabinet.files c.args.files.now) c.in-Ok.ensures.found
    (λ held there. unmet_stops (ScheduleText c.args.name.now c.args.processes) held _ refl c.deref.result.now (held_read held _ c.in-Ok.text.items c.deref.result.now c.deref.ensures.value there) c.unscheduled.result
    (c.unscheduled.ensures.unmet held c.args.name.now c.args.processes c.deref.result.now c.in-Err-read_schedule.ensures.refused))
