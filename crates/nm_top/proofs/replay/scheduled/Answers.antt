use Rattle.std.proofs.Common.{[], ◌∷◌, IfSome, subst}
use Rattle.nm_top.specs.Demands.{ScheduleText, TraceSchedule}
use Rattle.nm_top.specs.Answers.{Demanding, pair_demands}
use Rattle.nm_top.specs.private.Works.{Stops, Nothing}
use Rattle.nm_top.proofs.RunLaws.{gives_first}
use Rattle.nm_top.proofs.PairLaws.{bad_schedule_stops}
use Rattle.nm_top.proofs.replay.scheduled.Goals as goal

pub returns-in-Err-clause-gives : goal.returns-in-Err-clause-gives
returns-in-Err-clause-gives g c =
    gives_first (g.C.Cabinet.files c.args.files.now) (pair_demands c.args.program.now c.args.trace.now) (TraceSchedule c.args.trace.now c.args.schedule.now ∷ []) c.in-Err.stop c.in-Err.ensures.gives

pub returns-clause-gives : goal.returns-clause-gives
returns-clause-gives g c =
    bad_schedule_stops (g.C.Cabinet.files c.args.files.now) c.args.program.now c.args.trace.now c.args.schedule.now c.in-Ok.pair.program c.in-Ok.pair.trace c.in-Ok.ensures.gives _
    c.in-Ok.ensures.files c.in-Err-schedule_in.stop
    (subst (λ k. IfSome (g.C.Cabinet.files c.pair_in.new.files) (λ held. Stops (Demanding (ScheduleText c.args.schedule.now k ∷ []) Nothing held) held c.in-Err-schedule_in.stop))
    c.n.ensures c.in-Err-schedule_in.ensures.gives)
