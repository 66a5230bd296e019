use Rattle.std.proofs.Common.{refl, inl}
use Rattle.std.proofs.lemmas.Option.{IfSome_then}
use Rattle.nm_top.specs.Commands.{Record}
use Rattle.nm_top.proofs.RecordLaws.{recorded}
use Rattle.nm_top.proofs.CarryLaws.{command_stops, stopped}
use Rattle.nm_top.proofs.record.record.Goals as goal

pub returns-in-Ok : goal.returns-in-Ok
returns-in-Ok g c = λ w.
    let x = c.in-Ok.demanded in
    recorded c.args.program.now c.args.processes c.args.schedule.now c.args.to.trace.now c.args.to.version c.args.to.mask x.source.program x.source.digest x.schedule w _ x _ _ _ c.record_program.result
    (IfSome_then (g.C.Cabinet.files c.args.files.now) c.in-Ok.ensures.gives (λ held k. record { has_program = k.0; has_schedule = k.1 }))
    c.in-Ok.ensures.counts c.in-Ok.ensures.files c.in-Ok.ensures.writes c.in-Ok.ensures.room refl refl (c.record_program.ensures c.args.program.now c.args.schedule.now)

pub returns-in-Err : goal.returns-in-Err
returns-in-Err g c = λ w.
    let command = Record c.args.program.now c.args.processes c.args.schedule.now c.args.to.trace.now c.args.to.version c.args.to.mask in
    stopped w command _ _ c.tell.result c.in-Err.stop (command_stops w command (g.C.Cabinet.files c.args.files.now) c.in-Err.stop c.in-Err.ensures.gives)
    c.in-Err.ensures.counts (inl refl) c.in-Err.ensures.files c.in-Err.ensures.writes c.tell.ensures
