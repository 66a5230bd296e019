use Rattle.std.proofs.Common.{length, ◌++◌, subst, sym, refl, Option, ℕ}
use Rattle.report.specs.Runs.{blocks}
use Rattle.report.specs.Texts.{trace_line, stopped_line}
use Rattle.nm_top.specs.declared.status.Status.TheVariants.{Done, WantOfMemory, WriteFault}
use Rattle.nm_top.specs.private.Recorded.{recorded_work}
use Rattle.nm_top.specs.private.Works.{Whole, Short, Tells}
use Rattle.nm_top.proofs.TellLaws.{tells_ok, tells_err}
use Rattle.nm_top.proofs.record.tell_recorded.Goals as goal

pub returns-in-Ok : goal.returns-in-Ok
returns-in-Ok g c = λ p E runs.
    let r = c.args.recorded.now in
    let text = blocks p (length r.world.processes) E ++ trace_line r.notes r.lost r.bytes in
    subst (λ (o : Option ℕ). Tells (recorded_work o text) (g.O.Sink.given c.args.out.now) (g.O.Sink.given c.put_recorded.new.out) (g.O.Sink.faults c.args.out.now) (g.O.Sink.faults c.put_recorded.new.out) Done)
    (sym c.in-None.is) (tells_ok (Whole text) _ _ _ _ Done c.put_recorded.result _ c.in-Ok.is (c.put_recorded.ensures.text p E runs) refl)

pub returns-in-Err : goal.returns-in-Err
returns-in-Err g c = λ p E runs.
    let r = c.args.recorded.now in
    let text = blocks p (length r.world.processes) E ++ trace_line r.notes r.lost r.bytes in
    subst (λ (o : Option ℕ). Tells (recorded_work o text) (g.O.Sink.given c.args.out.now) (g.O.Sink.given c.put_recorded.new.out) (g.O.Sink.faults c.args.out.now) (g.O.Sink.faults c.put_recorded.new.out) WriteFault)
    (sym c.in-None.is) (tells_err (Whole text) _ _ _ _ WriteFault c.put_recorded.result c.in-Err.field-0 c.in-Err.is (c.put_recorded.ensures.text p E runs) refl)

pub returns-in-Ok-stopped_line : goal.returns-in-Ok-stopped_line
returns-in-Ok-stopped_line g c = λ p E runs.
    let r = c.args.recorded.now in
    let text = blocks p (length r.world.processes) E ++ trace_line r.notes r.lost r.bytes in
    subst (λ (o : Option ℕ). Tells (recorded_work o text) (g.O.Sink.given c.args.out.now) (g.O.Sink.given c.stopped_line.new.out) (g.O.Sink.faults c.args.out.now) (g.O.Sink.faults c.stopped_line.new.out) WantOfMemory)
    (sym c.in-Some.is) (tells_ok (Short (stopped_line c.in-Some.turns)) _ _ _ _ WantOfMemory c.stopped_line.result _ c.in-Ok-stopped_line.is c.stopped_line.ensures refl)

pub returns-in-Err-stopped_line : goal.returns-in-Err-stopped_line
returns-in-Err-stopped_line g c = λ p E runs.
    let r = c.args.recorded.now in
    let text = blocks p (length r.world.processes) E ++ trace_line r.notes r.lost r.bytes in
    subst (λ (o : Option ℕ). Tells (recorded_work o text) (g.O.Sink.given c.args.out.now) (g.O.Sink.given c.stopped_line.new.out) (g.O.Sink.faults c.args.out.now) (g.O.Sink.faults c.stopped_line.new.out) WriteFault)
    (sym c.in-Some.is) (tells_err (Short (stopped_line c.in-Some.turns)) _ _ _ _ WriteFault c.stopped_line.result c.in-Err-stopped_line.field-0 c.in-Err-stopped_line.is c.stopped_line.ensures refl)
