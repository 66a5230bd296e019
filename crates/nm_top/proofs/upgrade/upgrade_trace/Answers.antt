use Rattle.std.proofs.Common.{length, Err, ap, ◌∙◌, refl, arith}
use Rattle.report.specs.Texts.{upgraded_line}
use Rattle.nm_top.specs.private.Works.{Whole}
use Rattle.nm_top.proofs.UpgradeLaws.{none_upgraded, wrote_upgraded, same_line, few_entries, still_begin}
use Rattle.nm_top.proofs.TellLaws.{tells_ok, tells_err}
use Rattle.nm_top.specs.declared.status.Status.TheVariants.{Done, WriteFault}
use Rattle.nm_top.proofs.upgrade.upgrade_trace.Goals as goal

pub returns-in-Err-Memory : goal.returns-in-Err-Memory
returns-in-Err-Memory g c =
    let e = c.in-Err-Memory.is ∙ ap Err c.in-Err-Memory.field-0-is in
    none_upgraded c.args.trace.now c.args.new.now _ _ _ _ _ _ _ _ _ _ c.write_upgraded.ensures.same_absents c.write_upgraded.ensures.same_reads _ _
    (c.write_upgraded.ensures.memory e) (still_begin _ _ c.write_upgraded.result e c.write_upgraded.ensures.failed)

pub overflow_cast-notes : goal.overflow_cast-notes
overflow_cast-notes g c = omega (arith, few_entries c.args.trace.now, c.requires.small, ap length c.notes.ensures)

pub overflow_cast-lost : goal.overflow_cast-lost
overflow_cast-lost g c = omega (arith, few_entries c.args.trace.now, c.requires.small, ap length c.lost.ensures)

pub returns-in-Ok-upgraded_line : goal.returns-in-Ok-upgraded_line
returns-in-Ok-upgraded_line g c =
    let t = c.args.trace.now in
    let text = upgraded_line (length c.notes.result.now) (length c.lost.result.now) c.in-Ok.bytes in
    let is = same_line t c.notes.result.now c.lost.result.now c.in-Ok.bytes c.notes.ensures c.lost.ensures c.in-Ok.ensures.bytes in
    wrote_upgraded t c.args.new.now _ _ _ _ _ _ _ _ _ _ c.write_upgraded.ensures.same_absents c.write_upgraded.ensures.same_reads _ _ _ _ Done text is c.in-Ok.ensures.written c.in-Ok.ensures.failed
    (tells_ok (Whole text) _ _ _ _ Done c.upgraded_line.result _ c.in-Ok-upgraded_line.is c.upgraded_line.ensures refl)

pub returns-in-Err : goal.returns-in-Err
returns-in-Err g c =
    let t = c.args.trace.now in
    let text = upgraded_line (length c.notes.result.now) (length c.lost.result.now) c.in-Ok.bytes in
    let is = same_line t c.notes.result.now c.lost.result.now c.in-Ok.bytes c.notes.ensures c.lost.ensures c.in-Ok.ensures.bytes in
    wrote_upgraded t c.args.new.now _ _ _ _ _ _ _ _ _ _ c.write_upgraded.ensures.same_absents c.write_upgraded.ensures.same_reads _ _ _ _ WriteFault text is c.in-Ok.ensures.written c.in-Ok.ensures.failed
    (tells_err (Whole text) _ _ _ _ WriteFault c.upgraded_line.result c.in-Err.field-0 c.in-Err.is c.upgraded_line.ensures refl)
