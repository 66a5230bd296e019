use Rattle.std.proofs.Common.{length, Err, refl, ap, ◌∙◌}
use Rattle.c_tree.specs.Play.{script_of}
use Rattle.c_tree.proofs.Histories.{scripts_are_lawful}
use Rattle.stack_code.specs.View.{seen_code}
use Rattle.recorder.specs.Outcomes.{run_of_first, turns_made}
use Rattle.nm_top.proofs.StartLaws.{begins, runs_from}
use Rattle.nm_top.proofs.RecordLaws.{none_recorded, front_recorded, made_recorded, still_memory, failed_write, sure_write, cut_for}
use Rattle.nm_top.proofs.record.record_code.Goals as goal

pub returns-in_default : goal.returns-in_default
returns-in_default g c = λ program schedule p is_code.
    none_recorded program c.args.processes schedule c.args.to.trace.now c.args.to.version c.args.to.mask p c.args.demanded.now.source.digest c.args.demanded.now.schedule
    _ _ _ _ _ _ _ _ _ _ refl refl _ _ refl refl

pub record_run-requires-clause-names : goal.record_run-requires-clause-names
record_run-requires-clause-names g c = λ p x at. (c.in-Ok.ensures.each p x at).name

pub record_run-requires-clause-begins : goal.record_run-requires-clause-begins
record_run-requires-clause-begins g c = λ p x at.
    (script_of c.requires.code.0 c.args.processes p, (c.in-Ok.ensures.each p x at).stands c.requires.code.0 c.requires.code.1)

pub returns-in-Ok-record_run : goal.returns-in-Ok-record_run
returns-in-Ok-record_run g c = λ program schedule p is_code.
    let n = c.args.processes in
    let to = c.args.to in
    let turns = c.args.demanded.now.schedule in
    let r = c.in-Ok-record_run.recorded in
    let s = script_of p n in
    let first = begins (seen_code c.args.code.now) n p c.in-Ok.seats.items (scripts_are_lawful p n) is_code c.in-Ok.ensures in
    let many = c.in-Ok-record_run.ensures.size ∙ c.in-Ok.ensures.count in
    let E = run_of_first s to.mask (turns_made r.stopped turns) turns in
    let runs = runs_from (seen_code c.args.code.now) n r.world p E c.in-Ok.seats.items c.in-Ok.ensures c.in-Ok-record_run.ensures.origins many is_code (c.in-Ok-record_run.ensures.world s first) in
    made_recorded program n schedule to.trace.now to.version to.mask p c.args.demanded.now.source.digest turns
    _ _ _ _ _ _ _ _ _ _ c.in-Ok-record_run.ensures.same_absents c.in-Ok-record_run.ensures.same_reads _ _ _ _ c.tell_recorded.result r.stopped r.notes r.lost r.bytes
    (length c.in-Ok.seats.items) (length r.world.processes) c.in-Ok.ensures.count many (c.in-Ok-record_run.ensures.recorded s first) c.in-Ok-record_run.ensures.stopped
    (c.tell_recorded.ensures p E runs) c.in-Ok-record_run.ensures.failed

pub returns-in-Err-Memory : goal.returns-in-Err-Memory
returns-in-Err-Memory g c = λ program schedule p is_code.
    none_recorded program c.args.processes schedule c.args.to.trace.now c.args.to.version c.args.to.mask p c.args.demanded.now.source.digest c.args.demanded.now.schedule
    _ _ _ _ _ _ _ _ _ _ c.in-Err-Memory.ensures.same_absents c.in-Err-Memory.ensures.same_reads _ _
    (c.record_run.ensures.memory (c.in-Err-Memory.is ∙ ap Err c.in-Err-Memory.field-0-is)) (still_memory _ _ c.record_run.result (c.in-Err-Memory.is ∙ ap Err c.in-Err-Memory.field-0-is) c.record_run.ensures.failed)

pub returns-in-Err-Write : goal.returns-in-Err-Write
returns-in-Err-Write g c = λ program schedule p is_code.
    let n = c.args.processes in
    let first = begins (seen_code c.args.code.now) n p c.in-Ok.seats.items (scripts_are_lawful p n) is_code c.in-Ok.ensures in
    front_recorded program n schedule c.args.to.trace.now c.args.to.version c.args.to.mask p c.args.demanded.now.source.digest c.args.demanded.now.schedule
    _ _ _ _ _ _ _ _ _ _ c.in-Err-Write.ensures.same_absents c.in-Err-Write.ensures.same_reads _ _ (length c.in-Ok.seats.items) c.in-Ok.ensures.count
    (cut_for _ _ _ _ _ _ _ _ (c.record_run.ensures.cut (c.in-Err-Write.is ∙ ap Err c.in-Err-Write.field-0-is)) first)
    (failed_write _ _ c.record_run.result (c.in-Err-Write.is ∙ ap Err c.in-Err-Write.field-0-is) c.record_run.ensures.failed)
    (λ m some is fits. sure_write c.record_run.result (c.in-Err-Write.is ∙ ap Err c.in-Err-Write.field-0-is) (c.record_run.ensures.sure m some is fits))
