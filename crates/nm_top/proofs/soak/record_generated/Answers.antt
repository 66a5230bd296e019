use Rattle.std.proofs.Common.{Err, refl, ap, ◌∙◌, arith, sym}
use Rattle.std.proofs.lemmas.Bool.{false≢true}
use Rattle.c_tree.specs.Play.{script_of}
use Rattle.c_tree.proofs.Histories.{scripts_are_lawful}
use Rattle.stack_code.specs.View.{seen_code}
use Rattle.nm_outside.specs.Held.{held_by}
use Rattle.recorder.specs.Outcomes.{run_of_first, turns_made}
use Rattle.nm_top.specs.declared.soak.TheConstants.{SOAK_PROCESSES, SOAK_ROOM}
use Rattle.nm_top.proofs.StartLaws.{begins, runs_from}
use Rattle.nm_top.proofs.RecordLaws.{sure_write}
use Rattle.nm_top.proofs.SoakLaws.{few_turns, generated_many, has_soaked}
use Rattle.nm_top.proofs.soak.record_generated.Goals as goal

pub record_run-requires-clause-some : goal.record_run-requires-clause-some
record_run-requires-clause-some c = omega (arith, c.in_ok-seats.ensures.count)

pub record_run-requires-clause-few : goal.record_run-requires-clause-few
record_run-requires-clause-few c = omega (arith, c.in_ok-seats.ensures.count)

pub record_run-requires-clause-names : goal.record_run-requires-clause-names
record_run-requires-clause-names c = λ p x at. (c.in_ok-seats.ensures.each p x at).name

pub record_run-requires-clause-begins : goal.record_run-requires-clause-begins
record_run-requires-clause-begins c = λ p x at.
    (script_of c.requires.code.0 SOAK_PROCESSES p, (c.in_ok-seats.ensures.each p x at).stands c.requires.code.0 c.requires.code.1)

pub record_run-requires-clause-turns : goal.record_run-requires-clause-turns
record_run-requires-clause-turns c = few_turns c.in_ok-schedule.schedule _ c.in_ok-seats.ensures.count c.in_ok-schedule.ensures.turns

pub unreachable-requires : goal.unreachable-requires
unreachable-requires c =
    false≢true (sym (sure_write c.record_run.result (c.in-Err-Write.is ∙ ap Err c.in-Err-Write.field-0-is)
    (c.record_run.ensures.sure SOAK_ROOM refl c.requires.room (omega (arith, generated_many c.in_ok-schedule.schedule c.args.seed c.in_ok-schedule.ensures.list)))))

pub returns-in-None : goal.returns-in-None
returns-in-None c = λ p is_code.
    let r = c.in-Ok.recorded in
    let ts = c.in_ok-schedule.schedule in
    let s = script_of p SOAK_PROCESSES in
    let first = begins (seen_code c.args.code.now) SOAK_PROCESSES p c.in_ok-seats.seats.items (scripts_are_lawful p SOAK_PROCESSES) is_code c.in_ok-seats.ensures in
    let many = c.in-Ok.ensures.size ∙ c.in_ok-seats.ensures.count in
    let E = run_of_first s 0 (turns_made r.stopped ts) ts in
    let runs = runs_from (seen_code c.args.code.now) SOAK_PROCESSES r.world p E c.in_ok-seats.seats.items c.in_ok-seats.ensures c.in-Ok.ensures.origins many is_code (c.in-Ok.ensures.world s first) in
    has_soaked p c.args.seed ts c.in_ok-schedule.ensures.list r c.args.digest.now _ (held_by c.args.files.now) (held_by c.record_run.new.files) _ c.in-None.is c.in_ok-seats.ensures.count
    (c.in-Ok.ensures.recorded s first) runs
