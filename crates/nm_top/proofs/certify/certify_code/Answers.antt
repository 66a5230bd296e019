use Rattle.std.proofs.Common.{[]}
use Rattle.c_tree.specs.Play.{script_of}
use Rattle.replay_core.specs.Gates.{seen_trace}
use Rattle.c_process.specs.contracts.script.CProcProc.TheImpl as process
use Rattle.nm_top.proofs.CertifyLaws.{nothing_told, finished_run, stuck_told}
use Rattle.nm_top.proofs.certify.certify_code.Goals as goal

pub returns-in_default : goal.returns-in_default
returns-in_default g c = λ p code. nothing_told p c.args.trace.now _ _

pub certify_finished-requires-clause-sound : goal.certify_finished-requires-clause-sound
certify_finished-requires-clause-sound g c =
    let t = c.args.trace.now in
    let k = c.requires.code in
    let h = c.in-Ok-finish.ensures.finished (script_of k.0 t.n) (seen_trace t) [] (c.in-Ok.ensures k.0 k.1).replays in
    (k.0, t.n, (finished_run k.0 t process.stands_for-value.it c.finish.new.self c.in-Ok-finish.field-0 c.events.result.now.events c.events.ensures h).1)

pub returns-in-Ok-finish : goal.returns-in-Ok-finish
returns-in-Ok-finish g c = λ p code.
    let t = c.args.trace.now in
    let h = c.in-Ok-finish.ensures.finished (script_of p t.n) (seen_trace t) [] (c.in-Ok.ensures p code).replays in
    let run = finished_run p t process.stands_for-value.it c.finish.new.self c.in-Ok-finish.field-0 c.events.result.now.events c.events.ensures h in
    c.certify_finished.ensures p run.0 h.reached run.1

pub returns-in-Err-Stuck : goal.returns-in-Err-Stuck
returns-in-Err-Stuck g c = λ p code.
    let t = c.args.trace.now in
    let h = c.in-Err-Stuck.ensures.failed (script_of p t.n) (seen_trace t) [] (c.in-Ok.ensures p code).replays in
    stuck_told p t process.stands_for-value.it c.finish.new.self c.in-Err-Stuck.field-0 c.in-Err-Stuck.counts _ c.in-Err-Stuck.field-0-is h c.in-Err-Stuck.counts-is
    _ _ _ _ c.tell.result c.stuck.result c.stuck.ensures c.tell.ensures

pub returns : goal.returns
returns g c = λ p code. nothing_told p c.args.trace.now _ _
