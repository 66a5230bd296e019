use Rattle.std.proofs.Common.{length, Some, sym, ap, ◌∙◌}
use Rattle.c_tree.specs.Play.{script_of}
use Rattle.event_list.specs.Events.{count, messages}
use Rattle.c_process.specs.Shown.{look_after, line_after}
use Rattle.c_process.proofs.Shown.{look_shown}
use Rattle.c_process.specs.contracts.script.CProcProc.TheImpl as impl
use Rattle.trace_file.specs.Content.{count_of}
use Rattle.report.proofs.Shown.{its_script, its_code, its_own}
use Rattle.debugger.proofs.LookFacts.{prints_where}
use Rattle.debugger.proofs.looks.put_place.Goals as goal

pub returns-clause-text : goal.returns-clause-text
returns-clause-text g c = λ program E k.
    let p = c.args.p.no in
    let n = length c.args.world.now.processes in
    let x = c.process-process.result.now in
    let seen = sym c.process-process.ensures.process in
    let at = c.seat.ensures.process ∙ ap Some seen in
    let name = ap impl.name_of-value.it (sym seen) ∙ c.seat.ensures.name in
    let s = its_script _ program E k p x at name in
    let code = its_code _ program E k p x at name in
    prints_where _ _ _ _ p _ (look_after program n p (messages E p) (count E p)) _
    (line_after program n p (messages E p) (count E p)) _ (count E p) _ (count_of c.args.trace.now p) _
    (c.look-look.ensures ∙ look_shown x program (script_of program n p) (messages E p) (count E p) code s
    ∙ its_own _ program E k p x at name look_after)
    (c.line-line.ensures program (script_of program n p) (messages E p) (count E p) code s
    ∙ its_own _ program E k p x at name line_after)
    (c.count.ensures (script_of program n) E k.stands)
    c.count-2.ensures
    c.where_line.ensures
