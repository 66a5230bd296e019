use Rattle.std.proofs.Common.{ℕ, List, length, Some, sym, ap, ◌∙◌}
use Rattle.c_tree.specs.Play.{script_of}
use Rattle.event_list.specs.Events.{count, messages}
use Rattle.c_tree.specs.declared.program.Program.{Program}
use Rattle.nm_base.specs.Message.{Message}
use Rattle.c_process.specs.Values.{value_after}
use Rattle.c_process.specs.contracts.script.CProcProc.TheImpl as impl
use Rattle.report.proofs.Shown.{its_script, its_code, its_own}
use Rattle.report.proofs.Pieces.{same_text}
use Rattle.report.specs.Replies.{notice_line}
use Rattle.debugger.proofs.LookFacts.{prints_seen}
use Rattle.debugger.proofs.looks.put_value.Goals as goal

pub returns-in-Ok-clause-text : goal.returns-in-Ok-clause-text
returns-in-Ok-clause-text g c = λ program E k.
    let p = c.args.p.no in
    let n = length c.args.world.now.processes in
    let x = c.process.result.now in
    let seen = sym c.process.ensures.process in
    let at = c.seat.ensures.process ∙ ap Some seen in
    let name = ap impl.name_of-value.it (sym seen) ∙ c.seat.ensures.name in
    let s = its_script _ program E k p x at name in
    let code = its_code _ program E k p x at name in
    let value =
    λ (pr : Program) (m me : ℕ) (ms : List Message) (e : ℕ).
    value_after pr m me ms e c.args.name.now c.args.index in
    prints_seen _ _ _ _ c.args.name.now c.args.index c.value.result _ _
    (value_after program n p (messages E p) (count E p) c.args.name.now c.args.index) _ c.in-Ok.is
    (c.value.ensures program (script_of program n p) (messages E p) (count E p) code s)
    (its_own _ program E k p x at name value) c.value_line.ensures

pub returns-in-Err-clause-text : goal.returns-in-Err-clause-text
returns-in-Err-clause-text g c = λ program E k.
    let p = c.args.p.no in
    let n = length c.args.world.now.processes in
    let x = c.process.result.now in
    let seen = sym c.process.ensures.process in
    let at = c.seat.ensures.process ∙ ap Some seen in
    let name = ap impl.name_of-value.it (sym seen) ∙ c.seat.ensures.name in
    let s = its_script _ program E k p x at name in
    let code = its_code _ program E k p x at name in
    let value =
    λ (pr : Program) (m me : ℕ) (ms : List Message) (e : ℕ).
    value_after pr m me ms e c.args.name.now c.args.index in
    prints_seen _ _ _ _ c.args.name.now c.args.index c.value.result _ _
    (value_after program n p (messages E p) (count E p) c.args.name.now c.args.index) _ c.in-Err.is
    (c.value.ensures program (script_of program n p) (messages E p) (count E p) code s)
    (its_own _ program E k p x at name value)
    (same_text _ _ _ _ _ _ _ (ap notice_line c.notice_of.ensures) c.notice_line.ensures)
