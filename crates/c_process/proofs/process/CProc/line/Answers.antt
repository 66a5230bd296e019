use Rattle.std.proofs.Common.{[], ap, sym, ◌∙◌}
use Rattle.stack_code.specs.View.{seen_code}
use Rattle.proc_machine.specs.declared.pause.Pause.{Pause}
use Rattle.proc_machine.specs.Machines.{next_of, state_of}
use Rattle.c_process.specs.Standing.{main_line_of}
use Rattle.c_process.proofs.Lines.{line_at, line_else}
use Rattle.c_process.proofs.Shown.{line_shown}
use Rattle.c_process.proofs.process.CProc.line.Goals as goal

pub returns-in-Line : goal.returns-in-Line
returns-in-Line c = λ p s letters k is h.
    let x = c.args.self.now in
    let here = λ (n : Pause). line_at n (state_of x.machine.value []).frames (main_line_of (seen_code x.code.now)) in
    let next = c.pending.ensures.same ∙ ap next_of c.deref.ensures in
    ap here (sym c.in-Line.is ∙ next) ∙ line_shown x p s letters k is h

pub returns-in_default : goal.returns-in_default
returns-in_default c = λ p s letters k is h.
    let x = c.args.self.now in
    let frames = (state_of x.machine.value []).frames in
    let here = λ (n : Pause). line_at n frames (main_line_of (seen_code x.code.now)) in
    let next = c.pending.ensures.same ∙ ap next_of c.deref.ensures in
    c.line_of_frame.ensures
    ∙ sym (line_else c.pending.result frames (main_line_of (seen_code x.code.now)) c.in_default.not-Line)
    ∙ ap here next
    ∙ line_shown x p s letters k is h
