use Rattle.std.proofs.Common.{sym, ap, ◌∙◌}
use Rattle.proc_machine.specs.Machines.{next_of}
use Rattle.c_process.proofs.Lines.{line_before, no_line}
use Rattle.c_process.proofs.Inspected.{next_line_read}
use Rattle.c_process.proofs.process.CProc.next_line.Goals as goal

pub returns-in-Line : goal.returns-in-Line
returns-in-Line c = λ p s letters k is h.
    ap line_before (sym c.in-Line.is ∙ c.pending.ensures.same ∙ ap next_of c.deref.ensures)
    ∙ next_line_read c.args.self.now p s letters k is h

pub returns-in_default : goal.returns-in_default
returns-in_default c = λ p s letters k is h.
    sym (no_line c.pending.result c.in_default.not-Line)
    ∙ ap line_before (c.pending.ensures.same ∙ ap next_of c.deref.ensures)
    ∙ next_line_read c.args.self.now p s letters k is h
