use Rattle.std.proofs.Common.{[], ap, ◌∙◌}
use Rattle.proc_machine.specs.declared.machine.Machine.{Machine}
use Rattle.proc_machine.specs.Machines.{state_of}
use Rattle.c_process.proofs.Shown.{output_shown}
use Rattle.c_process.proofs.process.CProc.output.Goals as goal

pub returns : goal.returns
returns c = λ p s letters k is h.
    c.output.ensures
    ∙ ap (λ (m : Machine). (state_of m []).output) c.deref.ensures
    ∙ output_shown c.args.self.now p s letters k is h
