use Rattle.std.proofs.Common.{length, sym, ap, ◌∙◌}
use Rattle.proc_machine.specs.declared.machine.Machine.{Machine}
use Rattle.proc_machine.specs.Machines.{frames_of}
use Rattle.c_process.proofs.Inspected.{count_read}
use Rattle.c_process.proofs.process.CProc.frame_count.Goals as goal

pub returns-clause-means : goal.returns-clause-means
returns-clause-means c = λ p s letters k is h.
    c.frame_count.ensures
    ∙ ap (λ (m : Machine). length (frames_of m)) c.deref.ensures
    ∙ sym (count_read c.args.self.now p s letters k is h)
