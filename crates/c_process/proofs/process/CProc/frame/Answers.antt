use Rattle.std.proofs.Common.{sym, ap, ◌∙◌}
use Rattle.std.specs.Prelude.{slice_get}
use Rattle.proc_machine.specs.declared.machine.Machine.{Machine}
use Rattle.proc_machine.specs.Machines.{frames_of}
use Rattle.c_process.specs.Values.{frames_after}
use Rattle.c_process.proofs.Inspected.{inner_read, outer_read}
use Rattle.c_process.proofs.process.CProc.frame.Goals as goal

pub returns-then-i-eq0 : goal.returns-then-i-eq0
returns-then-i-eq0 c = λ p s letters k is h.
    let x = c.args.self.now in
    let here = sym (ap (λ (m : Machine). slice_get (frames_of m) c.args.i) c.deref.ensures) ∙ c.frame-frame.ensures.same in
    let first = sym (ap (slice_get (frames_of x.machine.value)) c.if-i-eq0.true) ∙ here in
    let line = c.line-line.ensures p s letters k is h in
    ap (slice_get (frames_after p x.machine.value.setting.count x.me.no letters k)) c.if-i-eq0.true
    ∙ inner_read x p s letters k is h c.frame-frame.result c.line-line.result first line

pub returns-else-i-eq0 : goal.returns-else-i-eq0
returns-else-i-eq0 c = λ p s letters k is h.
    let here = sym (ap (λ (m : Machine). slice_get (frames_of m) c.args.i) c.deref.ensures) ∙ c.frame-frame.ensures.same in
    outer_read c.args.self.now p s letters k is h c.args.i c.frame-frame.result c.if-i-eq0.false here
