use Rattle.std.proofs.Common.{None, Some, length, sym, ap, ◌∙◌}
use Rattle.std.specs.Prelude.{slice_get}
use Rattle.proc_machine.specs.declared.machine.Machine.{Machine}
use Rattle.proc_machine.specs.Machines.{frames_of}
use Rattle.c_process.proofs.Inspected.{value_read, frameless_read}
use Rattle.c_process.proofs.process.CProc.value.Goals as goal

pub returns-then-frame_count-eq0 : goal.returns-then-frame_count-eq0
returns-then-frame_count-eq0 c = λ p s letters k is h.
    let none = sym (c.frame_count.ensures ∙ ap (λ (m : Machine). length (frames_of m)) c.deref.ensures) ∙ c.if-frame_count-eq0.true in
    c.global.ensures p s letters k is h ∙ frameless_read c.args.self.now p s letters k is h c.args.name.now c.args.index none

pub returns-in-None : goal.returns-in-None
returns-in-None c = λ p s letters k is h.
    let first = sym (ap (λ (m : Machine). slice_get (frames_of m) 0) c.deref-2.ensures) ∙ c.frame-frame.ensures.same in
    value_read c.args.self.now p s letters k is h c.args.name.now c.args.index c.frame-frame.result first None c.in-None.ensures

pub returns-in-Some : goal.returns-in-Some
returns-in-Some c = λ p s letters k is h.
    let first = sym (ap (λ (m : Machine). slice_get (frames_of m) 0) c.deref-2.ensures) ∙ c.frame-frame.ensures.same in
    c.show.ensures
    ∙ value_read c.args.self.now p s letters k is h c.args.name.now c.args.index c.frame-frame.result first (Some c.in-Some.found) c.in-Some.ensures
