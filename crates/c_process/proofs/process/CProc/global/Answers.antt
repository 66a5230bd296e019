use Rattle.std.proofs.Common.{None, Some, ◌∙◌}
use Rattle.c_process.proofs.Inspected.{global_read}
use Rattle.c_process.proofs.process.CProc.global.Goals as goal

pub returns-in-None : goal.returns-in-None
returns-in-None c = λ p s letters k is h.
    global_read c.args.self.now p s letters k is h c.args.name.now c.args.index 0 None c.in-None.ensures

pub returns-in-Some : goal.returns-in-Some
returns-in-Some c = λ p s letters k is h.
    c.show.ensures ∙ global_read c.args.self.now p s letters k is h c.args.name.now c.args.index 0 (Some c.in-Some.found) c.in-Some.ensures
