use Rattle.std.proofs.Common.{arith}
use Rattle.stack_code.specs.View.{seen_code}
use Rattle.proc_machine.proofs.Begins.{seen_length}
use Rattle.proc_machine.proofs.machine.Machine.frame_count.Goals as goal

pub returns-then-self : goal.returns-then-self
returns-then-self c =
    let m = c.args.self.now in
    omega (arith, seen_length (seen_code m.setting.code.now) m.setting.count m.setting.me.no m.execution m.begun c.if-self.true, c.callers.ensures.same)
