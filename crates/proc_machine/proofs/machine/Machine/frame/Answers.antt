use Rattle.std.proofs.Common.{◌-◌, arith}
use Rattle.stack_code.specs.View.{seen_code}
use Rattle.proc_machine.proofs.Begins.{seen_within, seen_at}
use Rattle.proc_machine.proofs.Places.{inner_placed, outer_placed}
use Rattle.proc_machine.proofs.machine.Machine.frame.Goals as goal

pub caller-requires : goal.caller-requires
caller-requires c =
    let m = c.args.self.now in
    omega (arith, seen_within (seen_code m.setting.code.now) m.setting.count m.setting.me.no m.execution m.begun c.args.i c.requires, c.if-i-eq0.false)

pub returns-then-i-eq0-clause-placed : goal.returns-then-i-eq0-clause-placed
returns-then-i-eq0-clause-placed c =
    let m = c.args.self.now in
    let at = inner_placed (seen_code m.setting.code.now) m.setting.count m.setting.me.no m.execution m.begun m.next c.args.i c.requires m.kept in
    search (at)

pub returns-else-i-eq0-clause-same : goal.returns-else-i-eq0-clause-same
returns-else-i-eq0-clause-same c =
    let m = c.args.self.now in
    seen_at (seen_code m.setting.code.now) m.setting.count m.setting.me.no m.execution m.begun c.args.i c.caller.result c.requires c.if-i-eq0.false c.caller.ensures

pub returns-else-i-eq0-clause-placed : goal.returns-else-i-eq0-clause-placed
returns-else-i-eq0-clause-placed c =
    let m = c.args.self.now in
    let at = outer_placed (seen_code m.setting.code.now) m.setting.count m.setting.me.no m.execution m.begun m.next c.args.i c.requires m.kept (c.args.i - 1) c.caller.result c.caller.ensures in
    search (at)
