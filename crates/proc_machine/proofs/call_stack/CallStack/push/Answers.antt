use Rattle.std.proofs.Common.{◌<◌, length, ap, arith}
use Rattle.proc_machine.specs.private.Stacked.{Calls}
use Rattle.proc_machine.proofs.Upper.{room_for_one}
use Rattle.proc_machine.proofs.call_stack.CallStack.push.Goals as goal

pub push-requires : goal.push-requires
push-requires c =
    let i = c.self.inside in
    let own = ap (λ (v : Calls). length v.own) c.self.view_is in
    let height = ap (λ (v : Calls). v.height) c.self.view_is in
    let lt : length i.operands.own < i.height = omega (arith, c.requires, own, height) in
    room_for_one i.height i.operands.limit (length i.operands.own) i.callers i.operands.outer lt c.self.invariant.1 c.self.invariant.0 c.self.invariant.2
