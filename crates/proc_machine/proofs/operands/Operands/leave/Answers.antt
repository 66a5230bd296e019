use Rattle.std.proofs.Common.{◌≡◌, ◌≤◌, length, min, take, reverse, ap, ◌∙◌, arith}
use Rattle.proc_machine.specs.private.Stacked.{OperandStack}
use Rattle.proc_machine.proofs.Upper.{stack_at, left_by}
use Rattle.proc_machine.proofs.operands.Operands.leave.Goals as goal

pub returns : goal.returns
returns c =
    let o = c.self.inside in
    let xs = o.items.items in
    let base : o.base ≤ length xs = omega (arith, c.self.invariant.0, o.items.ok.0) in
    let least : c.min-self-inside.result ≡ min c.args.below o.base = omega (arith, c.min-self-inside.ensures, c.len.ensures, c.truncate.ensures.len, o.items.ok.0, base) in
    ap (λ l. stack_at (reverse l) c.min-self-inside.result o.limit) c.truncate.ensures.items
    ∙ ap (λ b. stack_at (reverse (take o.base xs)) b o.limit) least
    ∙ left_by xs o.base c.args.below o.limit base
    ∙ ap (λ (v : OperandStack). stack_at v.outer c.args.below v.limit) c.self.view_is
