use Rattle.std.proofs.Common.{ap, ◌∙◌, ◌∷◌, reverse, arith}
use Rattle.proc_machine.specs.private.Stacked.{OperandStack}
use Rattle.proc_machine.proofs.Upper.{stack_at, pushed_on}
use Rattle.proc_machine.proofs.operands.Operands.push.Goals as goal

pub returns : goal.returns
returns c =
    let o = c.self.inside in
    ap (λ l. stack_at (reverse l) o.base o.limit) c.push_reserved.ensures.items
    ∙ pushed_on o.items.items c.args.x o.base o.limit (omega (arith, c.self.invariant.0, o.items.ok.0))
    ∙ ap (λ (v : OperandStack). record v { own = c.args.x ∷ v.own }) c.self.view_is
