use Rattle.std.proofs.Common.{length, ap, arith}
use Rattle.stack_code.proofs.Laid.{below_end, all_within}
use Rattle.stack_code.proofs.code.Code.longest.Goals as goal

pub returns : goal.returns
returns c =
    let l = c.args.self.now.layout in
    all_within l.functions.items l.instrs.items l.inside.items c.args.self.now.laid c.loop-function.longest
    (λ k f e. let lt = below_end l.functions.items k f e in c.loop-function.invariant k f (omega (arith, lt, ap length c.deref-function-items.ensures.value)) e)
