use Rattle.std.proofs.Common.{◌≡◌, ◌-◌, ◌+◌, suc, sym, ap, ◌∙◌, arith}
use Rattle.c_tree.specs.Storage.{zeroed}
use Rattle.proc_machine.proofs.Upper.{cleared_one}
use Rattle.proc_machine.proofs.words.Words.clear.Goals as goal

pub loop-preserved : goal.loop-preserved
loop-preserved c =
    let n = c.args.len - (c.loop.counter + 1) in
    let more : c.args.len - c.loop.counter ≡ suc n = omega arith in
    (omega (arith, c.loop.invariant.0), ap (zeroed n (c.loop.at + 1)) c.set.ensures ∙ sym (cleared_one (c.args.len - c.loop.counter) n c.loop.at 0 c.loop.self more) ∙ c.loop.invariant.1)
