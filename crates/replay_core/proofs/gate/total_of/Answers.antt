use Rattle.std.proofs.Common.{arith, ◌+◌}
use Rattle.trace_file.specs.Content.{count_of}
use Rattle.replay_core.proofs.GateLaws.{sum_mono, small, sum_next}
use Rattle.replay_core.proofs.gate.total_of.Goals as goal

pub overflow_add-total : goal.overflow_add-total
overflow_add-total c =
    let t = c.args.trace.now in
    omega (arith, c.loop-p.invariant, c.count-total.ensures, sum_next c.loop-p.p (count_of t), sum_mono t.n (c.loop-p.p + 1) (count_of t) (omega (arith, c.loop-p-test.true, c.n-n.ensures)), (small t c.requires).sum)

pub loop-p-preserved : goal.loop-p-preserved
loop-p-preserved c = omega (arith, c.loop-p.invariant, c.count-total.ensures, sum_next c.loop-p.p (count_of c.args.trace.now))
