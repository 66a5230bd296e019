use Rattle.std.proofs.Common.{arith}
use Rattle.trace_file.specs.Content.{count_of}
use Rattle.trace_file.proofs.Walk.{no_count}
use Rattle.replay_core.proofs.GateLaws.{filled_none, filled_more, filled_all}
use Rattle.nm_top.proofs.finish.counts_of.Goals as goal

pub loop-p-init : goal.loop-p-init
loop-p-init c = filled_none (count_of c.args.trace.now)

pub loop-p-preserved : goal.loop-p-preserved
loop-p-preserved c =
    filled_more (count_of c.args.trace.now) c.loop-p.p c.loop-p.counts c.count.result (omega (arith, c.loop-p-test.true, c.n-p-end.ensures, c.requires.front.header.few)) c.count.ensures c.loop-p.invariant

pub returns : goal.returns
returns c = filled_all (count_of c.args.trace.now) c.loop-p.p c.loop-p.counts (λ q l. no_count c.args.trace.now q c.requires (omega (arith, c.loop-p-test.false, l, c.n-p-end.ensures))) c.loop-p.invariant
