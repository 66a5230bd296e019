use Rattle.std.proofs.Common.{arith}
use Rattle.event_list.specs.Events.{count}
use Rattle.replay_core.proofs.GateLaws.{filled_none, filled_more, filled_all}
use Rattle.replay_core.proofs.ReplayLaws.{none_past}
use Rattle.replay_core.proofs.replay.Replay.counts.Goals as goal

pub loop-p-init : goal.loop-p-init
loop-p-init g c s T R h = filled_none (count R)

pub loop-p-preserved : goal.loop-p-preserved
loop-p-preserved g c s T R h =
    filled_more (count R) c.loop-p.p c.loop-p.counts c.count.result (omega (arith, c.loop-p-test.true, c.n-n.ensures.few)) (c.count.ensures s T R h) (c.loop-p.invariant s T R h)

pub returns : goal.returns
returns g c s T R h =
    filled_all (count R) c.loop-p.p c.loop-p.counts (λ q l. none_past g.P.Proc.stands_for _ s T R h q (omega (arith, c.loop-p-test.false, l, c.n-n.ensures.n))) (c.loop-p.invariant s T R h)
