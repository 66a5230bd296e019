use Rattle.std.proofs.Common.{ℕ, List}
use Rattle.nm_base.specs.Scripts.{Script}
use Rattle.event_list.specs.declared.Event.{Event}
use Rattle.event_list.specs.Events.{count}
use Rattle.event_list.specs.Traces.{Trace}
use Rattle.replay_core.specs.Replaying.{IsReplayOf}
use Rattle.replay_core.proofs.GateLaws.{Filled}
use Rattle.replay_core.proofs.replay.Replay.counts.Given as goal

abbrev pub invariant-loop-p : goal.invariant-loop-p
invariant-loop-p g l = (s : ℕ → Script) (T : Trace) (R : List Event) → IsReplayOf g.P.Proc.stands_for l.self s T R → Filled (count R) l.p l.counts
