-- Turns of a step that made no event, and events that are made again.
use Rattle.std.specs.Prelude.{◌≡◌, ℕ, ◌+◌, ◌%◌, ◌<◌, List, map}
use Rattle.nm_base.specs.Scripts.{Script}
use Rattle.processes.specs.Standing.{Standing}
use Rattle.event_list.specs.declared.Event.{Event}
use Rattle.event_list.specs.Traces.{Trace}
use Rattle.event_list.specs.Turns.{Idle, Stays}
use Rattle.world.specs.Worlds.{Parts}
use Rattle.replay_core.specs.Replaying.{Replaying, IsReplayOf, ReplaysAll, IsSameRun}
use Rattle.replay_core.specs.Backwards.{GoesBack, with_world}
use Rattle.replay_core.specs.Stepping.{turned_by}

-- i turns in cyclic order were idle, of the processes from the first on
pub record HasIdled {P M O : Type 0} (stands_for : P → Standing) (origin_of : P → O) (old new : Replaying P M)
    (first i : ℕ) : Type 0 where
  pub stands : ReplaysAll stands_for old new
  pub same : IsSameRun origin_of old new
  pub idle : (s : ℕ → Script) (T : Trace) (R : List Event) → IsReplayOf stands_for old s T R → (j : ℕ) → j < i
      → (why : Idle) × (turned_by s T R ((first + j) % T.n) ≡ Stays why)

-- the world has made the first i events again
pub record IsMadeUpTo {P M O : Type 0} (stands_for : P → Standing) (origin_of : P → O) (r : Replaying P M)
    (from w : Parts P M) (i : ℕ) : Type 0 where
  pub fronts : GoesBack stands_for r from (with_world r w i) i
  pub origins : map origin_of w.processes ≡ map origin_of from.processes
