-- Going back in a replay whose events were made with pick 0.
use Rattle.std.specs.Prelude.{ℕ, List, take}
use Rattle.nm_base.specs.Scripts.{Script}
use Rattle.processes.specs.Standing.{Standing}
use Rattle.event_list.specs.declared.Event.{Event}
use Rattle.event_list.specs.FirstPicks.{IsFirstPicked}
use Rattle.event_list.specs.Traces.{Trace}
use Rattle.world.specs.Worlds.{Parts}
use Rattle.replay_core.specs.Replaying.{Replaying, IsReplayOf}

-- the replay with this world in the place of its own, and with its first k events
abbrev pub with_world : {P M : Type 0} → Replaying P M → Parts P M → ℕ → Replaying P M
with_world r w k = record { world = w; gate = r.gate; events = take k r.events }

-- the replay came to R by turns with pick 0 alone, and with this world it replays the first of these events
pub record IsWayBack {P M : Type 0} (stands_for : P → Standing) (r : Replaying P M) (w : Parts P M)
    (s : ℕ → Script) (T : Trace) (R : List Event) : Type 0 where
  pub replays : IsReplayOf stands_for r s T R
  pub picked : IsFirstPicked s T R
  pub front : IsReplayOf stands_for (with_world r w w.events) s T (take w.events R)

pub record HasWayBack {P M : Type 0} (stands_for : P → Standing) (r : Replaying P M) (w : Parts P M) : Type 0 where
  pub scripts : ℕ → Script
  pub trace : Trace
  pub run : List Event
  pub way : IsWayBack stands_for r w scripts trace run

-- the second replays the first k of the events
abbrev pub GoesBack : {P M : Type 0} → (P → Standing) → Replaying P M → Parts P M → Replaying P M → ℕ → Type 0
GoesBack stands_for r w v k =
    (s : ℕ → Script) (T : Trace) (R : List Event) → IsWayBack stands_for r w s T R
    → IsReplayOf stands_for v s T (take k R)
