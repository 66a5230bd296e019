-- A list of events that is stored in memory.
use Rattle.std.specs.Prelude.{ℕ, ◌<◌, ◌≤◌, ◌==◌, ◌&&◌, Bool, List, length, Contains}
use Rattle.nm_base.specs.declared.limits.TheConstants.{MAX_EVENTS, MAX_PROCESSES}
use Rattle.event_list.specs.declared.Event.{Event}

-- how many more events it takes in without memory is its spare
pub record Stored : Type 0 where
  pub events : List Event
  pub spare : ℕ

-- what each stored list meets: its events are few, and of processes that there may be
pub record IsBounded (events : List Event) : Type 0 where
  pub few : length events ≤ MAX_EVENTS
  pub below : (e : Event) → Contains events e → e.proc.no < MAX_PROCESSES

-- whether it is p's event of this number
abbrev pub is_numbered : ℕ → ℕ → Event → Bool
is_numbered p number e = (e.proc.no == p) && (e.number == number)
