-- Stepping through a replay: turns in cyclic order, with pick 0, until one makes an event.
use Rattle.std.specs.Prelude.{◌≡◌, ℕ, ◌+◌, ◌-◌, ◌%◌, List, [], ◌∷◌, ◌++◌, length, map, Option, Some, None, slice_get, if◌then◌else◌}
use Rattle.std.specs.List.{range_with_len}
use Rattle.std.specs.Option.{option_map_or}
use Rattle.nm_base.specs.Scripts.{Script}
use Rattle.event_list.specs.declared.Event.{Event}
use Rattle.event_list.specs.Traces.{Trace}
use Rattle.processes.specs.Standing.{Standing}
use Rattle.event_list.specs.Turns.{Turned, Stays, Went, go, all_reached, finish_of}
use Rattle.replay_core.specs.Replaying.{Replaying, IsReplayOf}

-- process 0 in an empty run, else the one after the process of the last event
abbrev pub next_in_turn : ℕ → List Event → ℕ
next_in_turn n R = option_map_or (λ e. (e.proc.no + 1) % n) (slice_get R (length R - 1)) 0

-- all of n processes, from this one on
abbrev pub round_from : ℕ → ℕ → List ℕ
round_from n first = map (λ i. (first + i) % n) (range_with_len 0 n)

-- the event of a turn, or else another
abbrev pub event_or : Turned → Option Event → Option Event
event_or (Went e) other = Some e
event_or (Stays why) other = other

module _ (s : ℕ → Script) (T : Trace) where
  -- a turn of process q
  abbrev pub turned_by : List Event → ℕ → Turned
  turned_by R q = go s T.mask (Some T) R (record { proc = q; pick = 0 })

  -- the event of the first of these processes whose turn makes one
  abbrev pub first_event : List Event → List ℕ → Option Event
  first_event R [] = None
  first_event R (q ∷ qs) = event_or (turned_by R q) (first_event R qs)

  -- the event of a step, unless all counts are reached or no process goes
  abbrev pub step_of : List Event → Option Event
  step_of R = if all_reached T R then None else first_event R (round_from T.n (next_in_turn T.n R))

  -- the finished replay, from the empty run
  abbrev pub full_run : List Event
  full_run = (finish_of s T []).events

-- the run with the event of a step, if there is one
abbrev pub with_step : List Event → Option Event → List Event
with_step R None = R
with_step R (Some e) = R ++ e ∷ []

-- the step made this event, or none
pub record HasStepped {P M : Type 0} (stands_for : P → Standing) (new : Replaying P M)
    (s : ℕ → Script) (T : Trace) (R : List Event) (e : Option Event) : Type 0 where
  pub is : step_of s T R ≡ e
  pub stands : IsReplayOf stands_for new s T (with_step R e)
