-- Replays that are made by turns with pick 0: each receive accepts the first letter that is allowed.
use Rattle.std.specs.Prelude.{◌≡◌, ℕ, List, Some}
use Rattle.nm_base.specs.Fitting.{EachFits}
use Rattle.nm_base.specs.Scripts.{Script}
use Rattle.event_list.specs.declared.Event.{Event}
use Rattle.event_list.specs.Traces.{Trace}
use Rattle.event_list.specs.Turns.{Turn, Went, go}

-- a turn of the event's process, with pick 0
abbrev pub first_turn : Event → Turn
first_turn e = record { proc = e.proc.no; pick = 0 }

-- after R, that turn makes the event
pub record FitsFirst (s : ℕ → Script) (T : Trace) (R : List Event) (e : Event) : Type 0 where
  pub made : go s T.mask (Some T) R (first_turn e) ≡ Went e

-- each event of R is made so
abbrev pub IsFirstPicked : (ℕ → Script) → Trace → List Event → Type 0
IsFirstPicked s T R = EachFits (FitsFirst s T) R
