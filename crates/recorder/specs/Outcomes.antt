-- What a recording answers.
use Rattle.std.specs.Prelude.{ℕ, ◌<◌, ◌≤◌, Bool, true, false, List, length, map, take, Option, Some, None, Result, Ok, Err}
use Rattle.nm_base.specs.Scripts.{Script}
use Rattle.nm_outside.specs.Files.{Files}
use Rattle.schedules.specs.declared.schedule.Turn.{Turn}
use Rattle.event_list.specs.declared.Event.{Event}
use Rattle.event_list.specs.Turns.{run_of}
use Rattle.recorder.specs.declared.fault.RecordFault.{RecordFault}
use Rattle.recorder.specs.declared.fault.RecordFault.TheVariants.{Write, Memory}
use Rattle.recorder.specs.Recording.{seen_turn, Form, IsFrontOf}

-- whether a write failed
abbrev pub is_write : {T : Type 0} → Result T RecordFault → Bool
is_write (Ok x) = false
is_write (Err Write) = true
is_write (Err Memory) = false

-- the run of the first turns
abbrev pub run_of_first : (ℕ → Script) → ℕ → ℕ → List Turn → List Event
run_of_first s mask many schedule = run_of s mask (map seen_turn (take many schedule))

-- how many turns were made: all of them, unless the recording was stopped
abbrev pub turns_made : Option ℕ → List Turn → ℕ
turns_made None schedule = length schedule
turns_made (Some many) schedule = many

-- a recording that was stopped was stopped at one of its turns
abbrev pub IsStopped : Option ℕ → List Turn → Type 0
IsStopped None schedule = Unit {0}
IsStopped (Some many) schedule = many < length schedule

-- the file is a front of the trace of the first turns, for some number of turns
pub record IsCutOff (s : ℕ → Script) (f : Form) (schedule : List Turn) (name : List ℕ) (old new : Option Files)
    : Type 0 where
  pub turns : ℕ
  pub within : turns ≤ length schedule
  pub front : IsFrontOf f (run_of_first s f.mask turns schedule) name old new
