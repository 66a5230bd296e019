-- Running on to the next event.
use Rattle.std.specs.Prelude.{◌≡◌, ℕ, suc, ◌+◌, ◌-◌, ◌*◌, ◌<◌, ◌^◌, Bool, true, false, List, ◌∷◌, length, Option, Some, None, slice_get, option_map, IsTrue, if◌then◌else◌}
use Rattle.nm_base.specs.declared.kind.Kind.{Kind}
use Rattle.nm_base.specs.declared.kind.Kind.TheVariants as kind
use Rattle.nm_base.specs.declared.letter.Letter.{Letter}
use Rattle.c_tree.specs.State.{State, Over, Done, Stopped}
use Rattle.stack_code.specs.declared.instr.Instr.{Instr}
use Rattle.stack_code.specs.declared.instr.Instr.TheVariants as instr
use Rattle.stack_code.specs.Code.{Placed, Code, steps_of}
use Rattle.stack_code.specs.Machine.{Control, filled, blocks_of, step, exec}
use Rattle.proc_machine.specs.declared.execution.Execution.{Execution}
use Rattle.proc_machine.specs.declared.pause.Pause.{Pause}
use Rattle.proc_machine.specs.declared.pause.Pause.TheVariants as pause
use Rattle.proc_machine.specs.Pauses.{status_of}
use Rattle.proc_machine.specs.private.Outcomes.{pause_by}
use Rattle.proc_machine.specs.View.{control_of, data_with}
use Rattle.proc_machine.specs.private.Moves.{data_to_take, waits}

-- a run comes from one place and its data to another
pub record Reaches (code : Code) (count me : ℕ) (c : Control) (s : State) (d : Control) (u : State) : Type 0 where
  pub steps : ℕ
  pub comes : exec code count me steps c s ≡ Done d u

abbrev pub waits_at : Option Placed → Pause → Bool
waits_at None next = false
waits_at (Some x) next = waits x.instr next

-- an execution runs on to where another one is, where these events were made and no more are
abbrev pub RunsOn : Code → ℕ → ℕ → Execution → Execution → List Kind → Type 0
RunsOn code count me old new events =
    Reaches code count me (control_of old) (data_with old events 0) (control_of new) (data_with new events 0)

-- its state with these events made, each frame with its blocks
abbrev pub state_there : Code → ℕ → ℕ → Execution → List Kind → State
state_there code count me e events = filled (blocks_of code count me (control_of e)) (data_with e events 0)

-- Where an event is the last one, the run is over with it.
abbrev pub IsLastThere : Code → ℕ → ℕ → Execution → Pause → Type 0
IsLastThere code count me e (pause.Fault cause) =
    (events : List Kind) → step code count me (control_of e) (data_with e events 1) ≡ Stopped Over
    (state_there code count me e (kind.Faulted cause ∷ events))
IsLastThere code count me e (pause.End value) = (events : List Kind)
    → step code count me (control_of e) (data_with e events 1)
    ≡ Stopped Over (state_there code count me e (kind.Ended value ∷ events))
IsLastThere code count me e next = Unit {0}

-- it stands just before this event
pub record StandsBefore (code : Code) (count me : ℕ) (e : Execution) (next : Pause) : Type 0 where
  -- where no more events may be made it stops there
  pub stops : (events : List Kind) → step code count me (control_of e) (data_with e events 0)
      ≡ Stopped (status_of next) (state_there code count me e events)
  -- where one may be made, it is this
  pub next_is : (events : List Kind) → pause_by (step code count me (control_of e) (data_with e events 1)) ≡ Some next
  pub last : IsLastThere code count me e next
  pub waits_there : IsTrue (waits_at (slice_get (steps_of code e.frame.function) e.frame.place) next)

-- ---- a measure of the way to the next event

abbrev pub is_line : Instr → Bool
is_line (instr.Line line) = true
is_line i = false

abbrev pub is_line_at : Option Placed → Bool
is_line_at None = false
is_line_at (Some x) = is_line x.instr

-- At a Line it is there. Before, it goes on to later places, of which no function has 2 ^ 30, and to callers.
abbrev pub way : Code → Execution → ℕ
way code e =
    if is_line_at (slice_get (steps_of code e.frame.function) e.frame.place) then 0
    else suc (length e.calls.callers * suc (2 ^ 30) + (2 ^ 30 - e.frame.place))

pub record GoesOn (code : Code) (count me : ℕ) (old new : Execution) : Type 0 where
  pub goes : (events : List Kind) → step code count me (control_of old) (data_with old events 0)
      ≡ Done (control_of new) (data_with new events 0)
  pub nearer : way code new < way code old
  pub sent : new.sent ≡ old.sent

abbrev pub Steps : Code → ℕ → ℕ → Execution → Execution → Option Pause → Type 0
Steps code count me old new None = GoesOn code count me old new
Steps code count me old new (Some next) = (new ≡ old) × StandsBefore code count me old next

-- an event is made, and the run goes on to just before the next
pub record After (code : Code) (count me : ℕ) (old new : Execution) (made : Kind) (next : Pause) : Type 0 where
  pub middle : Execution
  pub makes : (events : List Kind) → step code count me (control_of old) (data_with old events 1)
      ≡ Done (control_of middle) (data_with middle (made ∷ events) 0)
  pub reaches : (events : List Kind) → RunsOn code count me middle new events
  pub stands : StandsBefore code count me new next

-- a letter is accepted, and the run goes on to just before the next event
pub record Accepts (code : Code) (count me : ℕ) (old new : Execution) (set : ℕ) (letter : Letter)
    (next : Pause) : Type 0 where
  pub middle : Execution
  pub takes : (events : List Kind) → step code count me (control_of old) (data_to_take old events letter)
      ≡ Done (control_of middle) (data_with middle (kind.Accepted set letter.id ∷ events) 0)
  pub reaches : (events : List Kind) → RunsOn code count me middle new events
  pub stands : StandsBefore code count me new next

-- the instruction at which it stands
abbrev pub instr_at : Code → Execution → Option Instr
instr_at code e = option_map (λ (x : Placed). x.instr) (slice_get (steps_of code e.frame.function) e.frame.place)
