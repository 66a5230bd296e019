-- Where a machine stands in a run of the code.
use Rattle.std.specs.Prelude.{◌≡◌, ℕ, Bool, true, false, List, [], ◌∷◌, length}
use Rattle.nm_base.specs.declared.kind.Kind.{Kind}
use Rattle.nm_base.specs.Message.{Message}
use Rattle.c_tree.specs.State.{State, Able, Over, Outcome, Done, Stopped}
use Rattle.stack_code.specs.Code.{Code}
use Rattle.stack_code.specs.Machine.{Control, filled, blocks_of, step, run_code}
use Rattle.proc_machine.specs.declared.execution.Execution.{Execution}
use Rattle.proc_machine.specs.declared.pause.Pause.{Pause}
use Rattle.proc_machine.specs.declared.pause.Pause.TheVariants as pause
use Rattle.proc_machine.specs.View.{control_of, data_with}

-- its state, with these events made; each frame has its blocks
abbrev pub shown_state : Code → ℕ → ℕ → Execution → Bool → List Kind → State
shown_state code count me e true events = filled (blocks_of code count me (control_of e)) (data_with e events 0)
shown_state code count me e false events = record (data_with e events 0) { frames = [] }

-- what a run comes to that comes to it
abbrev pub stand : Code → ℕ → ℕ → Execution → Bool → Pause → List Kind → Outcome Control
stand code count me e begun pause.Done events = Stopped Over (shown_state code count me e begun events)
stand code count me e true next events = Done (control_of e) (data_with e events 0)
stand code count me e false next events = Stopped Able (shown_state code count me e false events)

-- the run of all but the last of these events comes to its place, and the step from there makes the last one, with
-- which the process is over
pub record EndsThere (code : Code) (count me : ℕ) (e : Execution) (inputs : List Message)
    (events : List Kind) : Type 0 where
  pub last : Kind
  pub before : List Kind
  pub made : events ≡ last ∷ before
  pub steps : ℕ
  pub comes : run_code code count me inputs (length before) steps ≡ Done (control_of e) (data_with e before 0)
  pub ends : step code count me (control_of e) (data_with e before 1)
      ≡ Stopped Over (shown_state code count me e true events)

-- what is over stays where it ended
abbrev pub StaysThere : Code → ℕ → ℕ → Execution → Bool → Pause → List Message → List Kind → Type 0
StaysThere code count me e true pause.Done inputs events = EndsThere code count me e inputs events
StaysThere code count me e begun next inputs events = Unit {0}

-- the run of the code that accepted these letters and made these events, the last one first, comes to it
pub record ComesTo (code : Code) (count me : ℕ) (e : Execution) (begun : Bool) (next : Pause) (inputs : List Message)
    (events : List Kind) : Type 0 where
  pub steps : ℕ
  pub comes : run_code code count me inputs (length events) steps ≡ stand code count me e begun next events
  pub stays : StaysThere code count me e begun next inputs events

-- whether it makes an event by itself
abbrev pub goes_by_itself : Pause → Bool
goes_by_itself (pause.Receive set) = false
goes_by_itself pause.Done = false
goes_by_itself next = true
