-- What a machine stands for.
use Rattle.std.specs.Prelude.{◌≡◌, ℕ, suc, ◌+◌, ◌-◌, ◌≤◌, List, [], ◌∷◌, ◌++◌, length}
use Rattle.std.specs.Vec.{vec_len, vec_capacity}
use Rattle.nm_base.specs.declared.kind.Kind.{Kind}
use Rattle.nm_base.specs.declared.letter.ProcNo.{ProcNo}
use Rattle.nm_base.specs.declared.kind.Kind.TheVariants as kind
use Rattle.nm_base.specs.declared.letter.Letter.{Letter}
use Rattle.nm_base.specs.Message.{Message, message_of}
use Rattle.c_tree.specs.State.{State, Wants, Outcome, Stopped}
use Rattle.c_tree.specs.State as state
use Rattle.c_tree.specs.Play.{played_of}
use Rattle.stack_code.specs.Code.{Code}
use Rattle.stack_code.specs.Machine.{Caller, Control, run_code}
use Rattle.stack_code.specs.View.{seen_code}
use Rattle.proc_machine.specs.declared.machine.Machine.{Machine}
use Rattle.proc_machine.specs.declared.machine.MachineFrame.{MachineFrame}
use Rattle.proc_machine.specs.declared.pause.Pause.{Pause}
use Rattle.proc_machine.specs.declared.pause.Pause.TheVariants as pause
use Rattle.proc_machine.specs.Pauses.{status_of, pause_of}
use Rattle.proc_machine.specs.View.{control_of}
use Rattle.proc_machine.specs.Standing.{ComesTo, shown_state}

-- the code, the number of processes, and which of them it is
pub record MachineSetting : Type 0 where
  pub code : Code
  pub count : ℕ
  pub me : ProcNo

abbrev pub machine_setting : Machine → MachineSetting
machine_setting m = record { code = seen_code m.setting.code.now; count = m.setting.count; me = m.setting.me }

-- the event before which it stands
abbrev pub next_of : Machine → Pause
next_of m = m.next

-- it accepted these letters and made these events, the last one first
abbrev pub MachineStandsFor : Machine → List Message → List Kind → Type 0
MachineStandsFor m inputs events =
    ComesTo (seen_code m.setting.code.now) m.setting.count m.setting.me.no m.execution m.begun m.next inputs events

-- its state, where these events were made: no letters are to come and no more events are to be made
abbrev pub state_of : Machine → List Kind → State
state_of m events =
    shown_state (seen_code m.setting.code.now) m.setting.count m.setting.me.no m.execution m.begun events

-- how many bytes can be printed with no new memory, and how many letters were sent
abbrev pub spare_output : Machine → ℕ
spare_output m = vec_capacity m.execution.output - vec_len m.execution.output

abbrev pub letters_sent : Machine → ℕ
letters_sent m = m.execution.sent

-- ---- what comes next

-- A run with no more events stops with this pause's status in this state.
pub record Expects (set : MachineSetting) (inputs : List Message) (events : List Kind) (next : Pause)
    (s : State) : Type 0 where
  pub steps : ℕ
  pub stops : run_code set.code set.count set.me.no inputs (length events) steps ≡ Stopped (status_of next) s

-- a run made these events and then one of this pause's kind, and may make no more
pub record HasMade (events : List Kind) (next : Pause) (o : Outcome Control) : Type 0 where
  pub made : Kind
  pub fits : pause_of made ≡ next
  pub events_are : (played_of o).state.events ≡ made ∷ events
  pub none_left : (played_of o).state.left ≡ 0

-- a run made these events, and stops at a receive on these channels
pub record HasCome (events : List Kind) (channels : ℕ) (o : Outcome Control) : Type 0 where
  pub state : State
  pub waits : o ≡ Stopped (Wants channels) state
  pub events_are : state.events ≡ events

-- A run that may make one more event comes to where it has made this one, or to the receive.
abbrev pub MakesNext : MachineSetting → List Message → List Kind → Pause → Type 0
MakesNext set inputs events pause.Done = Unit {0}
MakesNext set inputs events (pause.Receive channels) =
    (steps : ℕ) × HasCome events channels (run_code set.code set.count set.me.no inputs (suc (length events)) steps)
MakesNext set inputs events next =
    (steps : ℕ) × HasMade events next (run_code set.code set.count set.me.no inputs (suc (length events)) steps)

-- ---- frames

abbrev pub frame_seen : ℕ → ℕ → state.Frame → MachineFrame
frame_seen function place f =
    record { at = record { function = function; place = place }; base = f.base; line = f.line }

abbrev pub callers_seen : List Caller → List state.Frame → List MachineFrame
callers_seen [] frames = []
callers_seen (k ∷ ks) [] = []
callers_seen (k ∷ ks) (f ∷ fs) = frame_seen k.function k.pc f ∷ callers_seen ks fs

abbrev pub places_seen : Control → List state.Frame → List MachineFrame
places_seen c [] = []
places_seen c (f ∷ fs) = frame_seen c.function c.pc f ∷ callers_seen c.callers fs

-- the innermost first: where each frame stands in the code, an outer one at its Call
abbrev pub frames_of : Machine → List MachineFrame
frames_of m = places_seen (control_of m.execution) (state_of m []).frames

-- ---- machines that are alike

pub record IsSame (a b : Machine) : Type 0 where
  pub setting : machine_setting b ≡ machine_setting a
  pub next : b.next ≡ a.next
  pub begun : b.begun ≡ a.begun
  pub frame : b.execution.frame ≡ a.execution.frame
  pub calls : b.execution.calls ≡ a.execution.calls
  pub words : b.execution.words ≡ a.execution.words
  pub letter : b.execution.letter ≡ a.execution.letter
  pub output : b.execution.output.items ≡ a.execution.output.items
  pub sent : b.execution.sent ≡ a.execution.sent

-- it made this event, before which it stood, and stands before the next
pub record IsAdvanced (old new : Machine) (made : Kind) : Type 0 where
  pub stands : (inputs : List Message) (events : List Kind) → MachineStandsFor old inputs events
      → MachineStandsFor new inputs (made ∷ events)
  pub fits : pause_of made ≡ old.next
  pub setting : machine_setting new ≡ machine_setting old
  pub sent : letters_sent new ≤ letters_sent old + 1

-- it accepted this letter, and stands before the next event
pub record HasAccepted (old new : Machine) (set : ℕ) (letter : Letter) (made : Kind) : Type 0 where
  pub kind_is : made ≡ kind.Accepted set letter.id
  pub stands : (inputs : List Message) (events : List Kind) → MachineStandsFor old inputs events
      → MachineStandsFor new (inputs ++ message_of letter ∷ []) (made ∷ events)
  pub setting : machine_setting new ≡ machine_setting old
  pub sent : letters_sent new ≡ letters_sent old
