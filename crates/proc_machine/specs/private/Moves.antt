-- What an instruction does to an execution, or before which event it stands.
use Rattle.std.specs.Prelude.{◌≡◌, ℕ, zero, suc, ◌+◌, ◌<◌, ◌≤◌, ◌^◌, slice_get, IsTrue, Bool, true, false, ◌==◌, List}
use Rattle.std.specs.Prelude.{[], ◌∷◌, ◌++◌, length, take, drop, reverse, replicate, Option, Some, None, Result, Ok, Err}
use Rattle.nm_base.specs.declared.kind.Kind.{Kind}
use Rattle.nm_base.specs.declared.kind.Kind.TheVariants as kind
use Rattle.nm_base.specs.declared.kind.FaultCause.{FaultCause}
use Rattle.nm_base.specs.declared.letter.Letter.{Letter}
use Rattle.nm_base.specs.Message.{message_of}
use Rattle.nm_base.specs.declared.limits.TheConstants.{MAX_DATA_WORDS}
use Rattle.c_tree.specs.State.{State, Done, Stopped, Over, Run}
use Rattle.stack_code.specs.declared.code.FunctionFrame.{FunctionFrame}
use Rattle.stack_code.specs.declared.instr.Instr.{Instr}
use Rattle.stack_code.specs.declared.instr.Instr.TheVariants as instr
use Rattle.stack_code.specs.Code.{FunctionCode, Code}
use Rattle.stack_code.specs.Machine.{Control, act}
use Rattle.stack_code.specs.Together.{start_of}
use Rattle.proc_machine.specs.declared.callers.Frame.{Frame as KeptFrame}
use Rattle.proc_machine.specs.declared.callers.Caller.{Caller as KeptCaller}
use Rattle.proc_machine.specs.declared.execution.Execution.{Execution}
use Rattle.proc_machine.specs.declared.pause.Pause.{Pause}
use Rattle.proc_machine.specs.declared.pause.Pause.TheVariants as pause
use Rattle.proc_machine.specs.Pauses.{status_of}
use Rattle.proc_machine.specs.private.Outcomes.{pause_by}
use Rattle.proc_machine.specs.View.{control_of, data_with}

-- Where an event is the last one, the run is over with it.
abbrev pub IsLast : Run Control → Execution → Pause → Type 0
IsLast run e (pause.Fault cause) =
    (events : List Kind) → run (data_with e events 1) ≡ Stopped Over (data_with e (kind.Faulted cause ∷ events) 0)
IsLast run e (pause.End value) =
    (events : List Kind) → run (data_with e events 1) ≡ Stopped Over (data_with e (kind.Ended value ∷ events) 0)
IsLast run e next = Unit {0}

-- one step: it goes on, or stands before an event
pub record Pauses (run : Run Control) (e : Execution) (next : Pause) : Type 0 where
  -- with no events left it stops there
  pub stops : (events : List Kind) → run (data_with e events 0) ≡ Stopped (status_of next) (data_with e events 0)
  -- with one it makes an event of this kind
  pub next_is : (events : List Kind) → pause_by (run (data_with e events 1)) ≡ Some next
  pub last : IsLast run e next

-- the topmost operands are words
abbrev pub Small : ℕ → List ℕ → Type 0
Small zero operands = Unit {0}
Small (suc n) [] = Unit {0}
Small (suc n) (x ∷ xs) = (x < 2 ^ 32) × Small n xs

abbrev pub frame_words_by : Option FunctionCode → ℕ
frame_words_by None = 0
frame_words_by (Some f) = f.frame_words

-- its words are within the limit, and its function's code begins where it says
abbrev pub FrameFits : Code → KeptFrame → Type 0
FrameFits code f = (f.base + frame_words_by (slice_get code.functions f.function) ≤ MAX_DATA_WORDS)
    × (f.start ≡ start_of code f.function)

abbrev pub CallersFit : Code → List KeptCaller → Type 0
CallersFit code [] = Unit {0}
CallersFit code (k ∷ ks) = FrameFits code k.frame × CallersFit code ks

abbrev pub FramesFit : Code → Execution → Type 0
FramesFit code e = FrameFits code e.frame × CallersFit code e.calls.callers

-- how many of the topmost operands an instruction leaves as words, apart from those that it only moves
abbrev pub gives : Instr → ℕ
gives (instr.Push bits) = 1
gives (instr.GlobalArray base len) = 2
gives (instr.LocalArray base len) = 2
gives (instr.ParamArray slot) = 2
gives instr.Load = 1
gives instr.Store = 1
gives (instr.Unary op of) = 1
gives (instr.Binary op of) = 1
gives instr.Return = 1
gives (instr.Send words) = 1
gives instr.Receive = 1
gives instr.Word = 1
gives instr.Words = 1
gives instr.From = 1
gives instr.Via = 1
gives instr.SelfNo = 1
gives instr.Count = 1
gives (instr.Print text) = 1
gives i = 0

-- what stays so that the next instruction can be done
pub record Keeps (code : Code) (i : Instr) (old new : Execution) : Type 0 where
  pub small : Small (gives i) new.calls.own
  pub height : new.calls.height ≡ old.calls.height
  pub frames : FramesFit code old → FramesFit code new

-- before which events an instruction stands
abbrev pub waits : Instr → Pause → Bool
waits i (pause.Fault cause) = true
waits (instr.Line line) (pause.Line l) = line == l
waits (instr.Send words) pause.Send = true
waits instr.Receive (pause.Receive set) = true
waits (instr.Print text) pause.Print = true
waits instr.Return (pause.End value) = true
waits i next = false

abbrev pub Moves : Code → ℕ → ℕ → Instr → Execution → Execution → Option Pause → Type 0
Moves code count me i old new None =
    ((events : List Kind) → act code count me i (control_of old) (data_with old events 0)
    ≡ Done (control_of new) (data_with new events 0)) × Keeps code i old new × (new.sent ≡ old.sent)
Moves code count me i old new (Some next) =
    (new ≡ old) × IsTrue (waits i next) × Pauses (act code count me i (control_of old)) old next

-- ---- changes

-- the next instruction, with these operands
abbrev pub onward : Execution → List ℕ → Execution
onward e own = record e { frame = record e.frame { place = e.frame.place + 1 }; calls = record e.calls { own = own } }

-- a value takes the place of so many operands, or a fault leaves all as it is
abbrev pub given : ℕ → Result ℕ FaultCause → Execution → Execution
given taken (Ok v) e = onward e (v ∷ drop taken e.calls.own)
given taken (Err cause) e = e

-- a call's frame is made: the operands for its parameters are its first words
abbrev pub opened : ℕ → ℕ → FunctionFrame → Execution → Execution
opened number start f e = record e {
  frame = record { function = number; start = start; place = 0; line = f.line; base = length e.words };
  calls = record e.calls {
    own = [];
    outer = drop f.param_words e.calls.own ++ e.calls.outer;
    callers = record { frame = e.frame; below = length e.calls.outer } ∷ e.calls.callers;
  };
  words = e.words ++ take f.frame_words (reverse (take f.param_words e.calls.own) ++ replicate f.frame_words 0);
}

-- an instruction makes an event
abbrev pub Makes : Code → ℕ → ℕ → Instr → Execution → Execution → Kind → Type 0
Makes code count me i old new k =
    ((events : List Kind) → act code count me i (control_of old) (data_with old events 1)
    ≡ Done (control_of new) (data_with new (k ∷ events) 0)) × Keeps code i old new

-- its data where one more event may be made and this letter is to come
abbrev pub data_to_take : Execution → List Kind → Letter → State
data_to_take e events letter = record (data_with e events 1) { inputs = message_of letter ∷ [] }

-- a receive takes this letter
abbrev pub Takes : Code → ℕ → ℕ → Execution → Execution → ℕ → Letter → Type 0
Takes code count me old new set letter =
    ((events : List Kind) →
    act code count me instr.Receive (control_of old) (data_to_take old events letter)
    ≡ Done (control_of new) (data_with new (kind.Accepted set letter.id ∷ events) 0))
    × Keeps code instr.Receive old new

-- the event that sends a letter
abbrev pub sent_by : Letter → Kind
sent_by l = kind.Sent l.id.number l.dest l.chan l.len l.words
