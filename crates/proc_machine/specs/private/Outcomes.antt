-- What a step comes to.
use Rattle.std.specs.Prelude.{ℕ, List, [], ◌∷◌, Option, Some, None, Result, Ok, Err, ◌+◌, nat_lt, length, slice_index, if◌then◌else◌}
use Rattle.nm_base.specs.declared.kind.Kind.{Kind}
use Rattle.nm_base.specs.declared.kind.FaultCause.{FaultCause}
use Rattle.nm_base.specs.declared.kind.FaultCause.TheVariants.{Index, NoLetter}
use Rattle.nm_base.specs.Message.{Message}
use Rattle.c_tree.specs.State.{Able, Wants, Over, Outcome, Done, Stopped}
use Rattle.stack_code.specs.Machine.{Control}
use Rattle.proc_machine.specs.declared.pause.Pause.{Pause}
use Rattle.proc_machine.specs.declared.pause.Pause.TheVariants as pause
use Rattle.proc_machine.specs.Pauses.{pause_of}

abbrev pub newest : List Kind → Option Pause
newest [] = None
newest (k ∷ ks) = Some (pause_of k)

-- what a run that may make one event comes to first: the event that it made, or the receive at which it waits
abbrev pub pause_by : Outcome Control → Option Pause
pause_by (Done c s) = newest s.events
pause_by (Stopped Able s) = newest s.events
pause_by (Stopped (Wants set) s) = Some (pause.Receive set)
pause_by (Stopped Over s) = newest s.events

-- an operation's fault
abbrev pub fault_of : Result ℕ FaultCause → Option Pause
fault_of (Ok v) = None
fault_of (Err cause) = Some (pause.Fault cause)

-- the place of an element, where the subscript is within
abbrev pub element_of : ℕ → ℕ → ℕ → Result ℕ FaultCause
element_of place len i = if nat_lt i len then Ok (place + i) else Err Index

-- a word of a letter, where there is one
abbrev pub word_in : Message → ℕ → Result ℕ FaultCause
word_in m i = if nat_lt i (length m.words) then Ok (slice_index m.words i) else Err NoLetter
