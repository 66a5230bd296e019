-- What the definitions of the machine see of an execution.
use Rattle.std.specs.Prelude.{ℕ, List}
use Rattle.std.specs.Prelude.{[], ◌∷◌, option_map}
use Rattle.nm_base.specs.declared.kind.Kind.{Kind}
use Rattle.nm_base.specs.Message.{message_of}
use Rattle.c_tree.specs.State.{State}
use Rattle.c_tree.specs.State as state
use Rattle.stack_code.specs.Machine.{Caller, Control}
use Rattle.proc_machine.specs.declared.callers.Frame.{Frame as KeptFrame}
use Rattle.proc_machine.specs.declared.callers.Caller.{Caller as KeptCaller}
use Rattle.proc_machine.specs.declared.execution.Execution.{Execution}
use Rattle.proc_machine.specs.Divided.{upper, lower}

-- the callers, whose operands stand one on the other
abbrev pub callers_of : List KeptCaller → List ℕ → List Caller
callers_of [] operands = []
callers_of (k ∷ ks) operands =
    record { function = k.frame.function; pc = k.frame.place; stack = upper k.below operands } ∷ callers_of ks
    (lower k.below operands)

abbrev pub control_of : Execution → Control
control_of e = record {
  function = e.frame.function;
  pc = e.frame.place;
  stack = e.calls.own;
  callers = callers_of e.calls.callers e.calls.outer;
}

abbrev pub frame_in : KeptFrame → state.Frame
frame_in f = record { function = f.function; line = f.line; base = f.base; entered = [] }

abbrev pub frames_in : List KeptCaller → List state.Frame
frames_in [] = []
frames_in (k ∷ ks) = frame_in k.frame ∷ frames_in ks

-- its data, where these events were made, the last one first, and so many more may be
abbrev pub data_with : Execution → List Kind → ℕ → State
data_with e events left = record {
  words = e.words;
  frames = frame_in e.frame ∷ frames_in e.calls.callers;
  letter = option_map message_of e.letter;
  output = e.output.items;
  inputs = [];
  events = events;
  left = left;
  sent = e.sent;
}
