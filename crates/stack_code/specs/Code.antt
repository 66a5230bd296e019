-- Code for a stack machine.
use Rattle.std.specs.Prelude.{ℕ, List, [], Option, Some, None, take, slice_get}
use Rattle.stack_code.specs.declared.instr.Instr.{Instr}
use Rattle.stack_code.specs.declared.code.Variable.{Variable}

-- an instruction, and the locals' slots of each block that is entered at it, the innermost first
pub record Placed : Type 0 where
  pub instr : Instr
  pub entered : List (List ℕ)

pub record FunctionCode : Type 0 where
  pub name : List ℕ
  pub steps : List Placed
  -- that of its name
  pub line : ℕ
  pub param_words : ℕ
  pub frame_words : ℕ
  -- how many of the slots are parameters
  pub param_count : ℕ
  -- the parameters, and then the locals
  pub slots : List Variable

pub record Code : Type 0 where
  pub functions : List FunctionCode
  pub main : ℕ
  pub texts : List (List ℕ)
  -- the words of the globals at the start
  pub globals : List ℕ
  -- the globals
  pub variables : List Variable

abbrev pub steps_by : Option FunctionCode → List Placed
steps_by None = []
steps_by (Some f) = f.steps

abbrev pub entered_by : Option Placed → List (List ℕ)
entered_by None = []
entered_by (Some x) = x.entered

abbrev pub params_of : FunctionCode → List Variable
params_of f = take f.param_count f.slots

module _ (code : Code) where
  abbrev pub steps_of : ℕ → List Placed
  steps_of f = steps_by (slice_get code.functions f)

  -- the blocks that are entered at a place of a function
  abbrev pub entered_at : ℕ → ℕ → List (List ℕ)
  entered_at f pc = entered_by (slice_get (steps_of f) pc)
