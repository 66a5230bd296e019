-- Where an execution stands in valid code.
use Rattle.std.specs.Prelude.{◌≡◌, ℕ, ◌+◌, ◌<◌, ◌≤◌, ◌^◌, List, [], ◌∷◌, ◌++◌, length, Some, slice_get, IsTrue}
use Rattle.stack_code.specs.Code.{FunctionCode, Code, steps_of}
use Rattle.stack_code.specs.Machine.{Caller, Control}
use Rattle.stack_code.specs.Valid.{Operand, Value, Place, finds, IsSound, is_within}
use Rattle.proc_machine.specs.declared.execution.Execution.{Execution}
use Rattle.proc_machine.specs.private.Heights.{high}
use Rattle.proc_machine.specs.View.{control_of}
use Rattle.proc_machine.specs.private.Moves.{FramesFit}

-- every operand but a place is a word
abbrev pub IsOf : Operand → ℕ → Type 0
IsOf Place x = Unit {0}
IsOf k x = x < 2 ^ 32

abbrev pub AreOf : List Operand → List ℕ → Type 0
AreOf [] [] = Unit {0}
AreOf [] (x ∷ xs) = ⊥
AreOf (k ∷ ks) [] = ⊥
AreOf (k ∷ ks) (x ∷ xs) = IsOf k x × AreOf ks xs

-- a function's code from a place on finds its operands, which are these with some more above them
pub record IsFound (code : Code) (g pc : ℕ) (above : List Operand) (operands : List ℕ) : Type 0 where
  pub function : FunctionCode
  pub here : slice_get code.functions g ≡ Some function
  pub kinds : List Operand
  pub are : AreOf kinds operands
  pub find : (n : ℕ) → IsTrue (finds code function n pc (above ++ kinds))

-- Callers go on behind their Call with a value. No function has more operands than there are at most at its place.
abbrev pub Wait : Code → List Caller → Type 0
Wait code [] = Unit {0}
Wait code (k ∷ ks) = IsFound code k.function (k.pc + 1) (Value ∷ []) k.stack
    × (length k.stack + 1 ≤ high code k.function (k.pc + 1)) × Wait code ks

pub record IsSoundAt (code : Code) (c : Control) : Type 0 where
  pub here : IsFound code c.function c.pc [] c.stack
  pub low : length c.stack ≤ high code c.function c.pc
  pub callers : Wait code c.callers

-- an execution that can go on
pub record Holds (code : Code) (e : Execution) : Type 0 where
  pub sound : IsSound code
  pub within : IsTrue (is_within code)
  pub control : IsSoundAt code (control_of e)
  pub frames : FramesFit code e
  -- there is room for all operands of a function
  pub room : (g place : ℕ) → place < length (steps_of code g) → high code g place + 2 ≤ e.calls.height
  pub short : (g : ℕ) → length (steps_of code g) < 2 ^ 30
