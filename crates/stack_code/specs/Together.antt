-- The code of all functions, one behind the other.
use Rattle.std.specs.Prelude.{ℕ, List, [], ◌∷◌, ◌++◌, length, take}
use Rattle.stack_code.specs.Code.{Placed, FunctionCode, Code}

abbrev pub steps_together : List FunctionCode → List Placed
steps_together [] = []
steps_together (f ∷ fs) = f.steps ++ steps_together fs

module _ (code : Code) where
  abbrev pub all_steps : List Placed
  all_steps = steps_together code.functions

  -- where a function's begin among them: behind those of the functions before it
  abbrev pub start_of : ℕ → ℕ
  start_of g = length (steps_together (take g code.functions))
