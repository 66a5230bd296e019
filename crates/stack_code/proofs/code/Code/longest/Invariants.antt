use Rattle.std.proofs.Common.{◌≡◌, ℕ, ◌<◌, ◌≤◌}
use Rattle.std.specs.Prelude.{Some, slice_get}
use Rattle.stack_code.specs.declared.layout.LaidFunction.{LaidFunction}
use Rattle.stack_code.proofs.code.Code.longest.Given as goal

abbrev pub invariant-loop-function : goal.invariant-loop-function
invariant-loop-function l = (k : ℕ) (f : LaidFunction) → k < l.function-index → slice_get l.self.layout.functions.items k ≡ Some f → f.len ≤ l.longest
