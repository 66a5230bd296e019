-- Executions that differ at most in their memory.
use Rattle.std.specs.Prelude.{◌≡◌}
use Rattle.proc_machine.specs.declared.execution.Execution.{Execution}

-- the output's bytes are the same, and all else is
pub record IsAlike (a b : Execution) : Type 0 where
  pub others : b ≡ record a { output = b.output }
  pub output : b.output.items ≡ a.output.items
