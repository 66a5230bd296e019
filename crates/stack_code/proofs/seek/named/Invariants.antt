use Rattle.std.proofs.Common.{◌≡◌, drop}
use Rattle.stack_code.specs.Seek.{first_named}
use Rattle.stack_code.proofs.seek.named.Given as goal

abbrev pub invariant-loop-variable : goal.invariant-loop-variable
invariant-loop-variable l = first_named l.name (drop l.variable-index l.variables) ≡ first_named l.name l.variables
