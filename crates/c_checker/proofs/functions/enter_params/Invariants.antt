use Rattle.std.proofs.Common.{◌≡◌, ◌+◌, ◌++◌, length}
use Rattle.c_checker.specs.Units as spec
use Rattle.c_checker.proofs.functions.enter_params.Given as goal

abbrev pub invariant-loop-params : goal.invariant-loop-params
invariant-loop-params l = record {
  entered : l.entries ++ spec.param_entries l.number l.params ≡ l.fn.entries ++ spec.param_entries 0 l.fn.params;
  counted : l.number + length l.params ≡ length l.fn.params;
}

abbrev pub decreases-loop-params : goal.decreases-loop-params
decreases-loop-params l = length l.params
