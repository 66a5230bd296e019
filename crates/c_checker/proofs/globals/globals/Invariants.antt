use Rattle.std.proofs.Common.{◌≡◌, length}
use Rattle.c_checker.specs.Units as spec
use Rattle.c_checker.proofs.globals.globals.Given as goal

abbrev pub invariant-loop-list : goal.invariant-loop-list
invariant-loop-list l = spec.globals l.of l.fn.list l.fn.file ≡ spec.globals l.of l.list l.file

abbrev pub decreases-loop-list : goal.decreases-loop-list
decreases-loop-list l = length l.list
