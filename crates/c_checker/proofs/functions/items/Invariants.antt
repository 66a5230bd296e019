use Rattle.std.proofs.Common.{◌≡◌, length}
use Rattle.c_checker.specs.Units as spec
use Rattle.c_checker.proofs.functions.items.Given as goal

abbrev pub invariant-loop-list : goal.invariant-loop-list
invariant-loop-list l = spec.items l.fn.list l.fn.file ≡ spec.items l.list l.file

abbrev pub decreases-loop-list : goal.decreases-loop-list
decreases-loop-list l = length l.list
