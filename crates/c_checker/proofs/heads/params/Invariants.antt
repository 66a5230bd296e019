use Rattle.std.proofs.Common.{◌≡◌, List, [], length}
use Rattle.c_tree.specs.declared.program.Slot.{Slot}
use Rattle.c_checker.specs.Scope.{ScopeNames}
use Rattle.c_checker.specs.Units as spec
use Rattle.c_checker.proofs.heads.params.Given as goal

abbrev pub invariant-loop-list : goal.invariant-loop-list
invariant-loop-list l = (names : List Slot → ScopeNames) → spec.params names l.defines [] l.fn.list ≡ spec.params names l.defines l.before l.list

abbrev pub decreases-loop-list : goal.decreases-loop-list
decreases-loop-list l = length l.list
