use Rattle.std.proofs.Common.{◌≡◌, [], ◌++◌, length}
use Rattle.c_checker.specs.declared.state.Body.{Body}
use Rattle.c_checker.specs.Scope.{ScopeNames}
use Rattle.c_checker.specs.Statements as spec
use Rattle.c_checker.proofs.labels.make_labels.Given as goal

abbrev pub invariant-loop-list : goal.invariant-loop-list
invariant-loop-list l = record {
  added : l.before ≡ l.fn.before ++ l.these;
  found : (names : ScopeNames) (s : Body) → spec.labels names l.fn.before [] l.fn.list s ≡ spec.labels names l.fn.before l.these l.list s;
}

abbrev pub decreases-loop-list : goal.decreases-loop-list
decreases-loop-list l = length l.list
