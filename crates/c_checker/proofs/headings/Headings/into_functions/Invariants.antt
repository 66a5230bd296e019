use Rattle.std.proofs.Common.{◌≡◌, ◌++◌}
use Rattle.std.specs.Vec.Iter.{into_iter_items, into_iter_len}
use Rattle.c_checker.specs.Units as spec
use Rattle.c_checker.proofs.headings.Headings.into_functions.Given as goal

abbrev pub invariant-loop-heading : goal.invariant-loop-heading
invariant-loop-heading l = record {
  made : l.functions ++ spec.functions_of (into_iter_items l.rest) ≡ spec.functions_of l.fn.self;
  missing : spec.missing (into_iter_items l.rest) ≡ spec.missing l.fn.self;
}

abbrev pub decreases-loop-heading : goal.decreases-loop-heading
decreases-loop-heading l = into_iter_len l.rest
