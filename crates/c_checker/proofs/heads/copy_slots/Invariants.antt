use Rattle.std.proofs.Common.{◌≡◌, ◌++◌, length}
use Rattle.c_checker.proofs.heads.copy_slots.Given as goal

abbrev pub invariant-loop-slots : goal.invariant-loop-slots
invariant-loop-slots l = l.copy ++ l.slots ≡ l.fn.slots

abbrev pub decreases-loop-slots : goal.decreases-loop-slots
decreases-loop-slots l = length l.slots
