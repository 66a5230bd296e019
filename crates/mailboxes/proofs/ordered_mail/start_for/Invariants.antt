use Rattle.std.proofs.Common.{◌≤◌, length}
use Rattle.mailboxes.proofs.ordered_mail.start_for.Given as goal

abbrev pub invariant-loop-start : goal.invariant-loop-start
invariant-loop-start l = l.start ≤ length l.slots

abbrev pub decreases-loop-start : goal.decreases-loop-start
decreases-loop-start l = l.start
