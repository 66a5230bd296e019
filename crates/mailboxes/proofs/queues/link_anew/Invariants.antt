use Rattle.std.proofs.Common.{take}
use Rattle.std.specs.Prelude.{◌≤◌, length}
use Rattle.std.specs.Vec.{vec_capacity}
use Rattle.mailboxes.specs.Queues.{Linked}
use Rattle.mailboxes.proofs.queues.link_anew.Given as goal

-- the slots so far are linked, and there is room for the links of the others
abbrev pub invariant-loop-place : goal.invariant-loop-place
invariant-loop-place l = Linked (take l.place l.slots) l.next.items l.heads l.tails × (length l.slots ≤ vec_capacity l.next)
