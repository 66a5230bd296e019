use Rattle.std.proofs.Common.{◌≡◌, ◌-◌, drop, length}
use Rattle.std.specs.Prelude.{find, nat_le}
use Rattle.mailboxes.specs.Queues.{waiting_in}
use Rattle.mailboxes.proofs.ordered_mail.first_from.Given as goal

-- what is found so far is among those to come
abbrev pub invariant-loop-place : goal.invariant-loop-place
invariant-loop-place l =
    find (λ k. nat_le l.posted k.posted) (waiting_in (drop l.place l.slots)) ≡ find (λ k. nat_le l.posted k.posted) (waiting_in l.slots)

abbrev pub decreases-loop-place : goal.decreases-loop-place
decreases-loop-place l = length l.slots - l.place
