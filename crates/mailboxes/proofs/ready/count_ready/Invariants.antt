use Rattle.std.proofs.Common.{◌≡◌, ◌+◌, length, drop}
use Rattle.std.specs.Prelude.{filter}
use Rattle.mailboxes.specs.Queues.{is_ready}
use Rattle.mailboxes.proofs.ready.count_ready.Given as goal

-- those counted and those to come are all
abbrev pub invariant-loop-i : goal.invariant-loop-i
invariant-loop-i g l =
    let ready = is_ready l.mask (g.G.Gate.lets l.gate l.dest.no l.receive) l.dest.no l.set l.slots in
    l.count + length (filter ready (drop l.i l.slots)) ≡ length (filter ready l.slots)
