use Rattle.std.proofs.Common.{◌≡◌, drop}
use Rattle.std.specs.Prelude.{slice_get, map, filter}
use Rattle.mailboxes.specs.Queues.{is_ready}
use Rattle.mailboxes.proofs.ready.kth_ready.Given as goal

-- the letter looked for is so far among those to come
abbrev pub invariant-loop-i : goal.invariant-loop-i
invariant-loop-i g l =
    let ready = is_ready l.mask (g.G.Gate.lets l.gate l.dest.no l.receive) l.dest.no l.set l.slots in
    slice_get (map (λ s. s.letter.id) (filter ready (drop l.i l.slots))) l.left ≡ slice_get (map (λ s. s.letter.id) (filter ready l.slots)) l.k
