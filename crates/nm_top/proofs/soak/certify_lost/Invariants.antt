use Rattle.std.proofs.Common.{◌≡◌}
use Rattle.nm_top.proofs.soak.certify_lost.Given as goal

-- one for each of the first
abbrev pub invariant-loop-id : goal.invariant-loop-id
invariant-loop-id l = l.made ≡ l.id-index
