use Rattle.std.proofs.Common.{◌≡◌}
use Rattle.nm_top.proofs.soak.certify_noted.Given as goal

-- one for each of the first
abbrev pub invariant-loop-note : goal.invariant-loop-note
invariant-loop-note l = l.made ≡ l.note-index
