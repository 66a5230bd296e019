use Rattle.std.proofs.Common.{◌≡◌, None, take, not}
use Rattle.std.specs.Prelude.{find}
use Rattle.cut_witness.specs.private.Lookups.{has_lost}
use Rattle.cut_witness.proofs.lookups.first_lost.Given as goal

abbrev pub invariant-loop-id : goal.invariant-loop-id
invariant-loop-id l = find (λ id. not (has_lost l.sets id)) (take l.id-index l.lost) ≡ None
