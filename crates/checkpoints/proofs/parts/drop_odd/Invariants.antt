use Rattle.std.proofs.Common.{◌≡◌, ◌+◌, ◌-◌, ◌*◌, ◌≤◌}
use Rattle.std.specs.Vec.{vec_len, vec_capacity}
use Rattle.checkpoints.specs.Kept.{evens}
use Rattle.checkpoints.proofs.Thinning.{left_at}
use Rattle.checkpoints.proofs.parts.drop_odd.Given as goal

abbrev pub invariant-loop-from : goal.invariant-loop-from
invariant-loop-from g l = (left_at l.kept l.from l.worlds.items ≡ evens l.fn.worlds.items)
    × (l.from ≡ 2 * l.kept)
    × (l.from ≤ vec_len l.worlds + 1)
    × (vec_len l.worlds ≡ vec_len l.fn.worlds)
    × (vec_capacity l.worlds ≡ vec_capacity l.fn.worlds)

abbrev pub decreases-loop-from : goal.decreases-loop-from
decreases-loop-from g l = vec_len l.worlds + 1 - l.from
