use Rattle.std.proofs.Common.{ℕ, ◌<◌, ◌≤◌, ◌-◌, length, slice_index_or}
use Rattle.checkpoints.proofs.parts.count_up_to.Given as goal
use Rattle.world.specs.Worlds.{Parts}

abbrev pub invariant-loop-n : goal.invariant-loop-n
invariant-loop-n g l = (l.n ≤ length l.worlds)
    × ((i : ℕ) (d : Parts g.row.P.Denot g.row.M.Denot) → i < l.n → (slice_index_or l.worlds i d).events ≤ l.k)

abbrev pub decreases-loop-n : goal.decreases-loop-n
decreases-loop-n g l = length l.worlds - l.n
