use Rattle.std.proofs.Common.{◌≡◌, ◌+◌, ◌-◌}
use Rattle.std.specs.Prelude.{map}
use Rattle.std.specs.Vec.{vec_len}
use Rattle.watchers.specs.private.Telling.{IsTelling}
use Rattle.watchers.proofs.telling.tell.Given as goal

abbrev pub invariant-loop-i : goal.invariant-loop-i
invariant-loop-i g l =
    IsTelling l.e (map g.W.Watcher.watched l.fn.list.items)
    (map g.W.Watcher.watched l.list.items) l.i l.dropped
    × (l.dropped + vec_len l.list ≡ vec_len l.fn.list)

abbrev pub decreases-loop-i : goal.decreases-loop-i
decreases-loop-i g l = vec_len l.list - l.i
