use Rattle.std.specs.Prelude.{map}
use Rattle.causal_stop.specs.Stops.{cut_of}
use Rattle.debugger.proofs.GoingTo.{IsMoving}
use Rattle.debugger.proofs.backward.go_to.Given as goal

abbrev pub invariant-loop-i : goal.invariant-loop-i
invariant-loop-i g l =
    IsMoving l.fn.session l.session (map g.W.Watcher.watched l.fn.watch.items)
    (map g.W.Watcher.watched l.watch.items) l.events.events (cut_of l.cut) l.i
