use Rattle.std.proofs.Common.{◌-◌, length}
use Rattle.std.specs.Prelude.{map}
use Rattle.nm_base.specs.declared.limits.TheConstants.{MAX_EVENTS}
use Rattle.debugger.proofs.Running.{KeepsRunning}
use Rattle.debugger.proofs.forward.run_on.Given as goal

abbrev pub invariant-loop-event : goal.invariant-loop-event
invariant-loop-event g l =
    KeepsRunning l.fn.session (map g.W.Watcher.watched l.fn.watch.items)
    l.session (map g.W.Watcher.watched l.watch.items)

abbrev pub decreases-loop-event : goal.decreases-loop-event
decreases-loop-event g l = MAX_EVENTS - length l.session.replay.events
