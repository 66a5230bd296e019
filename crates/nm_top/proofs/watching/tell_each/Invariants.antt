use Rattle.std.proofs.Common.{take, map}
use Rattle.nm_top.specs.Watches.{Hear, given}
use Rattle.nm_top.proofs.watching.tell_each.Given as goal

abbrev pub invariant-loop-i : goal.invariant-loop-i
invariant-loop-i g l =
    Hear (take l.i l.events.events)
    (given (map g.W.Watcher.watched l.fn.watch.items)
    (map g.W.Watcher.watched l.watch.items))
