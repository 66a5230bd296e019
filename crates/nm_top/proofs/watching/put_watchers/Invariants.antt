use Rattle.std.proofs.Common.{take, map, Ok}
use Rattle.report.specs.Printing.{Prints}
use Rattle.nm_top.specs.Watches.{watch_lines}
use Rattle.nm_top.proofs.watching.put_watchers.Given as goal

abbrev pub invariant-loop-k : goal.invariant-loop-k
invariant-loop-k g l =
    Prints (g.O.Sink.given l.fn.out) (g.O.Sink.given l.out) (g.O.Sink.faults l.fn.out) (g.O.Sink.faults l.out)
    (watch_lines 0 (take l.k (map g.W.Watcher.watched l.watch.items))) (Ok tt)
