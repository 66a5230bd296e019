use Rattle.std.proofs.Common.{Ok}
use Rattle.std.specs.Prelude.{map}
use Rattle.std.specs.List.{flat_map, range_with_len}
use Rattle.report.specs.Printing.{Prints}
use Rattle.debugger.proofs.WatchFacts.{said_at}
use Rattle.debugger.proofs.watching.put_each.Given as goal

abbrev pub invariant-loop-k : goal.invariant-loop-k
invariant-loop-k g l =
    Prints (g.O.Sink.given l.fn.out) (g.O.Sink.given l.out) (g.O.Sink.faults l.fn.out) (g.O.Sink.faults l.out)
    (flat_map (said_at (map g.W.Watcher.watched l.watch.items))
    (range_with_len 0 l.k)) (Ok tt)
