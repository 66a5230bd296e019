use Rattle.std.proofs.Common.{Ok}
use Rattle.std.specs.List.{flat_map, range_with_len}
use Rattle.report.specs.Printing.{Prints}
use Rattle.report.specs.Replies.{event_line}
use Rattle.debugger.proofs.LookFacts.{element_at}
use Rattle.debugger.proofs.looks.put_events.Given as goal

abbrev pub invariant-loop-i : goal.invariant-loop-i
invariant-loop-i g l =
    Prints (g.O.Sink.given l.fn.out) (g.O.Sink.given l.out) (g.O.Sink.faults l.fn.out) (g.O.Sink.faults l.out)
    (flat_map (element_at event_line l.latest) (range_with_len 0 l.i)) (Ok tt)
