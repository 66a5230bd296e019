use Rattle.std.proofs.Common.{Ok, slice_index}
use Rattle.std.specs.List.{flat_map, range_with_len}
use Rattle.report.specs.Printing.{Prints}
use Rattle.report.specs.Replies.{part_text}
use Rattle.report.proofs.letters.put_parts.Given as goal

abbrev pub invariant-loop-process : goal.invariant-loop-process
invariant-loop-process g l =
    Prints (g.O.Sink.given l.fn.out) (g.O.Sink.given l.out) (g.O.Sink.faults l.fn.out) (g.O.Sink.faults l.out)
    (flat_map (part_text (slice_index l.stamp.parts)) (range_with_len 0 l.process)) (Ok tt)
