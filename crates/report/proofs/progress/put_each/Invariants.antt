use Rattle.std.proofs.Common.{Ok}
use Rattle.std.specs.List.{flat_map, range_with_len}
use Rattle.report.specs.Printing.{Prints}
use Rattle.report.specs.Texts.{progress_text}
use Rattle.report.proofs.progress.put_each.Given as goal

abbrev pub invariant-loop-process : goal.invariant-loop-process
invariant-loop-process g l =
    Prints (g.O.Sink.given l.fn.out) (g.O.Sink.given l.out) (g.O.Sink.faults l.fn.out) (g.O.Sink.faults l.out)
    (flat_map (progress_text l.events l.counts) (range_with_len 0 l.process)) (Ok tt)
