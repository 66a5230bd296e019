use Rattle.std.proofs.Common.{take, Ok}
use Rattle.std.specs.List.{flat_map}
use Rattle.report.specs.Printing.{Prints}
use Rattle.report.specs.Texts.{byte_digits}
use Rattle.report.proofs.put.put_bytes.Given as goal

abbrev pub invariant-loop-byte : goal.invariant-loop-byte
invariant-loop-byte g l =
    Prints (g.O.Sink.given l.initial.out) (g.O.Sink.given l.out) (g.O.Sink.faults l.initial.out) (g.O.Sink.faults l.out) (flat_map byte_digits (take l.byte-index l.digest)) (Ok tt)
