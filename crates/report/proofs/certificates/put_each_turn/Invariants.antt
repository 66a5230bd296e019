use Rattle.std.proofs.Common.{take, Ok}
use Rattle.std.specs.List.{flat_map}
use Rattle.report.specs.Printing.{Prints}
use Rattle.report.specs.Texts.{turn_text}
use Rattle.report.proofs.certificates.put_each_turn.Given as goal

abbrev pub invariant-loop-turn : goal.invariant-loop-turn
invariant-loop-turn g l =
    Prints (g.O.Sink.given l.initial.out) (g.O.Sink.given l.out) (g.O.Sink.faults l.initial.out) (g.O.Sink.faults l.out) (flat_map turn_text (take l.turn-index l.turns)) (Ok tt)
