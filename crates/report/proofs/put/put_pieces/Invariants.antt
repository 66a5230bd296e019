use Rattle.std.proofs.Common.{take, Ok}
use Rattle.report.specs.Printing.{Prints, joined}
use Rattle.report.proofs.put.put_pieces.Given as goal

abbrev pub invariant-loop-piece : goal.invariant-loop-piece
invariant-loop-piece g l = Prints (g.O.Sink.given l.initial.out) (g.O.Sink.given l.out) (g.O.Sink.faults l.initial.out) (g.O.Sink.faults l.out) (joined (take l.piece-index l.pieces)) (Ok tt)
