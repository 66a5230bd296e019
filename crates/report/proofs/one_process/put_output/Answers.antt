use Rattle.std.proofs.Common.{◌++◌, List, ℕ, subst}
use Rattle.report.specs.Printing.{Prints}
use Rattle.report.proofs.Pieces.{both}
use Rattle.report.proofs.one_process.put_output.Goals as goal

pub returns : goal.returns
returns g c =
    subst (λ (end : List ℕ). Prints (g.O.Sink.given c.args.out.now) (g.O.Sink.given c.put_pieces-2.new.out) (g.O.Sink.faults c.args.out.now) (g.O.Sink.faults c.put_pieces-2.new.out)
    (c.args.output.now ++ end) c.put_pieces-2.result) c.line_end.ensures
    (both _ _ _ _ _ _ c.args.output.now c.line_end.result.now c.put_pieces.result c.put_pieces-2.result c.in_ok-put_pieces.was c.put_pieces.ensures c.put_pieces-2.ensures)
