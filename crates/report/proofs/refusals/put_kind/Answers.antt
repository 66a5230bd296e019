use Rattle.std.proofs.Common.{◌++◌, List, ℕ, codes, subst, ◌∙◌}
use Rattle.std.specs.Fmt.{decimal}
use Rattle.report.specs.Printing.{Prints}
use Rattle.report.proofs.Pieces.{both}
use Rattle.report.proofs.refusals.put_kind.Goals as goal

pub returns : goal.returns
returns g c =
    let kind = c.as_bytes.ensures.value in
    let digits = c.as_bytes-2.ensures.value ∙ c.format.ensures.text in
    subst (λ (k : List ℕ). Prints (g.O.Sink.given c.args.out.now) (g.O.Sink.given c.put_pieces-2.new.out) (g.O.Sink.faults c.args.out.now) (g.O.Sink.faults c.put_pieces-2.new.out)
    ((c.args.start.now ++ k ++ c.args.middle.now) ++ (decimal c.args.number ++ codes "\n")) c.put_pieces-2.result) kind
    (subst (λ (n : List ℕ). Prints (g.O.Sink.given c.args.out.now) (g.O.Sink.given c.put_pieces-2.new.out) (g.O.Sink.faults c.args.out.now) (g.O.Sink.faults c.put_pieces-2.new.out)
    ((c.args.start.now ++ c.as_bytes.result.now ++ c.args.middle.now) ++ (n ++ codes "\n")) c.put_pieces-2.result) digits
    (both _ _ _ _ _ _ (c.args.start.now ++ c.as_bytes.result.now ++ c.args.middle.now) (c.as_bytes-2.result.now ++ codes "\n") c.put_pieces.result c.put_pieces-2.result c.in_ok-put_pieces.was
    c.put_pieces.ensures c.put_pieces-2.ensures))
