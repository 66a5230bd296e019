use Rattle.std.proofs.Common.{drop, ◌+◌, sym, subst, refl}
use Rattle.report.specs.Printing.{Prints, joined}
use Rattle.report.proofs.Pieces.{still_failed, failed_on, both, joined_at}
use Rattle.report.proofs.put.put_pieces.Goals as goal

pub returns-in_err-put : goal.returns-in_err-put
returns-in_err-put g c =
    let given = both _ _ _ _ _ _ _ _ _ c.put.result refl c.loop-piece.invariant (record { ok = c.put.ensures.ok; err = c.put.ensures.err; cause = c.put.ensures.cause }) in
    let failed = failed_on _ _ _ _ _ c.put.result c.from_residual.result c.in_err-put.field-0.0 c.in_err-put.was c.from_residual.ensures.0 given in
    subst (λ text. Prints (g.O.Sink.given c.args.out.now) (g.O.Sink.given c.put.new.self) (g.O.Sink.faults c.args.out.now) (g.O.Sink.faults c.put.new.self) text c.from_residual.result)
    (sym (joined_at c.args.pieces.now c.loop-piece.piece-index _ c.loop-piece-test.true))
    (still_failed _ _ _ _ _ (joined (drop (c.loop-piece.piece-index + 1) c.args.pieces.now)) c.from_residual.result c.from_residual.ensures.0 failed)
