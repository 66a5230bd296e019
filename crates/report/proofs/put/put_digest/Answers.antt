use Rattle.report.specs.Texts.{digest_text}
use Rattle.report.proofs.Pieces.{failed_first, both}
use Rattle.report.proofs.put.put_digest.Goals as goal

pub returns-in_err-put_pieces : goal.returns-in_err-put_pieces
returns-in_err-put_pieces g c =
    failed_first _ _ _ _ c.args.start.now (digest_text c.args.digest.now) c.put_pieces.result c.from_residual.result c.in_err-put_pieces.field-0.0 c.in_err-put_pieces.was
    c.from_residual.ensures.0 c.put_pieces.ensures

pub returns : goal.returns
returns g c =
    both _ _ _ _ _ _ c.args.start.now (digest_text c.args.digest.now) c.put_pieces.result c.put_bytes.result c.in_ok-put_pieces.was c.put_pieces.ensures c.put_bytes.ensures
