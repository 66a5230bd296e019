use Rattle.report.specs.Texts.{went_text, received_text}
use Rattle.report.proofs.Pieces.{failed_first, both}
use Rattle.report.proofs.certificates.put_letter.Goals as goal

pub returns-in_err-put_went : goal.returns-in_err-put_went
returns-in_err-put_went g c =
    let w = c.args.w.now in
    failed_first _ _ _ _ (went_text w.id w.dest.no w.chan) (received_text w.received) c.put_went.result c.from_residual.result c.in_err-put_went.field-0.0 c.in_err-put_went.was
    c.from_residual.ensures.0 c.put_went.ensures

pub returns : goal.returns
returns g c =
    let w = c.args.w.now in
    both _ _ _ _ _ _ (went_text w.id w.dest.no w.chan) (received_text w.received) c.put_went.result c.put_received.result c.in_ok-put_went.was c.put_went.ensures c.put_received.ensures
