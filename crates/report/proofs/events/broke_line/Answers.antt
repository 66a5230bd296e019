use Rattle.std.proofs.Common.{codes}
use Rattle.report.specs.Replies as replies
use Rattle.report.specs.Texts.{number_line}
use Rattle.report.proofs.Pieces.{failed_first, both}
use Rattle.report.proofs.events.broke_line.Goals as goal

pub returns-in_err-put_number : goal.returns-in_err-put_number
returns-in_err-put_number g c =
    let first = number_line (codes "break ") c.args.k (codes " at ") in
    let second = replies.event_line c.args.e.now in
    failed_first _ _ _ _ first second c.put_number.result c.from_residual.result c.in_err-put_number.field-0.0 c.in_err-put_number.was c.from_residual.ensures.0 c.put_number.ensures

pub returns : goal.returns
returns g c =
    let first = number_line (codes "break ") c.args.k (codes " at ") in
    let second = replies.event_line c.args.e.now in
    both _ _ _ _ _ _ first second c.put_number.result c.event_line.result c.in_ok-put_number.was c.put_number.ensures c.event_line.ensures
