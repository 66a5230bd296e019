use Rattle.std.proofs.Common.{◌++◌}
use Rattle.report.specs.Replies as replies
use Rattle.report.specs.Texts as texts
use Rattle.report.proofs.Pieces.{still_failed, failed_first, both}
use Rattle.report.proofs.places.where_line.Goals as goal

pub returns-in_err-put_process : goal.returns-in_err-put_process
returns-in_err-put_process g c =
    let first = replies.of_process c.args.process in
    let second = texts.status_text c.args.look in
    let third = replies.place_text c.args.line c.args.events c.args.count in
    let failed = failed_first _ _ _ _ first second c.put_process.result c.from_residual.result c.in_err-put_process.field-0.0 c.in_err-put_process.was c.from_residual.ensures.0 c.put_process.ensures in
    still_failed _ _ _ _ (first ++ second) third c.from_residual.result c.from_residual.ensures.0 failed

pub returns-in_err-put_status : goal.returns-in_err-put_status
returns-in_err-put_status g c =
    let first = replies.of_process c.args.process in
    let second = texts.status_text c.args.look in
    let third = replies.place_text c.args.line c.args.events c.args.count in
    let given = both _ _ _ _ _ _ first second c.put_process.result c.put_status.result c.in_ok-put_process.was c.put_process.ensures c.put_status.ensures in
    failed_first _ _ _ _ (first ++ second) third c.put_status.result c.from_residual-in_err-put_status.result c.in_err-put_status.field-0.0 c.in_err-put_status.was
    c.from_residual-in_err-put_status.ensures.0 given

pub returns : goal.returns
returns g c =
    let first = replies.of_process c.args.process in
    let second = texts.status_text c.args.look in
    let third = replies.place_text c.args.line c.args.events c.args.count in
    let given = both _ _ _ _ _ _ first second c.put_process.result c.put_status.result c.in_ok-put_process.was c.put_process.ensures c.put_status.ensures in
    both _ _ _ _ _ _ (first ++ second) third c.put_status.result c.put_place.result c.in_ok-put_status.was given c.put_place.ensures
