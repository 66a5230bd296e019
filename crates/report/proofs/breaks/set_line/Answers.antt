use Rattle.std.proofs.Common.{◌++◌, codes}
use Rattle.report.specs.Replies as replies
use Rattle.report.proofs.Pieces.{still_failed, failed_first, both}
use Rattle.report.proofs.breaks.set_line.Goals as goal

pub returns-in_err-put_break : goal.returns-in_err-put_break
returns-in_err-put_break g c =
    let first = replies.break_text c.args.k c.args.process in
    let second = replies.spot_text c.args.at in
    let third = codes "\n" in
    let failed = failed_first _ _ _ _ first second c.put_break.result c.from_residual.result c.in_err-put_break.field-0.0 c.in_err-put_break.was c.from_residual.ensures.0 c.put_break.ensures in
    still_failed _ _ _ _ (first ++ second) third c.from_residual.result c.from_residual.ensures.0 failed

pub returns-in_err-put_spot : goal.returns-in_err-put_spot
returns-in_err-put_spot g c =
    let first = replies.break_text c.args.k c.args.process in
    let second = replies.spot_text c.args.at in
    let third = codes "\n" in
    let given = both _ _ _ _ _ _ first second c.put_break.result c.put_spot.result c.in_ok-put_break.was c.put_break.ensures c.put_spot.ensures in
    failed_first _ _ _ _ (first ++ second) third c.put_spot.result c.from_residual-in_err-put_spot.result c.in_err-put_spot.field-0.0 c.in_err-put_spot.was
    c.from_residual-in_err-put_spot.ensures.0 given

pub returns : goal.returns
returns g c =
    let first = replies.break_text c.args.k c.args.process in
    let second = replies.spot_text c.args.at in
    let third = codes "\n" in
    let given = both _ _ _ _ _ _ first second c.put_break.result c.put_spot.result c.in_ok-put_break.was c.put_break.ensures c.put_spot.ensures in
    both _ _ _ _ _ _ (first ++ second) third c.put_spot.result c.put_pieces.result c.in_ok-put_spot.was given c.put_pieces.ensures
