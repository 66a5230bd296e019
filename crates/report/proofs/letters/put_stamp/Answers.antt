use Rattle.std.proofs.Common.{◌++◌, codes, slice_index}
use Rattle.report.specs.Replies as replies
use Rattle.report.proofs.Pieces.{still_failed, failed_first, both}
use Rattle.report.proofs.letters.put_stamp.Goals as goal

pub returns-in_err-put_pieces : goal.returns-in_err-put_pieces
returns-in_err-put_pieces g c =
    let first = codes " @" in
    let second = replies.parts_text c.args.n (slice_index c.args.stamp.now.parts) in
    let third = codes "\n" in
    let failed = failed_first _ _ _ _ first second c.put_pieces.result c.from_residual.result c.in_err-put_pieces.field-0.0 c.in_err-put_pieces.was c.from_residual.ensures.0 c.put_pieces.ensures in
    still_failed _ _ _ _ (first ++ second) third c.from_residual.result c.from_residual.ensures.0 failed

pub returns-in_err-put_parts : goal.returns-in_err-put_parts
returns-in_err-put_parts g c =
    let first = codes " @" in
    let second = replies.parts_text c.args.n (slice_index c.args.stamp.now.parts) in
    let third = codes "\n" in
    let given = both _ _ _ _ _ _ first second c.put_pieces.result c.put_parts.result c.in_ok-put_pieces.was c.put_pieces.ensures c.put_parts.ensures in
    failed_first _ _ _ _ (first ++ second) third c.put_parts.result c.from_residual-in_err-put_parts.result c.in_err-put_parts.field-0.0 c.in_err-put_parts.was
    c.from_residual-in_err-put_parts.ensures.0 given

pub returns : goal.returns
returns g c =
    let first = codes " @" in
    let second = replies.parts_text c.args.n (slice_index c.args.stamp.now.parts) in
    let third = codes "\n" in
    let given = both _ _ _ _ _ _ first second c.put_pieces.result c.put_parts.result c.in_ok-put_pieces.was c.put_pieces.ensures c.put_parts.ensures in
    both _ _ _ _ _ _ (first ++ second) third c.put_parts.result c.put_pieces-2.result c.in_ok-put_parts.was given c.put_pieces-2.ensures
