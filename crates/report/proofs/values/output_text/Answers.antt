use Rattle.std.proofs.Common.{◌++◌, length}
use Rattle.report.specs.Replies as replies
use Rattle.report.specs.Texts.{line_end}
use Rattle.report.proofs.Pieces.{failed_first, both}
use Rattle.report.proofs.values.output_text.Goals as goal

pub returns-in_err-put_length : goal.returns-in_err-put_length
returns-in_err-put_length g c =
    let first = replies.length_text (length c.args.output.now) in
    let second = c.args.output.now ++ line_end c.args.output.now in
    failed_first _ _ _ _ first second c.put_length.result c.from_residual.result c.in_err-put_length.field-0.0 c.in_err-put_length.was c.from_residual.ensures.0 c.put_length.ensures

pub returns : goal.returns
returns g c =
    let first = replies.length_text (length c.args.output.now) in
    let second = c.args.output.now ++ line_end c.args.output.now in
    both _ _ _ _ _ _ first second c.put_length.result c.put_output.result c.in_ok-put_length.was c.put_length.ensures c.put_output.ensures
