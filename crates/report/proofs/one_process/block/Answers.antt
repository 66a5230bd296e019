use Rattle.std.proofs.Common.{◌++◌, length}
use Rattle.report.specs.Texts as texts
use Rattle.report.proofs.Pieces.{still_failed, failed_on, both}
use Rattle.report.proofs.one_process.block.Goals as goal

pub returns-in_err-put_head : goal.returns-in_err-put_head
returns-in_err-put_head g c =
    let head = texts.head_text c.args.process c.args.look c.args.line c.args.events (length c.args.output.now) in
    let failed = failed_on _ _ _ _ head c.put_head.result c.from_residual.result c.in_err-put_head.field-0.0 c.in_err-put_head.was c.from_residual.ensures.0 c.put_head.ensures in
    still_failed _ _ _ _ head (c.args.output.now ++ texts.line_end c.args.output.now) c.from_residual.result c.from_residual.ensures.0 failed

pub returns : goal.returns
returns g c =
    both _ _ _ _ _ _ (texts.head_text c.args.process c.args.look c.args.line c.args.events (length c.args.output.now)) (c.args.output.now ++ texts.line_end c.args.output.now)
    c.put_head.result c.put_output.result c.in_ok-put_head.was c.put_head.ensures c.put_output.ensures
