use Rattle.std.proofs.Common.{◌++◌, codes}
use Rattle.report.specs.Replies as replies
use Rattle.report.proofs.Pieces.{failed_first, both}
use Rattle.report.proofs.values.value_line.Goals as goal

pub returns-in_err-put_named : goal.returns-in_err-put_named
returns-in_err-put_named g c =
    let first = replies.named_text c.args.name.now c.args.index in
    let second = codes " = " ++ replies.value_text c.args.bits c.args.of ++ codes "\n" in
    failed_first _ _ _ _ first second c.put_named.result c.from_residual.result c.in_err-put_named.field-0.0 c.in_err-put_named.was c.from_residual.ensures.0 c.put_named.ensures

pub returns : goal.returns
returns g c =
    let first = replies.named_text c.args.name.now c.args.index in
    let second = codes " = " ++ replies.value_text c.args.bits c.args.of ++ codes "\n" in
    both _ _ _ _ _ _ first second c.put_named.result c.put_value.result c.in_ok-put_named.was c.put_named.ensures c.put_value.ensures
