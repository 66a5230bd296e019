use Rattle.std.proofs.Common.{length, ◌-◌, arith}
use Rattle.nm_top.proofs.LineFacts.{return_dropped, return_kept}
use Rattle.nm_top.proofs.line_buffer.without_return.Goals as goal

pub returns-then-line-len-eq13 : goal.returns-then-line-len-eq13
returns-then-line-len-eq13 c =
    return_dropped c.args.line.now (length c.args.line.now - 1) (omega arith) c.if-line-len-eq13.true

pub returns : goal.returns
returns c = return_kept c.args.line.now (length c.args.line.now - 1) (omega arith) c.if-line-len-eq13.false
