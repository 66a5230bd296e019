use Rattle.std.proofs.Common.{arith, slice_index}
use Rattle.report.specs.Replies.{part_text}
use Rattle.report.proofs.Pieces.{prints_nothing}
use Rattle.report.proofs.Ranges.{one_more, one_failed, blocks_to}
use Rattle.report.proofs.letters.put_parts.Goals as goal

pub loop-process-init : goal.loop-process-init
loop-process-init g c = prints_nothing _ _

pub loop-process-preserved : goal.loop-process-preserved
loop-process-preserved g c =
    one_more _ _ _ _ _ _ (part_text (slice_index c.args.stamp.now.parts)) c.loop-process.process c.loop-process.invariant c.put_part.result c.in_ok-put_part.was c.put_part.ensures

pub returns-in_err-put_part : goal.returns-in_err-put_part
returns-in_err-put_part g c =
    one_failed _ _ _ _ _ _ (part_text (slice_index c.args.stamp.now.parts)) c.loop-process.process c.loop-process.invariant c.args.n (omega (arith, c.loop-process-test.true)) c.put_part.result
    c.from_residual.result c.in_err-put_part.field-0.0 c.in_err-put_part.was c.from_residual.ensures.0 c.put_part.ensures

pub returns : goal.returns
returns g c =
    blocks_to _ _ _ _ (part_text (slice_index c.args.stamp.now.parts)) c.loop-process.process c.args.n (omega (arith, c.loop-process-test.false, c.loop-process.auto.process-end))
    c.loop-process.invariant
