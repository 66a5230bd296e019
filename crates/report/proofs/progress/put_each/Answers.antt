use Rattle.std.proofs.Common.{arith}
use Rattle.report.specs.Texts.{progress_text}
use Rattle.report.proofs.Pieces.{prints_nothing}
use Rattle.report.proofs.Ranges.{one_more, one_failed, blocks_to}
use Rattle.report.proofs.progress.put_each.Goals as goal

pub loop-process-init : goal.loop-process-init
loop-process-init g c = prints_nothing _ _

pub loop-process-preserved : goal.loop-process-preserved
loop-process-preserved g c =
    one_more _ _ _ _ _ _ (progress_text c.args.events.now c.args.counts.now) c.loop-process.process c.loop-process.invariant c.put_one.result c.in_ok-put_one.was c.put_one.ensures

pub returns-in_err-put_one : goal.returns-in_err-put_one
returns-in_err-put_one g c =
    one_failed _ _ _ _ _ _ (progress_text c.args.events.now c.args.counts.now) c.loop-process.process c.loop-process.invariant c.args.n (omega (arith, c.loop-process-test.true)) c.put_one.result
    c.from_residual.result c.in_err-put_one.field-0.0 c.in_err-put_one.was c.from_residual.ensures.0 c.put_one.ensures

pub returns : goal.returns
returns g c =
    blocks_to _ _ _ _ (progress_text c.args.events.now c.args.counts.now) c.loop-process.process c.args.n (omega (arith, c.loop-process-test.false, c.loop-process.auto.process-end))
    c.loop-process.invariant
