use Rattle.std.proofs.Common.{length, refl}
use Rattle.report.specs.Runs.{all_blocks, summary_of}
use Rattle.report.proofs.Pieces.{still_failed, failed_on, both, failed_after}
use Rattle.report.proofs.runs.blocks.Goals as goal

pub returns-in_err-put_blocks-clause-text : goal.returns-in_err-put_blocks-clause-text
returns-in_err-put_blocks-clause-text g c = λ program E k.
    let n = length c.args.world.now.processes in
    let failed = failed_on _ _ _ _ (all_blocks program n E) c.put_blocks.result c.from_residual.result c.in_err-put_blocks.field-0.0 c.in_err-put_blocks.was c.from_residual.ensures.0
    (c.put_blocks.ensures.text program E k) in
    still_failed _ _ _ _ (all_blocks program n E) (summary_of E) c.from_residual.result c.from_residual.ensures.0 failed

pub returns-clause-text : goal.returns-clause-text
returns-clause-text g c = λ program E k.
    let n = length c.args.world.now.processes in
    both _ _ _ _ _ _ (all_blocks program n E) (summary_of E) c.put_blocks.result c.run_summary.result c.in_ok-put_blocks.was
    (c.put_blocks.ensures.text program E k) (c.run_summary.ensures.text program E k)

pub returns-in_err-put_blocks-clause-cause : goal.returns-in_err-put_blocks-clause-cause
returns-in_err-put_blocks-clause-cause g c =
    failed_after c.put_blocks.result c.from_residual.result c.in_err-put_blocks.field-0.0 c.in_err-put_blocks.was c.from_residual.ensures.0 refl c.put_blocks.ensures.cause
