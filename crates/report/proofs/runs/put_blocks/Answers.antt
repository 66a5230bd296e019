use Rattle.std.proofs.Common.{length, arith, refl, ◌∙◌}
use Rattle.report.proofs.Pieces.{prints_nothing, still_after, failed_after}
use Rattle.report.proofs.Ranges.{one_more, one_failed, blocks_to}
use Rattle.report.specs.Runs.{block_of}
use Rattle.report.proofs.runs.put_blocks.Goals as goal

pub loop-p-init : goal.loop-p-init
loop-p-init g c = record { told = λ program E k. prints_nothing _ _; still = refl }

pub loop-p-preserved : goal.loop-p-preserved
loop-p-preserved g c = record {
  told = λ program E k.
      one_more _ _ _ _ _ _ (block_of program (length c.args.world.now.processes) E) c.loop-p.p (c.loop-p.invariant.told program E k) c.put_block.result c.in_ok-put_block.was
      (c.put_block.ensures.text program E k);
  still = still_after c.put_block.result c.in_ok-put_block.was c.put_block.ensures.cause ∙ c.loop-p.invariant.still;
}

pub returns-in_err-put_block-clause-text : goal.returns-in_err-put_block-clause-text
returns-in_err-put_block-clause-text g c = λ program E k.
    one_failed _ _ _ _ _ _ (block_of program (length c.args.world.now.processes) E) c.loop-p.p (c.loop-p.invariant.told program E k) (length c.args.world.now.processes)
    (omega (arith, c.loop-p-test.true, c.n-p-end.ensures)) c.put_block.result c.from_residual.result c.in_err-put_block.field-0.0 c.in_err-put_block.was c.from_residual.ensures.0
    (c.put_block.ensures.text program E k)

pub returns-in_err-put_block-clause-cause : goal.returns-in_err-put_block-clause-cause
returns-in_err-put_block-clause-cause g c =
    failed_after c.put_block.result c.from_residual.result c.in_err-put_block.field-0.0 c.in_err-put_block.was c.from_residual.ensures.0 c.loop-p.invariant.still c.put_block.ensures.cause

pub returns-clause-text : goal.returns-clause-text
returns-clause-text g c = λ program E k. blocks_to _ _ _ _ (block_of program (length c.args.world.now.processes) E) c.loop-p.p (length c.args.world.now.processes) (omega
    (arith, c.loop-p-test.false, c.loop-p.auto.p-end, c.n-p-end.ensures)) (c.loop-p.invariant.told program E k)
