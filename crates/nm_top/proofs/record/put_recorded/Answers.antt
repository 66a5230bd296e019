use Rattle.std.proofs.Common.{length}
use Rattle.report.specs.Runs.{blocks}
use Rattle.report.specs.Texts.{trace_line}
use Rattle.report.proofs.Pieces.{failed_first, both}
use Rattle.nm_top.proofs.record.put_recorded.Goals as goal

pub returns-in_err-blocks : goal.returns-in_err-blocks
returns-in_err-blocks g c = record {
  text = λ p E runs.
      failed_first _ _ _ _ (blocks p (length c.args.recorded.now.world.processes) E)
      (trace_line c.args.recorded.now.notes c.args.recorded.now.lost c.args.recorded.now.bytes) c.blocks-2.result c.from_residual.result c.in_err-blocks.field-0.0
      c.in_err-blocks.was c.from_residual.ensures.0 (c.blocks-2.ensures.text p E runs);
}

pub returns : goal.returns
returns g c = record {
  text = λ p E runs.
      both _ _ _ _ _ _ (blocks p (length c.args.recorded.now.world.processes) E)
      (trace_line c.args.recorded.now.notes c.args.recorded.now.lost c.args.recorded.now.bytes) c.blocks-2.result c.trace_line.result c.in_ok-blocks.was
      (c.blocks-2.ensures.text p E runs) c.trace_line.ensures;
}
