use Rattle.report.specs.Runs.{summary_of}
use Rattle.report.specs.Texts.{trace_line}
use Rattle.report.proofs.Pieces.{failed_first, both}
use Rattle.nm_top.proofs.soak.put_recorded.Goals as goal

pub returns-in_err-run_summary : goal.returns-in_err-run_summary
returns-in_err-run_summary g c = λ p E runs.
    failed_first _ _ _ _ (summary_of E) (trace_line c.args.recorded.now.notes c.args.recorded.now.lost c.args.recorded.now.bytes) c.run_summary.result c.from_residual.result
    c.in_err-run_summary.field-0.0 c.in_err-run_summary.was c.from_residual.ensures.0 (c.run_summary.ensures.text p E runs)

pub returns : goal.returns
returns g c = λ p E runs.
    both _ _ _ _ _ _ (summary_of E) (trace_line c.args.recorded.now.notes c.args.recorded.now.lost c.args.recorded.now.bytes) c.run_summary.result c.trace_line.result
    c.in_ok-run_summary.was (c.run_summary.ensures.text p E runs) c.trace_line.ensures
