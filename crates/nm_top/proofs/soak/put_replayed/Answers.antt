use Rattle.report.specs.Runs.{summary_of}
use Rattle.report.specs.Texts.{turns_line}
use Rattle.report.proofs.Pieces.{failed_first, both}
use Rattle.nm_top.specs.declared.soak.TheConstants.{SOAK_TURNS}
use Rattle.nm_top.proofs.soak.put_replayed.Goals as goal

pub returns-in_err-run_summary : goal.returns-in_err-run_summary
returns-in_err-run_summary g c = λ p E runs.
    failed_first _ _ _ _ (summary_of E) (turns_line SOAK_TURNS c.args.idle) c.run_summary.result c.from_residual.result
    c.in_err-run_summary.field-0.0 c.in_err-run_summary.was c.from_residual.ensures.0 (c.run_summary.ensures.text p E runs)

pub returns : goal.returns
returns g c = λ p E runs.
    both _ _ _ _ _ _ (summary_of E) (turns_line SOAK_TURNS c.args.idle) c.run_summary.result c.turns_line.result
    c.in_ok-run_summary.was (c.run_summary.ensures.text p E runs) c.turns_line.ensures
