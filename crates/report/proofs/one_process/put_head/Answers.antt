use Rattle.std.proofs.Common.{◌++◌}
use Rattle.report.specs.Texts as texts
use Rattle.report.proofs.Pieces.{still_failed, failed_on, both}
use Rattle.report.proofs.one_process.put_head.Goals as goal

pub returns-in_err-put_process : goal.returns-in_err-put_process
returns-in_err-put_process g c =
    let start = texts.process_text c.args.process in
    let stand = texts.look_text c.args.look c.args.line in
    let failed = failed_on _ _ _ _ start c.put_process.result c.from_residual.result c.in_err-put_process.field-0.0 c.in_err-put_process.was c.from_residual.ensures.0 c.put_process.ensures in
    still_failed _ _ _ _ (start ++ stand) (texts.counts_text c.args.events c.args.bytes) c.from_residual.result c.from_residual.ensures.0
    (still_failed _ _ _ _ start stand c.from_residual.result c.from_residual.ensures.0 failed)

pub returns-in_err-put_look : goal.returns-in_err-put_look
returns-in_err-put_look g c =
    let start = texts.process_text c.args.process in
    let stand = texts.look_text c.args.look c.args.line in
    let given = both _ _ _ _ _ _ start stand c.put_process.result c.put_look.result c.in_ok-put_process.was c.put_process.ensures c.put_look.ensures in
    let failed = failed_on _ _ _ _
    (start ++ stand) c.put_look.result c.from_residual-in_err-put_look.result c.in_err-put_look.field-0.0 c.in_err-put_look.was c.from_residual-in_err-put_look.ensures.0 given in
    still_failed _ _ _ _ (start ++ stand) (texts.counts_text c.args.events c.args.bytes) c.from_residual-in_err-put_look.result c.from_residual-in_err-put_look.ensures.0 failed

pub returns : goal.returns
returns g c =
    let start = texts.process_text c.args.process in
    let stand = texts.look_text c.args.look c.args.line in
    both _ _ _ _ _ _ (start ++ stand) (texts.counts_text c.args.events c.args.bytes) c.put_look.result c.put_counts.result c.in_ok-put_look.was
    (both _ _ _ _ _ _ start stand c.put_process.result c.put_look.result c.in_ok-put_process.was c.put_process.ensures c.put_look.ensures) c.put_counts.ensures
