use Rattle.std.proofs.Common.{◌++◌, codes}
use Rattle.std.specs.List.{flat_map, range_with_len}
use Rattle.report.specs.Texts as texts
use Rattle.report.proofs.Pieces.{still_failed, failed_first, both}
use Rattle.report.proofs.progress.put_stuck.Goals as goal

pub returns-in_err-put_pieces : goal.returns-in_err-put_pieces
returns-in_err-put_pieces g c =
    let each = flat_map (texts.progress_text c.args.events.now c.args.counts.now) (range_with_len 0 c.args.n) in
    let failed = failed_first _ _ _ _ (codes "stuck:") each c.put_pieces.result c.from_residual.result c.in_err-put_pieces.field-0.0 c.in_err-put_pieces.was c.from_residual.ensures.0 c.put_pieces.ensures in
    still_failed _ _ _ _ ((codes "stuck:") ++ each) (codes "\n") c.from_residual.result c.from_residual.ensures.0 failed

pub returns-in_err-put_each : goal.returns-in_err-put_each
returns-in_err-put_each g c =
    let each = flat_map (texts.progress_text c.args.events.now c.args.counts.now) (range_with_len 0 c.args.n) in
    let given = both _ _ _ _ _ _ (codes "stuck:") each c.put_pieces.result c.put_each.result c.in_ok-put_pieces.was c.put_pieces.ensures c.put_each.ensures in
    failed_first _ _ _ _ ((codes "stuck:") ++ each) (codes "\n") c.put_each.result c.from_residual-in_err-put_each.result c.in_err-put_each.field-0.0 c.in_err-put_each.was c.from_residual-in_err-put_each.ensures.0 given

pub returns : goal.returns
returns g c =
    let each = flat_map (texts.progress_text c.args.events.now c.args.counts.now) (range_with_len 0 c.args.n) in
    let given = both _ _ _ _ _ _ (codes "stuck:") each c.put_pieces.result c.put_each.result c.in_ok-put_pieces.was c.put_pieces.ensures c.put_each.ensures in
    both _ _ _ _ _ _ ((codes "stuck:") ++ each) (codes "\n") c.put_each.result c.put_pieces-2.result c.in_ok-put_each.was given c.put_pieces-2.ensures
