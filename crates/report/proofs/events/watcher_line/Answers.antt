use Rattle.std.proofs.Common.{codes}
use Rattle.report.specs.Replies as replies
use Rattle.report.specs.Texts.{number_line}
use Rattle.report.proofs.Pieces.{failed_first, both}
use Rattle.report.proofs.events.watcher_line.Goals as goal

pub returns-in_err-put_watcher : goal.returns-in_err-put_watcher
returns-in_err-put_watcher g c =
    let first = number_line (codes "watcher ") c.args.k (codes " at ") in
    let second = replies.event_line c.args.e.now in
    failed_first _ _ _ _ first second c.put_watcher.result c.from_residual.result c.in_err-put_watcher.field-0.0 c.in_err-put_watcher.was c.from_residual.ensures.0 c.put_watcher.ensures

pub returns : goal.returns
returns g c =
    let first = number_line (codes "watcher ") c.args.k (codes " at ") in
    let second = replies.event_line c.args.e.now in
    both _ _ _ _ _ _ first second c.put_watcher.result c.event_line.result c.in_ok-put_watcher.was c.put_watcher.ensures c.event_line.ensures
