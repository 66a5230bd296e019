use Rattle.std.proofs.Common.{rules, ◌<◌, ◌≤◌, length, ap}
use Rattle.report.proofs.Pieces.{prints_nothing}
use Rattle.nm_top.proofs.WatchLaws.{line_more, line_failed, lines_all}
use Rattle.nm_top.proofs.watching.put_watchers.Goals as goal

pub loop-k-init : goal.loop-k-init
loop-k-init g c = prints_nothing _ _

pub loop-k-preserved : goal.loop-k-preserved
loop-k-preserved g c =
    let low : c.loop-k.k < length c.args.watch.now.items = search rules in
    line_more g.W.Watcher.watched _ _ _ _ _ _
    c.args.watch.now.items c.loop-k.k c.index.result.now _ low
    (ap g.W.Watcher.watched c.index.ensures)
    c.loop-k.invariant c.put_watcher.result c.in_ok-put_watcher.was c.put_watcher.ensures

pub returns-in_err-put_watcher : goal.returns-in_err-put_watcher
returns-in_err-put_watcher g c =
    let low : c.loop-k.k < length c.args.watch.now.items = search rules in
    line_failed g.W.Watcher.watched _ _ _ _ _ _
    c.args.watch.now.items c.loop-k.k c.index.result.now _ low
    (ap g.W.Watcher.watched c.index.ensures)
    c.loop-k.invariant c.put_watcher.result c.from_residual.result c.in_err-put_watcher.field-0.0 c.in_err-put_watcher.was c.from_residual.ensures.0 c.put_watcher.ensures

pub returns : goal.returns
returns g c =
    let high : length c.args.watch.now.items ≤ c.loop-k.k = search rules in
    lines_all g.W.Watcher.watched _ _ _ _ c.args.watch.now.items c.loop-k.k high c.loop-k.invariant
