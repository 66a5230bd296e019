use Rattle.std.proofs.Common.{arith, map}
use Rattle.nm_top.proofs.WatchLaws.{hear_nothing, each_next, all_heard}
use Rattle.nm_top.proofs.watching.tell_each.Goals as goal

pub loop-i-init : goal.loop-i-init
loop-i-init g c = hear_nothing _

pub loop-i-preserved : goal.loop-i-preserved
loop-i-preserved g c =
    each_next g.W.Watcher.watched
    (map g.W.Watcher.watched c.args.watch.now.items)
    c.args.events.now.events c.loop-i.i c.at.result.now c.loop-i.watch.items c.tell.new.list.items c.tell.result c.at.ensures.event c.loop-i.invariant c.tell.ensures

pub returns : goal.returns
returns g c = all_heard c.args.events.now.events c.loop-i.i _ (omega (arith, c.loop-i-test.false, c.len-i-end.ensures.exact)) c.loop-i.invariant
