use Rattle.std.proofs.Common.{arith}
use Rattle.causal_stop.specs.Stops.{cut_of}
use Rattle.debugger.proofs.GoingTo.{moving_first, moving_more, moving_past}
use Rattle.debugger.proofs.backward.go_to.Goals as goal

pub loop-i-init : goal.loop-i-init
loop-i-init g c =
    moving_first c.args.session.now c.begin_anew.new.session _ c.args.events.now.events (cut_of c.args.cut.now)
    c.in_ok-begin_anew.ensures.anew c.begin_anew.ensures.same

pub loop-i-preserved-then-cut-event : goal.loop-i-preserved-then-cut-event
loop-i-preserved-then-cut-event g c =
    moving_past c.args.session.now c.loop-i.session _ _ c.args.events.now.events (cut_of c.args.cut.now) c.loop-i.i
    c.at-event.result.now
    c.loop-i.invariant c.at-event.ensures.event (omega (arith, c.if-cut-event.true))

pub loop-i-preserved : goal.loop-i-preserved
loop-i-preserved g c =
    moving_more c.args.session.now c.loop-i.session c.make_again.new.session _ _ _ c.args.events.now.events
    (cut_of c.args.cut.now) c.loop-i.i
    c.at-event.result.now c.loop-i.invariant c.at-event.ensures.event (omega (arith, c.if-cut-event.false))
    c.in_ok-make_again.ensures.made
    c.make_again.ensures.same
