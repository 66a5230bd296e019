use Rattle.debugger.proofs.MovedReplies.{compare_nothing, compare_stuck, compared, first_in, second_in, sound_at}
use Rattle.debugger.proofs.backward.compare.Goals as goal

pub returns-then-not-recorded : goal.returns-then-not-recorded
returns-then-not-recorded g c =
    compare_nothing c.args.session.now c.are_recorded-recorded.result c.if-not-recorded.true c.args.a.0.no c.args.a.1
    c.args.b.0.no c.args.b.1
    c.are_recorded-recorded.ensures

pub returns-then-not-reached : goal.returns-then-not-reached
returns-then-not-reached g c =
    compare_stuck _ _ c.session.view_is c.in_ok-replay.replay c.finish_all.new.replay c.in_ok-replay.ensures
    c.in_ok-reached.reached c.in_ok-reached.ensures c.if-not-reached.true c.are_recorded-recorded.result
    c.if-not-recorded.false
    c.args.a.0.no c.args.a.1 c.args.b.0.no c.args.b.1 c.are_recorded-recorded.ensures

pub standing-order-requires-clause-sound : goal.standing-order-requires-clause-sound
standing-order-requires-clause-sound g c =
    sound_at _ _ c.session.view_is c.in_ok-replay.replay c.finish_all.new.replay c.in_ok-replay.ensures
    c.in_ok-reached.reached c.in_ok-reached.ensures c.if-not-reached.false c.events.result.now.events c.events.ensures
    c.session.invariant

pub standing-order-requires-clause-first : goal.standing-order-requires-clause-first
standing-order-requires-clause-first g c =
    first_in _ _ c.session.view_is c.in_ok-replay.replay c.finish_all.new.replay c.in_ok-replay.ensures
    c.in_ok-reached.reached c.in_ok-reached.ensures c.if-not-reached.false c.events.result.now.events c.events.ensures
    c.are_recorded-recorded.result c.if-not-recorded.false c.args.a.0.no c.args.a.1 c.args.b.0.no c.args.b.1
    c.are_recorded-recorded.ensures
    c.session.invariant

pub standing-order-requires-clause-second : goal.standing-order-requires-clause-second
standing-order-requires-clause-second g c =
    second_in _ _ c.session.view_is c.in_ok-replay.replay c.finish_all.new.replay c.in_ok-replay.ensures
    c.in_ok-reached.reached c.in_ok-reached.ensures c.if-not-reached.false c.events.result.now.events c.events.ensures
    c.are_recorded-recorded.result c.if-not-recorded.false c.args.a.0.no c.args.a.1 c.args.b.0.no c.args.b.1
    c.are_recorded-recorded.ensures
    c.session.invariant

pub returns : goal.returns
returns g c =
    compared _ _ c.session.view_is c.in_ok-replay.replay c.finish_all.new.replay c.in_ok-replay.ensures
    c.in_ok-reached.reached c.in_ok-reached.ensures c.if-not-reached.false c.events.result.now.events c.events.ensures
    c.are_recorded-recorded.result c.if-not-recorded.false c.args.a.0.no c.args.a.1 c.args.b.0.no c.args.b.1
    c.are_recorded-recorded.ensures
    c.standing-order.result c.standing-order.ensures c.order_notice.result c.order_notice.ensures
