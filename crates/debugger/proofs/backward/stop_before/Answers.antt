use Rattle.debugger.proofs.MovedReplies.{can_go, entry_in, sound_at, stop_nowhere, stop_stuck}
use Rattle.debugger.proofs.backward.stop_before.Goals as goal

pub returns-then-not-recorded-clause-replies : goal.returns-then-not-recorded-clause-replies
returns-then-not-recorded-clause-replies g c =
    stop_nowhere c.args.session.now c.is_recorded-recorded.result c.if-not-recorded.true c.args.q.no c.args.k
    c.is_recorded-recorded.ensures _

pub returns-then-not-reached-clause-replies : goal.returns-then-not-reached-clause-replies
returns-then-not-reached-clause-replies g c =
    stop_stuck _ _ c.session.view_is c.in_ok-replay.replay c.finish_all.new.replay c.in_ok-replay.ensures
    c.in_ok-reached.reached c.in_ok-reached.ensures c.if-not-reached.true c.is_recorded-recorded.result
    c.if-not-recorded.false
    c.args.q.no c.args.k c.is_recorded-recorded.ensures _

pub go_to_least-requires-clause-sound : goal.go_to_least-requires-clause-sound
go_to_least-requires-clause-sound g c =
    sound_at _ _ c.session.view_is c.in_ok-replay.replay c.finish_all.new.replay c.in_ok-replay.ensures
    c.in_ok-reached.reached c.in_ok-reached.ensures c.if-not-reached.false c.events.result.now.events c.events.ensures
    c.session.invariant

pub go_to_least-requires-clause-entry : goal.go_to_least-requires-clause-entry
go_to_least-requires-clause-entry g c =
    entry_in _ _ c.session.view_is c.in_ok-replay.replay c.finish_all.new.replay c.in_ok-replay.ensures
    c.in_ok-reached.reached c.in_ok-reached.ensures c.if-not-reached.false c.events.result.now.events c.events.ensures
    c.is_recorded-recorded.result c.if-not-recorded.false c.args.q.no c.args.k c.is_recorded-recorded.ensures
    c.session.invariant

pub returns-clause-replies : goal.returns-clause-replies
returns-clause-replies g c = λ p s h.
    c.in_ok-go_to_least.ensures.gone p s h
    (can_go _ _ c.session.view_is c.in_ok-replay.replay c.finish_all.new.replay c.in_ok-replay.ensures
    c.in_ok-reached.reached c.in_ok-reached.ensures c.if-not-reached.false c.events.result.now.events c.events.ensures
    c.is_recorded-recorded.result c.if-not-recorded.false c.args.q.no c.args.k c.is_recorded-recorded.ensures p s h)
