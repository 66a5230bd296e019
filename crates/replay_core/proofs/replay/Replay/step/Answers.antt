use Rattle.std.proofs.Common.{◌+◌, sym, ◌∙◌, arith}
use Rattle.std.proofs.Math.Nat.{mod-lt}
use Rattle.world.proofs.Places.{on_err_from}
use Rattle.replay_core.proofs.ReplayLaws.{same_runs}
use Rattle.replay_core.proofs.StepLaws.{none_idled, idled_again, stepped, none_stepped}
use Rattle.replay_core.proofs.replay.Replay.step.Goals as goal

pub loop-i-init : goal.loop-i-init
loop-i-init g c = none_idled g.P.Proc.stands_for g.P.Proc.origin_of c.args.self.now c.next_in_turn-first.result

pub turn-requires : goal.turn-requires
turn-requires g c = omega (arith, mod-lt (c.next_in_turn-first.result + c.loop-i.i) c.n-n.ensures.some, c.n-n.ensures.n, c.loop-i.invariant.same.size)

pub returns-in_err-event-clause-refused : goal.returns-in_err-event-clause-refused
returns-in_err-event-clause-refused g c = on_err_from c.from_residual.result (λ s T R h. c.in_err-event.ensures.refused s T R (c.loop-i.invariant.stands s T R h))

pub returns-in_err-event-clause-same : goal.returns-in_err-event-clause-same
returns-in_err-event-clause-same g c = same_runs g.P.Proc.origin_of _ _ _ c.loop-i.invariant.same c.in_err-event.ensures.same

pub returns-in-Went-clause-stepped : goal.returns-in-Went-clause-stepped
returns-in-Went-clause-stepped g c =
    stepped g.P.Proc.stands_for g.P.Proc.origin_of c.args.self.now c.loop-i.self c.next_in_turn-first.result c.loop-i.i c.n-n.result c.loop-i.invariant c.n-n.ensures.n
    c.turn.new.self c.in-Went.event c.in-Went.letter c.in_ok-event.field-0 c.in-Went.is c.loop-i-test.true c.next_in_turn-first.ensures.is
    (λ s T R h. sym (c.is_complete.ensures s T R h) ∙ c.if-is_complete.false) c.in_ok-event.ensures.gone

pub returns-in-Went-clause-same : goal.returns-in-Went-clause-same
returns-in-Went-clause-same g c = same_runs g.P.Proc.origin_of _ _ _ c.loop-i.invariant.same c.in_ok-event.ensures.same

pub loop-i-preserved : goal.loop-i-preserved
loop-i-preserved g c =
    idled_again g.P.Proc.stands_for g.P.Proc.origin_of c.args.self.now c.loop-i.self c.next_in_turn-first.result c.loop-i.i c.n-n.result c.loop-i.invariant c.n-n.ensures.n
    c.turn.new.self c.in-Idle.field-0 c.in_ok-event.field-0 c.in-Idle.is c.in_ok-event.ensures.gone c.in_ok-event.ensures.same

pub returns-clause-stepped : goal.returns-clause-stepped
returns-clause-stepped g c =
    none_stepped g.P.Proc.stands_for g.P.Proc.origin_of c.args.self.now c.loop-i.self c.next_in_turn-first.result c.loop-i.i c.n-n.result c.loop-i.invariant c.n-n.ensures.n
    c.loop-i-test.false c.next_in_turn-first.ensures.is (λ s T R h. sym (c.is_complete.ensures s T R h) ∙ c.if-is_complete.false)

pub returns-clause-same : goal.returns-clause-same
returns-clause-same g c = c.loop-i.invariant.same
