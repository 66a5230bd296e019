use Rattle.std.proofs.Common.{subst, arith}
use Rattle.std.specs.Prelude.{map, IfSome}
use Rattle.debugger.specs.private.Making.{IsLonger}
use Rattle.debugger.proofs.Running.{runs_first, runs_out, runs_into, runs_past, same_sittings}
use Rattle.debugger.proofs.forward.run_on.Goals as goal

pub loop-event-init : goal.loop-event-init
loop-event-init g c = runs_first c.args.session.now _

pub loop-event-preserved : goal.loop-event-preserved
loop-event-preserved g c =
    runs_past c.args.session.now _ c.loop-event.session _ c.loop-event.invariant c.noted_step.new.session
    (map g.W.Watcher.watched c.noted_step.new.watch.items) c.in_ok-event.ensures.same
    c.in_ok-event.field-0 c.in_ok-event.ensures.noted c.in-Some.event c.in-Some.is c.halt_after.result c.halt_after.ensures
    c.in_default-halt_after.is

pub loop-event-smaller : goal.loop-event-smaller
loop-event-smaller g c =
    let k : IsLonger c.loop-event.session c.noted_step.new.session c.in-Some.event =
    subst (λ o. IfSome o (IsLonger c.loop-event.session c.noted_step.new.session)) c.in-Some.is c.in_ok-event.ensures.longer in
    omega (arith, k.more, k.room)

pub halt_after-requires : goal.halt_after-requires
halt_after-requires g c =
    let k : IsLonger c.loop-event.session c.noted_step.new.session c.in-Some.event =
    subst (λ o. IfSome o (IsLonger c.loop-event.session c.noted_step.new.session)) c.in-Some.is c.in_ok-event.ensures.longer in
    k.of

pub returns-in_err-event-clause-same : goal.returns-in_err-event-clause-same
returns-in_err-event-clause-same g c =
    same_sittings c.args.session.now c.loop-event.session c.noted_step.new.session c.loop-event.invariant.same
    c.in_err-event.ensures.same

pub returns-in-Some-halt_after-clause-run : goal.returns-in-Some-halt_after-clause-run
returns-in-Some-halt_after-clause-run g c =
    runs_into c.args.session.now _ c.loop-event.session _ c.loop-event.invariant c.noted_step.new.session
    (map g.W.Watcher.watched c.noted_step.new.watch.items) c.in_ok-event.ensures.same
    c.in_ok-event.field-0 c.in_ok-event.ensures.noted c.in-Some.event c.in-Some.is c.halt_after.result c.halt_after.ensures
    c.in-Some-halt_after.end c.in-Some-halt_after.is

pub returns-in-Some-halt_after-clause-same : goal.returns-in-Some-halt_after-clause-same
returns-in-Some-halt_after-clause-same g c =
    same_sittings c.args.session.now c.loop-event.session c.noted_step.new.session c.loop-event.invariant.same
    c.in_ok-event.ensures.same

pub returns-clause-run : goal.returns-clause-run
returns-clause-run g c =
    runs_out c.args.session.now _ c.loop-event.session _ c.loop-event.invariant c.noted_step.new.session
    (map g.W.Watcher.watched c.noted_step.new.watch.items) c.in_ok-event.ensures.same
    c.in_ok-event.field-0 c.in_ok-event.ensures.noted c.in_default.is

pub returns-clause-same : goal.returns-clause-same
returns-clause-same g c =
    same_sittings c.args.session.now c.loop-event.session c.noted_step.new.session c.loop-event.invariant.same
    c.in_ok-event.ensures.same
