use Rattle.std.proofs.Common.{◌≡◌, ap, arith}
use Rattle.replay_core.specs.Gates.{seen_trace}
use Rattle.debugger.proofs.Ends.{none_reached, more_reached, is_reached, is_lacking}
use Rattle.debugger.proofs.forward.is_finished.Goals as goal

pub loop-no-init : goal.loop-no-init
loop-no-init g c p s h = none_reached (seen_trace c.args.session.now.trace) s.run

pub loop-no-preserved : goal.loop-no-preserved
loop-no-preserved g c p s h =
    more_reached (seen_trace c.args.session.now.trace) s.run c.loop-no.no c.has_reached.result (c.has_reached.ensures p s h)
    c.if-not-has_reached.false (c.loop-no.invariant p s h)

pub returns-then-not-has_reached : goal.returns-then-not-has_reached
returns-then-not-has_reached g c p s h =
    let many : c.session.inside.trace.now.n ≡ c.args.session.now.trace.n = ap (λ v. v.trace.n) c.session.view_is in
    is_lacking (seen_trace c.args.session.now.trace) s.run c.loop-no.no c.has_reached.result (omega (arith, c.loop-no-test.true, c.loop-no.auto.no-end, c.n-no-end.ensures, many)) (c.has_reached.ensures p s h)
    c.if-not-has_reached.true

pub returns : goal.returns
returns g c p s h =
    let many : c.session.inside.trace.now.n ≡ c.args.session.now.trace.n = ap (λ v. v.trace.n) c.session.view_is in
    is_reached (seen_trace c.args.session.now.trace) s.run c.loop-no.no (omega (arith, c.loop-no-test.false, c.loop-no.auto.no-end, c.n-no-end.ensures, many)) (c.loop-no.invariant p s h)
