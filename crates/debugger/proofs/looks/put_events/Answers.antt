use Rattle.std.proofs.Common.{length, arith}
use Rattle.report.specs.Replies.{event_line}
use Rattle.report.proofs.Pieces.{prints_nothing, same_text}
use Rattle.report.proofs.Ranges.{one_more, one_failed, blocks_to}
use Rattle.debugger.proofs.LookFacts.{element_at, flat_by_place}
use Rattle.debugger.proofs.looks.put_events.Goals as goal

pub loop-i-init : goal.loop-i-init
loop-i-init g c = prints_nothing _ _

pub loop-i-preserved : goal.loop-i-preserved
loop-i-preserved g c =
    one_more _ _ _ _ _ _ (element_at event_line c.args.latest.now) c.loop-i.i c.loop-i.invariant c.put_event.result
    c.in_ok-put_event.was c.put_event.ensures

pub returns-in_err-put_event : goal.returns-in_err-put_event
returns-in_err-put_event g c =
    let latest = c.args.latest.now in
    same_text _ _ _ _ _ _ _ (flat_by_place event_line latest)
    (one_failed _ _ _ _ _ _ (element_at event_line latest) c.loop-i.i c.loop-i.invariant (length latest)
    (omega (arith, c.loop-i-test.true, c.len-i-end.ensures)) c.put_event.result
    c.from_residual.result c.in_err-put_event.field-0.0 c.in_err-put_event.was c.from_residual.ensures.0
    c.put_event.ensures)

pub returns : goal.returns
returns g c =
    let latest = c.args.latest.now in
    same_text _ _ _ _ _ _ _ (flat_by_place event_line latest)
    (blocks_to _ _ _ _ (element_at event_line latest) c.loop-i.i (length latest)
    (omega (arith, c.loop-i-test.false, c.loop-i.auto.i-end, c.len-i-end.ensures)) c.loop-i.invariant)
