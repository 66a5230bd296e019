use Rattle.std.proofs.Common.{◌≡◌, length, arith, refl, ap, ◌∙◌}
use Rattle.report.proofs.Pieces.{prints_nothing, still_after, failed_after, same_text}
use Rattle.report.proofs.Ranges.{one_more, one_failed, blocks_to}
use Rattle.debugger.proofs.LookFacts.{frame_at, frames_by_place}
use Rattle.debugger.proofs.looks.put_each_frame.Goals as goal

pub loop-i-init : goal.loop-i-init
loop-i-init g c = record { told = λ program frames k. prints_nothing _ _; still = refl }

pub loop-i-preserved : goal.loop-i-preserved
loop-i-preserved g c = record {
  told = λ program frames k.
      one_more _ _ _ _ _ _ (frame_at program frames) c.loop-i.i (c.loop-i.invariant.told program frames k)
      c.put_frame.result c.in_ok-put_frame.was (c.put_frame.ensures.text program frames k);
  still = still_after c.put_frame.result c.in_ok-put_frame.was c.put_frame.ensures.cause ∙ c.loop-i.invariant.still;
}

pub returns-in_err-put_frame-clause-text : goal.returns-in_err-put_frame-clause-text
returns-in_err-put_frame-clause-text g c = λ program frames k.
    let long : c.frame_count-i-end.result ≡ length frames =
    c.frame_count-i-end.ensures.means program k.script k.letters k.events k.own k.stands ∙ ap length k.is in
    same_text _ _ _ _ _ _ _ (frames_by_place program frames)
    (one_failed _ _ _ _ _ _ (frame_at program frames) c.loop-i.i (c.loop-i.invariant.told program frames k)
    (length frames) (omega (arith, c.loop-i-test.true, long)) c.put_frame.result
    c.from_residual.result c.in_err-put_frame.field-0.0 c.in_err-put_frame.was c.from_residual.ensures.0
    (c.put_frame.ensures.text program frames k))

pub returns-in_err-put_frame-clause-cause : goal.returns-in_err-put_frame-clause-cause
returns-in_err-put_frame-clause-cause g c =
    failed_after c.put_frame.result c.from_residual.result c.in_err-put_frame.field-0.0 c.in_err-put_frame.was
    c.from_residual.ensures.0 c.loop-i.invariant.still c.put_frame.ensures.cause

pub returns-clause-text : goal.returns-clause-text
returns-clause-text g c = λ program frames k.
    let long : c.frame_count-i-end.result ≡ length frames =
    c.frame_count-i-end.ensures.means program k.script k.letters k.events k.own k.stands ∙ ap length k.is in
    same_text _ _ _ _ _ _ _ (frames_by_place program frames)
    (blocks_to _ _ _ _ (frame_at program frames) c.loop-i.i (length frames)
    (omega (arith, c.loop-i-test.false, c.loop-i.auto.i-end, long)) (c.loop-i.invariant.told program frames k))
