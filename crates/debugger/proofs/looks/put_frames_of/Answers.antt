use Rattle.std.proofs.Common.{◌≡◌, length, sym, ap, ◌∙◌}
use Rattle.report.proofs.Pieces.{same_text}
use Rattle.debugger.proofs.LookFacts.{some_frames, no_frames}
use Rattle.debugger.proofs.looks.put_frames_of.Goals as goal

pub returns-then-frame_count-eq0-clause-text : goal.returns-then-frame_count-eq0-clause-text
returns-then-frame_count-eq0-clause-text g c = λ program frames k.
    let long : c.frame_count.result ≡ length frames =
    c.frame_count.ensures.means program k.script k.letters k.events k.own k.stands ∙ ap length k.is in
    same_text _ _ _ _ _ _ _ (no_frames program frames (sym long ∙ c.if-frame_count-eq0.true)) c.notice_line.ensures

pub returns-else-frame_count-eq0-clause-text : goal.returns-else-frame_count-eq0-clause-text
returns-else-frame_count-eq0-clause-text g c = λ program frames k.
    let long : c.frame_count.result ≡ length frames =
    c.frame_count.ensures.means program k.script k.letters k.events k.own k.stands ∙ ap length k.is in
    same_text _ _ _ _ _ _ _ (some_frames program frames (λ none. c.if-frame_count-eq0.false (long ∙ none)))
    (c.put_each_frame.ensures.text program frames k)
