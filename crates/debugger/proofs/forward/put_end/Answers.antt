use Rattle.std.proofs.Common.{◌∙◌, ap}
use Rattle.debugger.specs.Sessions.{end_text}
use Rattle.debugger.proofs.Replying.{same_text}
use Rattle.debugger.proofs.forward.put_end.Goals as goal

pub returns-clause-text : goal.returns-clause-text
returns-clause-text g c p s h =
    same_text _ _ (c.end_notice.ensures ∙ ap end_text (c.is_finished.ensures p s h)) c.notice_line.ensures
