use Rattle.std.proofs.Common.{◌∙◌, ap, sym}
use Rattle.world.specs.Outcomes.{outcome}
use Rattle.debugger.specs.private.Making.{turn_text}
use Rattle.debugger.proofs.Replying.{same_text}
use Rattle.debugger.proofs.forward.put_turn.Goals as goal

pub returns-in-Idle : goal.returns-in-Idle
returns-in-Idle g c =
    same_text _ _ (c.idle_notice.ensures ∙ ap (λ w. turn_text (outcome w)) (sym c.in-Idle.is)) c.notice_line.ensures

pub returns-in-Went : goal.returns-in-Went
returns-in-Went g c = same_text _ _ (ap (λ w. turn_text (outcome w)) (sym c.in-Went.is)) c.event_line.ensures
