use Rattle.std.proofs.Common.{sym, ◌∙◌}
use Rattle.report.proofs.Pieces.{same_text}
use Rattle.debugger.proofs.LookFacts.{no_events, some_events}
use Rattle.debugger.proofs.looks.put_last.Goals as goal

pub returns-then-len-eq0 : goal.returns-then-len-eq0
returns-then-len-eq0 g c =
    same_text _ _ _ _ _ _ _ (no_events c.args.latest.now (sym c.len.ensures ∙ c.if-len-eq0.true)) c.notice_line.ensures

pub returns-else-len-eq0 : goal.returns-else-len-eq0
returns-else-len-eq0 g c =
    same_text _ _ _ _ _ _ _ (some_events c.args.latest.now (λ none. c.if-len-eq0.false (c.len.ensures ∙ none)))
    c.put_events.ensures
