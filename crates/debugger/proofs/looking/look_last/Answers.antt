use Rattle.std.proofs.Common.{refl, ap, ◌∙◌}
use Rattle.std.proofs.lemmas.Result.{err_from_is_err_and}
use Rattle.debugger.specs.Latest.{latest_of}
use Rattle.debugger.specs.Looks.{last_text}
use Rattle.debugger.specs.Lines as lines
use Rattle.debugger.proofs.Replying.{same_text, write_replied, write_caused, all_replied, none_caused, look_replies}
use Rattle.debugger.proofs.looking.look_last.Goals as goal

pub returns-in_err-put_last-clause-replied : goal.returns-in_err-put_last-clause-replied
returns-in_err-put_last-clause-replied g c p s watch h =
    let e = err_from_is_err_and c.from_residual.result c.from_residual.ensures.1 in
    let text = last_text (latest_of s.made) in
    write_replied (lines.Last) p s watch c.args.session.now watch c.from_residual.result e.0 e.1 _ _ _ _ text
    c.put_last.result c.in_err-put_last.field-0.0 c.in_err-put_last.was e.2
    (look_replies p s c.args.session.now h (lines.Last) text watch refl)
    (same_text _ _ (ap last_text (ap (λ v. v.latest) c.session.view_is ∙ h.latest)) c.put_last.ensures)

pub returns-in_err-put_last-clause-cause : goal.returns-in_err-put_last-clause-cause
returns-in_err-put_last-clause-cause g c =
    let e = err_from_is_err_and c.from_residual.result c.from_residual.ensures.1 in
    write_caused c.from_residual.result e.0 e.1 _ _ c.put_last.result c.in_err-put_last.field-0.0 c.in_err-put_last.was e.2 c.put_last.ensures.cause

pub returns-clause-replied : goal.returns-clause-replied
returns-clause-replied g c p s watch h =
    let text = last_text (latest_of s.made) in
    all_replied (lines.Last) p s watch c.args.session.now watch tt _ _ _ _ text
    c.put_last.result _ c.in_ok-put_last.was (look_replies p s c.args.session.now h (lines.Last) text watch refl)
    (same_text _ _ (ap last_text (ap (λ v. v.latest) c.session.view_is ∙ h.latest)) c.put_last.ensures)

pub returns-clause-cause : goal.returns-clause-cause
returns-clause-cause g c = none_caused _ _ c.put_last.result _ c.in_ok-put_last.was c.put_last.ensures.cause
