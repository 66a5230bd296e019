use Rattle.std.proofs.Common.{refl, ap, ◌∙◌}
use Rattle.std.proofs.lemmas.Result.{err_from_is_err_and}
use Rattle.debugger.specs.Looks.{mail_of}
use Rattle.debugger.specs.Lines as lines
use Rattle.debugger.proofs.Replying.{same_text, write_replied, write_caused, all_replied, none_caused, look_replies, as_many, runs_program}
use Rattle.debugger.proofs.looking.look_mail.Goals as goal

pub returns-in_err-put_mail-clause-replied : goal.returns-in_err-put_mail-clause-replied
returns-in_err-put_mail-clause-replied g c p s watch h =
    let e = err_from_is_err_and c.from_residual.result c.from_residual.ensures.1 in
    let text = mail_of p c.args.session.now.trace.n s.run c.args.q.no in
    write_replied (lines.Mail c.args.q.no) p s watch c.args.session.now watch c.from_residual.result e.0 e.1 _ _ _ _ text
    c.put_mail.result c.in_err-put_mail.field-0.0 c.in_err-put_mail.was e.2
    (look_replies p s c.args.session.now h (lines.Mail c.args.q.no) text watch refl)
    (same_text _ _ (ap (λ n. mail_of p n s.run c.args.q.no) (as_many p s c.args.session.now h c.world.result.now (c.world.ensures ∙ ap (λ v. v.replay.world) c.session.view_is))) (c.put_mail.ensures.text p s.run (runs_program p s c.args.session.now h c.world.result.now (c.world.ensures ∙ ap (λ v. v.replay.world) c.session.view_is))))

pub returns-in_err-put_mail-clause-cause : goal.returns-in_err-put_mail-clause-cause
returns-in_err-put_mail-clause-cause g c =
    let e = err_from_is_err_and c.from_residual.result c.from_residual.ensures.1 in
    write_caused c.from_residual.result e.0 e.1 _ _ c.put_mail.result c.in_err-put_mail.field-0.0 c.in_err-put_mail.was e.2 c.put_mail.ensures.cause

pub returns-clause-replied : goal.returns-clause-replied
returns-clause-replied g c p s watch h =
    let text = mail_of p c.args.session.now.trace.n s.run c.args.q.no in
    all_replied (lines.Mail c.args.q.no) p s watch c.args.session.now watch tt _ _ _ _ text
    c.put_mail.result _ c.in_ok-put_mail.was (look_replies p s c.args.session.now h (lines.Mail c.args.q.no) text watch refl)
    (same_text _ _ (ap (λ n. mail_of p n s.run c.args.q.no) (as_many p s c.args.session.now h c.world.result.now (c.world.ensures ∙ ap (λ v. v.replay.world) c.session.view_is))) (c.put_mail.ensures.text p s.run (runs_program p s c.args.session.now h c.world.result.now (c.world.ensures ∙ ap (λ v. v.replay.world) c.session.view_is))))

pub returns-clause-cause : goal.returns-clause-cause
returns-clause-cause g c = none_caused _ _ c.put_mail.result _ c.in_ok-put_mail.was c.put_mail.ensures.cause
