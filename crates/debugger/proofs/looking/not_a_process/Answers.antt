use Rattle.std.proofs.Common.{refl}
use Rattle.std.proofs.lemmas.Result.{err_from_is_err_and}
use Rattle.report.specs.Replies.{notice_line}
use Rattle.report.specs.declared.replies.Notice.TheVariants as notice
use Rattle.debugger.specs.Lines as lines
use Rattle.debugger.proofs.Replying.{write_replied, write_caused, all_replied, none_caused, look_replies}
use Rattle.debugger.proofs.looking.not_a_process.Goals as goal

pub returns-in_err-notice_line-clause-replied : goal.returns-in_err-notice_line-clause-replied
returns-in_err-notice_line-clause-replied g c p s watch h =
    let e = err_from_is_err_and c.from_residual.result c.from_residual.ensures.1 in
    let text = notice_line notice.NoProcess in
    write_replied lines.NotAProcess p s watch c.args.session.now watch c.from_residual.result e.0 e.1 _ _ _ _ text
    c.notice_line.result c.in_err-notice_line.field-0.0 c.in_err-notice_line.was e.2
    (look_replies p s c.args.session.now h lines.NotAProcess text watch refl) c.notice_line.ensures

pub returns-in_err-notice_line-clause-cause : goal.returns-in_err-notice_line-clause-cause
returns-in_err-notice_line-clause-cause g c =
    let e = err_from_is_err_and c.from_residual.result c.from_residual.ensures.1 in
    write_caused c.from_residual.result e.0 e.1 _ _ c.notice_line.result c.in_err-notice_line.field-0.0
    c.in_err-notice_line.was e.2 c.notice_line.ensures.cause

pub returns-clause-replied : goal.returns-clause-replied
returns-clause-replied g c p s watch h =
    let text = notice_line notice.NoProcess in
    all_replied lines.NotAProcess p s watch c.args.session.now watch tt _ _ _ _ text
    c.notice_line.result _ c.in_ok-notice_line.was (look_replies p s c.args.session.now h lines.NotAProcess text watch refl)
    c.notice_line.ensures

pub returns-clause-cause : goal.returns-clause-cause
returns-clause-cause g c = none_caused _ _ c.notice_line.result _ c.in_ok-notice_line.was c.notice_line.ensures.cause
