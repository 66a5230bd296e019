use Rattle.report.proofs.Pieces.{same_text}
use Rattle.debugger.proofs.MailFacts.{no_mail, some_mail}
use Rattle.debugger.proofs.looks.put_mail.Goals as goal

pub returns-in-None-clause-text : goal.returns-in-None-clause-text
returns-in-None-clause-text g c = λ program E k.
    same_text _ _ _ _ _ _ _
    (no_mail c.args.world.now c.args.p.no program E k (g.M.Mail.letters c.mail.result.now) c.mail.ensures.letters
    (g.met.M.Mail.rises c.mail.result.now) c.in-None.ensures)
    c.notice_line.ensures

pub returns-in-Some-clause-text : goal.returns-in-Some-clause-text
returns-in-Some-clause-text g c = λ program E k.
    same_text _ _ _ _ _ _ _
    (some_mail c.args.world.now c.args.p.no program E k (g.M.Mail.letters c.mail.result.now) c.mail.ensures.letters
    c.in-Some.field-0.now c.in-Some.ensures)
    (c.put_letters.ensures.text program E k)
