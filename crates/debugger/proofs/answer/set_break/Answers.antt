use Rattle.std.proofs.Common.{ap}
use Rattle.std.specs.Prelude.{position}
use Rattle.std.proofs.lemmas.Result.{err_from_is_err_and}
use Rattle.debugger.specs.Breaks.{is_free}
use Rattle.debugger.specs.Lines as lines
use Rattle.debugger.specs.private.Making.{set_text}
use Rattle.debugger.proofs.Replying.{write_replied, write_caused, all_replied, none_caused, set_replies}
use Rattle.debugger.proofs.answer.set_break.Goals as goal

pub returns-in_err-put_break-clause-replied : goal.returns-in_err-put_break-clause-replied
returns-in_err-put_break-clause-replied g c p s watch h =
    let e = err_from_is_err_and c.from_residual.result c.from_residual.ensures.1 in
    write_replied (lines.SetBreak c.args.b.proc.no c.args.b.at) p s _ c.put_break.new.session _ c.from_residual.result e.0 e.1 _ _ _ _ (set_text c.args.b (position is_free c.args.session.now.breaks))
    c.put_break.result c.in_err-put_break.field-0.0 c.in_err-put_break.was e.2 (set_replies p s c.put_break.new.session watch c.args.b (position is_free c.args.session.now.breaks) (ap (position is_free) h.breaks) (c.put_break.ensures.stands p s h)) c.put_break.ensures.text

pub returns-in_err-put_break-clause-cause : goal.returns-in_err-put_break-clause-cause
returns-in_err-put_break-clause-cause g c =
    let e = err_from_is_err_and c.from_residual.result c.from_residual.ensures.1 in
    write_caused c.from_residual.result e.0 e.1 _ _ c.put_break.result c.in_err-put_break.field-0.0 c.in_err-put_break.was e.2 c.put_break.ensures.text.cause

pub returns-clause-replied : goal.returns-clause-replied
returns-clause-replied g c p s watch h =
    all_replied (lines.SetBreak c.args.b.proc.no c.args.b.at) p s _ c.put_break.new.session _ tt _ _ _ _ (set_text c.args.b (position is_free c.args.session.now.breaks))
    c.put_break.result _ c.in_ok-put_break.was (set_replies p s c.put_break.new.session watch c.args.b (position is_free c.args.session.now.breaks) (ap (position is_free) h.breaks) (c.put_break.ensures.stands p s h)) c.put_break.ensures.text

pub returns-clause-cause : goal.returns-clause-cause
returns-clause-cause g c = none_caused _ _ c.put_break.result _ c.in_ok-put_break.was c.put_break.ensures.text.cause
