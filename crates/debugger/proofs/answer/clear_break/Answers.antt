use Rattle.std.proofs.Common.{ap}
use Rattle.std.specs.Prelude.{slice_get}
use Rattle.std.proofs.lemmas.Result.{err_from_is_err_and}
use Rattle.debugger.specs.Breaks.{is_taken}
use Rattle.debugger.specs.Lines as lines
use Rattle.debugger.specs.private.Making.{cleared_text}
use Rattle.debugger.proofs.Replying.{write_replied, write_caused, all_replied, none_caused, clear_replies}
use Rattle.debugger.proofs.answer.clear_break.Goals as goal

pub returns-in_err-put_cleared-clause-replied : goal.returns-in_err-put_cleared-clause-replied
returns-in_err-put_cleared-clause-replied g c p s watch h =
    let e = err_from_is_err_and c.from_residual.result c.from_residual.ensures.1 in
    write_replied (lines.Clear c.args.k) p s _ c.put_cleared.new.session _ c.from_residual.result e.0 e.1 _ _ _ _ (cleared_text c.args.k (is_taken (slice_get c.args.session.now.breaks c.args.k)))
    c.put_cleared.result c.in_err-put_cleared.field-0.0 c.in_err-put_cleared.was e.2 (clear_replies p s c.put_cleared.new.session watch c.args.k (is_taken (slice_get c.args.session.now.breaks c.args.k)) (ap (λ bs. is_taken (slice_get bs c.args.k)) h.breaks) (c.put_cleared.ensures.stands p s h)) c.put_cleared.ensures.text

pub returns-in_err-put_cleared-clause-cause : goal.returns-in_err-put_cleared-clause-cause
returns-in_err-put_cleared-clause-cause g c =
    let e = err_from_is_err_and c.from_residual.result c.from_residual.ensures.1 in
    write_caused c.from_residual.result e.0 e.1 _ _ c.put_cleared.result c.in_err-put_cleared.field-0.0 c.in_err-put_cleared.was e.2 c.put_cleared.ensures.text.cause

pub returns-clause-replied : goal.returns-clause-replied
returns-clause-replied g c p s watch h =
    all_replied (lines.Clear c.args.k) p s _ c.put_cleared.new.session _ tt _ _ _ _ (cleared_text c.args.k (is_taken (slice_get c.args.session.now.breaks c.args.k)))
    c.put_cleared.result _ c.in_ok-put_cleared.was (clear_replies p s c.put_cleared.new.session watch c.args.k (is_taken (slice_get c.args.session.now.breaks c.args.k)) (ap (λ bs. is_taken (slice_get bs c.args.k)) h.breaks) (c.put_cleared.ensures.stands p s h)) c.put_cleared.ensures.text

pub returns-clause-cause : goal.returns-clause-cause
returns-clause-cause g c = none_caused _ _ c.put_cleared.result _ c.in_ok-put_cleared.was c.put_cleared.ensures.text.cause
