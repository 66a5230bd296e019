use Rattle.std.proofs.lemmas.Result.{err_from_is_err_and}
use Rattle.debugger.specs.Lines as lines
use Rattle.debugger.specs.private.Making.{step_text, with_next}
use Rattle.debugger.proofs.Replying.{memory_replied, memory_caused, write_replied, write_caused, all_replied, none_caused, step_replies}
use Rattle.debugger.proofs.forward.step.Goals as goal

pub returns-in_err-made-clause-replied : goal.returns-in_err-made-clause-replied
returns-in_err-made-clause-replied g c p s h =
    let e = err_from_is_err_and c.from_residual.result c.from_residual.ensures.1 in
    memory_replied lines.Step p s _ c.noted_step.new.session _ c.from_residual.result e.0 e.1 _ e.2

pub returns-in_err-made-clause-cause : goal.returns-in_err-made-clause-cause
returns-in_err-made-clause-cause g c =
    let e = err_from_is_err_and c.from_residual.result c.from_residual.ensures.1 in
    memory_caused c.from_residual.result e.0 e.1 _ e.2

pub returns-in_err-put_step-clause-replied : goal.returns-in_err-put_step-clause-replied
returns-in_err-put_step-clause-replied g c p s h =
    let e = err_from_is_err_and c.from_residual-in_err-put_step.result c.from_residual-in_err-put_step.ensures.1 in
    let o = c.in_ok-made.made in
    let k = c.in_ok-made.ensures.noted p s h in
    write_replied lines.Step p s _ c.noted_step.new.session _ c.from_residual-in_err-put_step.result e.0 e.1 _ _ _ _
    (step_text p c.noted_step.new.session.trace (with_next s o).run o) c.put_step.result c.in_err-put_step.field-0.0
    c.in_err-put_step.was e.2 (step_replies p s _ c.noted_step.new.session _ o k)
    (c.put_step.ensures.text p (with_next s o) k.stands)

pub returns-in_err-put_step-clause-cause : goal.returns-in_err-put_step-clause-cause
returns-in_err-put_step-clause-cause g c =
    let e = err_from_is_err_and c.from_residual-in_err-put_step.result c.from_residual-in_err-put_step.ensures.1 in
    write_caused c.from_residual-in_err-put_step.result e.0 e.1 _ _ c.put_step.result c.in_err-put_step.field-0.0 c.in_err-put_step.was e.2
    c.put_step.ensures.cause

pub returns-clause-replied : goal.returns-clause-replied
returns-clause-replied g c p s h =
    let o = c.in_ok-made.made in
    let k = c.in_ok-made.ensures.noted p s h in
    all_replied lines.Step p s _ c.noted_step.new.session _ tt _ _ _ _
    (step_text p c.noted_step.new.session.trace (with_next s o).run o) c.put_step.result _ c.in_ok-put_step.was
    (step_replies p s _ c.noted_step.new.session _ o k) (c.put_step.ensures.text p (with_next s o) k.stands)

pub returns-clause-cause : goal.returns-clause-cause
returns-clause-cause g c = none_caused _ _ c.put_step.result _ c.in_ok-put_step.was c.put_step.ensures.cause
