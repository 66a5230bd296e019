use Rattle.std.proofs.lemmas.Result.{err_from_is_err_and}
use Rattle.debugger.specs.Lines as lines
use Rattle.debugger.specs.private.Making.{halt_text}
use Rattle.debugger.proofs.Replying.{memory_replied, memory_caused, write_replied, write_caused, all_replied, none_caused, run_replies}
use Rattle.debugger.proofs.forward.run.Goals as goal

pub returns-in_err-end-clause-replied : goal.returns-in_err-end-clause-replied
returns-in_err-end-clause-replied g c p s h =
    let e = err_from_is_err_and c.from_residual.result c.from_residual.ensures.1 in
    memory_replied lines.Run p s _ c.run_on.new.session _ c.from_residual.result e.0 e.1 _ e.2

pub returns-in_err-end-clause-cause : goal.returns-in_err-end-clause-cause
returns-in_err-end-clause-cause g c =
    let e = err_from_is_err_and c.from_residual.result c.from_residual.ensures.1 in
    memory_caused c.from_residual.result e.0 e.1 _ e.2

pub returns-in_err-put_halt-clause-replied : goal.returns-in_err-put_halt-clause-replied
returns-in_err-put_halt-clause-replied g c p s h =
    let e = err_from_is_err_and c.from_residual-in_err-put_halt.result c.from_residual-in_err-put_halt.ensures.1 in
    let k = c.in_ok-end.ensures.run p s h in
    write_replied lines.Run p s _ c.run_on.new.session _ c.from_residual-in_err-put_halt.result e.0 e.1 _ _ _ _
    (halt_text p c.run_on.new.session.trace k.next.run c.in_ok-end.end) c.put_halt.result c.in_err-put_halt.field-0.0
    c.in_err-put_halt.was e.2 (run_replies p s _ c.run_on.new.session _ c.in_ok-end.end k)
    (c.put_halt.ensures.text p k.next k.stands)

pub returns-in_err-put_halt-clause-cause : goal.returns-in_err-put_halt-clause-cause
returns-in_err-put_halt-clause-cause g c =
    let e = err_from_is_err_and c.from_residual-in_err-put_halt.result c.from_residual-in_err-put_halt.ensures.1 in
    write_caused c.from_residual-in_err-put_halt.result e.0 e.1 _ _ c.put_halt.result c.in_err-put_halt.field-0.0
    c.in_err-put_halt.was e.2 c.put_halt.ensures.cause

pub returns-clause-replied : goal.returns-clause-replied
returns-clause-replied g c p s h =
    let k = c.in_ok-end.ensures.run p s h in
    all_replied lines.Run p s _ c.run_on.new.session _ tt _ _ _ _
    (halt_text p c.run_on.new.session.trace k.next.run c.in_ok-end.end) c.put_halt.result _ c.in_ok-put_halt.was
    (run_replies p s _ c.run_on.new.session _ c.in_ok-end.end k) (c.put_halt.ensures.text p k.next k.stands)

pub returns-clause-cause : goal.returns-clause-cause
returns-clause-cause g c = none_caused _ _ c.put_halt.result _ c.in_ok-put_halt.was c.put_halt.ensures.cause
