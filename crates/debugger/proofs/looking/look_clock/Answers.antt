use Rattle.std.proofs.Common.{refl, ap, ◌∙◌}
use Rattle.std.proofs.lemmas.Result.{err_from_is_err_and}
use Rattle.debugger.specs.Looks.{clock_of}
use Rattle.debugger.specs.Lines as lines
use Rattle.debugger.proofs.Replying.{same_text, write_replied, write_caused, all_replied, none_caused, look_replies, as_many, runs_program}
use Rattle.debugger.proofs.looking.look_clock.Goals as goal

pub returns-in_err-put_clock-clause-replied : goal.returns-in_err-put_clock-clause-replied
returns-in_err-put_clock-clause-replied g c p s watch h =
    let e = err_from_is_err_and c.from_residual.result c.from_residual.ensures.1 in
    let text = clock_of p c.args.session.now.trace.n s.run c.args.q.no in
    write_replied (lines.Clock c.args.q.no) p s watch c.args.session.now watch c.from_residual.result e.0 e.1 _ _ _ _ text
    c.put_clock.result c.in_err-put_clock.field-0.0 c.in_err-put_clock.was e.2
    (look_replies p s c.args.session.now h (lines.Clock c.args.q.no) text watch refl)
    (same_text _ _ (ap (λ n. clock_of p n s.run c.args.q.no) (as_many p s c.args.session.now h c.world.result.now (c.world.ensures ∙ ap (λ v. v.replay.world) c.session.view_is))) (c.put_clock.ensures.text p s.run (runs_program p s c.args.session.now h c.world.result.now (c.world.ensures ∙ ap (λ v. v.replay.world) c.session.view_is))))

pub returns-in_err-put_clock-clause-cause : goal.returns-in_err-put_clock-clause-cause
returns-in_err-put_clock-clause-cause g c =
    let e = err_from_is_err_and c.from_residual.result c.from_residual.ensures.1 in
    write_caused c.from_residual.result e.0 e.1 _ _ c.put_clock.result c.in_err-put_clock.field-0.0 c.in_err-put_clock.was e.2 c.put_clock.ensures.cause

pub returns-clause-replied : goal.returns-clause-replied
returns-clause-replied g c p s watch h =
    let text = clock_of p c.args.session.now.trace.n s.run c.args.q.no in
    all_replied (lines.Clock c.args.q.no) p s watch c.args.session.now watch tt _ _ _ _ text
    c.put_clock.result _ c.in_ok-put_clock.was (look_replies p s c.args.session.now h (lines.Clock c.args.q.no) text watch refl)
    (same_text _ _ (ap (λ n. clock_of p n s.run c.args.q.no) (as_many p s c.args.session.now h c.world.result.now (c.world.ensures ∙ ap (λ v. v.replay.world) c.session.view_is))) (c.put_clock.ensures.text p s.run (runs_program p s c.args.session.now h c.world.result.now (c.world.ensures ∙ ap (λ v. v.replay.world) c.session.view_is))))

pub returns-clause-cause : goal.returns-clause-cause
returns-clause-cause g c = none_caused _ _ c.put_clock.result _ c.in_ok-put_clock.was c.put_clock.ensures.cause
