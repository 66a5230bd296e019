use Rattle.std.proofs.Common.{refl, ap, ◌∙◌}
use Rattle.std.proofs.lemmas.Result.{err_from_is_err_and}
use Rattle.debugger.specs.Looks.{value_of}
use Rattle.debugger.specs.Lines as lines
use Rattle.debugger.proofs.Replying.{same_text, write_replied, write_caused, all_replied, none_caused, look_replies, as_many, runs_program}
use Rattle.debugger.proofs.looking.look_value.Goals as goal

pub returns-in_err-put_value-clause-replied : goal.returns-in_err-put_value-clause-replied
returns-in_err-put_value-clause-replied g c p s watch h =
    let e = err_from_is_err_and c.from_residual.result c.from_residual.ensures.1 in
    let text = value_of p c.args.session.now.trace.n s.run c.args.q.no c.args.name.now c.args.index in
    write_replied (lines.Print c.args.q.no c.args.name.now c.args.index) p s watch c.args.session.now watch c.from_residual.result e.0 e.1 _ _ _ _ text
    c.put_value.result c.in_err-put_value.field-0.0 c.in_err-put_value.was e.2
    (look_replies p s c.args.session.now h (lines.Print c.args.q.no c.args.name.now c.args.index) text watch refl)
    (same_text _ _ (ap (λ n. value_of p n s.run c.args.q.no c.args.name.now c.args.index) (as_many p s c.args.session.now h c.world.result.now (c.world.ensures ∙ ap (λ v. v.replay.world) c.session.view_is))) (c.put_value.ensures.text p s.run (runs_program p s c.args.session.now h c.world.result.now (c.world.ensures ∙ ap (λ v. v.replay.world) c.session.view_is))))

pub returns-in_err-put_value-clause-cause : goal.returns-in_err-put_value-clause-cause
returns-in_err-put_value-clause-cause g c =
    let e = err_from_is_err_and c.from_residual.result c.from_residual.ensures.1 in
    write_caused c.from_residual.result e.0 e.1 _ _ c.put_value.result c.in_err-put_value.field-0.0 c.in_err-put_value.was e.2 c.put_value.ensures.cause

pub returns-clause-replied : goal.returns-clause-replied
returns-clause-replied g c p s watch h =
    let text = value_of p c.args.session.now.trace.n s.run c.args.q.no c.args.name.now c.args.index in
    all_replied (lines.Print c.args.q.no c.args.name.now c.args.index) p s watch c.args.session.now watch tt _ _ _ _ text
    c.put_value.result _ c.in_ok-put_value.was (look_replies p s c.args.session.now h (lines.Print c.args.q.no c.args.name.now c.args.index) text watch refl)
    (same_text _ _ (ap (λ n. value_of p n s.run c.args.q.no c.args.name.now c.args.index) (as_many p s c.args.session.now h c.world.result.now (c.world.ensures ∙ ap (λ v. v.replay.world) c.session.view_is))) (c.put_value.ensures.text p s.run (runs_program p s c.args.session.now h c.world.result.now (c.world.ensures ∙ ap (λ v. v.replay.world) c.session.view_is))))

pub returns-clause-cause : goal.returns-clause-cause
returns-clause-cause g c = none_caused _ _ c.put_value.result _ c.in_ok-put_value.was c.put_value.ensures.cause
