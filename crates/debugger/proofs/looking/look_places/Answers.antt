use Rattle.std.proofs.Common.{refl, ap, ◌∙◌}
use Rattle.std.proofs.lemmas.Result.{err_from_is_err_and}
use Rattle.trace_file.specs.Content.{count_of}
use Rattle.debugger.specs.Looks.{places_of}
use Rattle.debugger.specs.Lines as lines
use Rattle.debugger.proofs.Replying.{same_text, write_replied, write_caused, all_replied, none_caused, look_replies, as_many, runs_program}
use Rattle.debugger.proofs.looking.look_places.Goals as goal

pub returns-in_err-put_places-clause-replied : goal.returns-in_err-put_places-clause-replied
returns-in_err-put_places-clause-replied g c p s watch h =
    let e = err_from_is_err_and c.from_residual.result c.from_residual.ensures.1 in
    let text = places_of p c.args.session.now.trace.n s.run (count_of c.args.session.now.trace) in
    write_replied (lines.Where) p s watch c.args.session.now watch c.from_residual.result e.0 e.1 _ _ _ _ text
    c.put_places.result c.in_err-put_places.field-0.0 c.in_err-put_places.was e.2
    (look_replies p s c.args.session.now h (lines.Where) text watch refl)
    (same_text _ _ (ap (λ n. places_of p n s.run (count_of c.session.inside.trace.now)) (as_many p s c.args.session.now h c.world.result.now (c.world.ensures ∙ ap (λ v. v.replay.world) c.session.view_is)) ∙ ap (λ v. places_of p c.args.session.now.trace.n s.run (count_of v.trace)) c.session.view_is) (c.put_places.ensures.text p s.run (runs_program p s c.args.session.now h c.world.result.now (c.world.ensures ∙ ap (λ v. v.replay.world) c.session.view_is))))

pub returns-in_err-put_places-clause-cause : goal.returns-in_err-put_places-clause-cause
returns-in_err-put_places-clause-cause g c =
    let e = err_from_is_err_and c.from_residual.result c.from_residual.ensures.1 in
    write_caused c.from_residual.result e.0 e.1 _ _ c.put_places.result c.in_err-put_places.field-0.0 c.in_err-put_places.was e.2 c.put_places.ensures.cause

pub returns-clause-replied : goal.returns-clause-replied
returns-clause-replied g c p s watch h =
    let text = places_of p c.args.session.now.trace.n s.run (count_of c.args.session.now.trace) in
    all_replied (lines.Where) p s watch c.args.session.now watch tt _ _ _ _ text
    c.put_places.result _ c.in_ok-put_places.was (look_replies p s c.args.session.now h (lines.Where) text watch refl)
    (same_text _ _ (ap (λ n. places_of p n s.run (count_of c.session.inside.trace.now)) (as_many p s c.args.session.now h c.world.result.now (c.world.ensures ∙ ap (λ v. v.replay.world) c.session.view_is)) ∙ ap (λ v. places_of p c.args.session.now.trace.n s.run (count_of v.trace)) c.session.view_is) (c.put_places.ensures.text p s.run (runs_program p s c.args.session.now h c.world.result.now (c.world.ensures ∙ ap (λ v. v.replay.world) c.session.view_is))))

pub returns-clause-cause : goal.returns-clause-cause
returns-clause-cause g c = none_caused _ _ c.put_places.result _ c.in_ok-put_places.was c.put_places.ensures.cause
