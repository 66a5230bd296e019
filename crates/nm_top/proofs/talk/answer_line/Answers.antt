use Rattle.std.proofs.Common.{◌∙◌, sym, ap, subst, option_copied, map, Err}
use Rattle.std.specs.Prelude.{◌↔◌, ◌≡◌, IfOk}
use Rattle.std.proofs.lemmas.Result.{err_from_is_err_and}
use Rattle.debugger.specs.declared.dispatch.Next.TheVariants as nexts
use Rattle.debugger.specs.Lines.{Quit, asked_of}
use Rattle.debugger.specs.Sittings.{HasReplied}
use Rattle.nm_top.proofs.AnswerFacts.{is_long, is_shown, long_answered, long_broken, short_answered}
use Rattle.nm_top.proofs.talk.answer_line.Goals as goal

pub returns-in_err-notice_line-in-None-clause-answered : goal.returns-in_err-notice_line-in-None-clause-answered
returns-in_err-notice_line-in-None-clause-answered g c = λ text p s shown stands.
    let e = err_from_is_err_and c.from_residual.result c.from_residual.ensures.1 in
    long_broken p c.args.session.now.trace s (map g.W.Watcher.watched c.args.watch.now.items) text c.args.session.now
    (g.O.Sink.given c.args.out.now) (g.O.Sink.given c.notice_line.new.out) (is_long text (sym (ap option_copied c.in-None.is) ∙ shown)) stands
    c.from_residual.result (e.1 ∙ ap Err e.2) c.in_err-notice_line-in-None.ensures.err

pub returns-in-Some-clause-answered : goal.returns-in-Some-clause-answered
returns-in-Some-clause-answered g c = λ text p s shown stands.
    let k = is_shown text c.in-Some.text.now (sym (ap option_copied c.in-Some.is) ∙ shown) in
    let n = c.args.session.now.trace.n in
    let before = map g.W.Watcher.watched c.args.watch.now.items in
    let after = map g.W.Watcher.watched c.line.new.watch.items in
    let given = g.O.Sink.given c.args.out.now in
    let given' = g.O.Sink.given c.line.new.out in
    short_answered p c.args.session.now.trace s before text c.line.new.self after given given' k.1 c.line.ensures.same.trace c.line.result
    (subst (λ u. HasReplied (asked_of n u) p s before c.line.new.self after given given' c.line.result) (sym k.0) (c.line.ensures.replied p s stands))
    (subst (λ u. IfOk c.line.result (λ next. (next ≡ nexts.Quit) ↔ (asked_of n u ≡ Quit))) (sym k.0) c.line.ensures.next)

pub returns-in_ok-notice_line-in-None-clause-answered : goal.returns-in_ok-notice_line-in-None-clause-answered
returns-in_ok-notice_line-in-None-clause-answered g c = λ text p s shown stands.
    long_answered p c.args.session.now.trace s (map g.W.Watcher.watched c.args.watch.now.items) text c.args.session.now
    (g.O.Sink.given c.args.out.now) (g.O.Sink.given c.notice_line.new.out) (is_long text (sym (ap option_copied c.in-None.is) ∙ shown)) stands
    c.in_ok-notice_line-in-None.ensures.ok
