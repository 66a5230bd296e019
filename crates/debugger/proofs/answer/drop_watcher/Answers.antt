use Rattle.std.specs.Prelude.{map, slice_get}
use Rattle.std.proofs.lemmas.Result.{err_from_is_err_and}
use Rattle.debugger.specs.Lines as lines
use Rattle.debugger.specs.private.Making.{detach_text}
use Rattle.debugger.proofs.Replying.{write_replied, write_caused, all_replied, none_caused, detach_replies}
use Rattle.debugger.proofs.answer.drop_watcher.Goals as goal

pub returns-in_err-put_detached-clause-replied : goal.returns-in_err-put_detached-clause-replied
returns-in_err-put_detached-clause-replied g c p s h =
    let e = err_from_is_err_and c.from_residual.result c.from_residual.ensures.1 in
    write_replied (lines.Detach c.args.k) p s _ c.args.session.now _ c.from_residual.result e.0 e.1 _ _ _ _ (detach_text c.args.k (slice_get (map g.W.Watcher.watched c.args.watch.now.items) c.args.k))
    c.put_detached.result c.in_err-put_detached.field-0.0 c.in_err-put_detached.was e.2 (detach_replies p s c.args.session.now (map g.W.Watcher.watched c.args.watch.now.items) c.args.k _ c.put_detached.ensures.left h) c.put_detached.ensures.text

pub returns-in_err-put_detached-clause-cause : goal.returns-in_err-put_detached-clause-cause
returns-in_err-put_detached-clause-cause g c =
    let e = err_from_is_err_and c.from_residual.result c.from_residual.ensures.1 in
    write_caused c.from_residual.result e.0 e.1 _ _ c.put_detached.result c.in_err-put_detached.field-0.0 c.in_err-put_detached.was e.2 c.put_detached.ensures.text.cause

pub returns-clause-replied : goal.returns-clause-replied
returns-clause-replied g c p s h =
    all_replied (lines.Detach c.args.k) p s _ c.args.session.now _ tt _ _ _ _ (detach_text c.args.k (slice_get (map g.W.Watcher.watched c.args.watch.now.items) c.args.k))
    c.put_detached.result _ c.in_ok-put_detached.was (detach_replies p s c.args.session.now (map g.W.Watcher.watched c.args.watch.now.items) c.args.k _ c.put_detached.ensures.left h) c.put_detached.ensures.text

pub returns-clause-cause : goal.returns-clause-cause
returns-clause-cause g c = none_caused _ _ c.put_detached.result _ c.in_ok-put_detached.was c.put_detached.ensures.text.cause
