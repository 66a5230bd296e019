use Rattle.std.specs.Prelude.{map}
use Rattle.std.proofs.lemmas.Result.{err_from_is_err_and}
use Rattle.debugger.specs.Lines as lines
use Rattle.debugger.specs.Sessions.{watch_text}
use Rattle.debugger.proofs.Replying.{write_replied, write_caused, all_replied, none_caused, watch_replies}
use Rattle.debugger.proofs.answer.list_watchers.Goals as goal

pub returns-in_err-put_watchers-clause-replied : goal.returns-in_err-put_watchers-clause-replied
returns-in_err-put_watchers-clause-replied g c p s h =
    let e = err_from_is_err_and c.from_residual.result c.from_residual.ensures.1 in
    write_replied (lines.Watch) p s _ c.args.session.now _ c.from_residual.result e.0 e.1 _ _ _ _ (watch_text (map g.W.Watcher.watched c.args.watch.now.items))
    c.put_watchers.result c.in_err-put_watchers.field-0.0 c.in_err-put_watchers.was e.2 (watch_replies p s c.args.session.now (map g.W.Watcher.watched c.args.watch.now.items) h) c.put_watchers.ensures

pub returns-in_err-put_watchers-clause-cause : goal.returns-in_err-put_watchers-clause-cause
returns-in_err-put_watchers-clause-cause g c =
    let e = err_from_is_err_and c.from_residual.result c.from_residual.ensures.1 in
    write_caused c.from_residual.result e.0 e.1 _ _ c.put_watchers.result c.in_err-put_watchers.field-0.0 c.in_err-put_watchers.was e.2 c.put_watchers.ensures.cause

pub returns-clause-replied : goal.returns-clause-replied
returns-clause-replied g c p s h =
    all_replied (lines.Watch) p s _ c.args.session.now _ tt _ _ _ _ (watch_text (map g.W.Watcher.watched c.args.watch.now.items))
    c.put_watchers.result _ c.in_ok-put_watchers.was (watch_replies p s c.args.session.now (map g.W.Watcher.watched c.args.watch.now.items) h) c.put_watchers.ensures

pub returns-clause-cause : goal.returns-clause-cause
returns-clause-cause g c = none_caused _ _ c.put_watchers.result _ c.in_ok-put_watchers.was c.put_watchers.ensures.cause
