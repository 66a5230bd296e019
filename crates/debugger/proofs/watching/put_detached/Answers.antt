use Rattle.std.proofs.Common.{◌∙◌, sym, ap, length, arith}
use Rattle.std.specs.Prelude.{map}
use Rattle.std.proofs.lemmas.Bool.{ltb-true, ltb-false}
use Rattle.std.proofs.lemmas.List.{length-map}
use Rattle.debugger.proofs.Replying.{same_text}
use Rattle.debugger.proofs.PlaceFacts.{detach_there, detach_none, left_there, left_none}
use Rattle.debugger.proofs.watching.put_detached.Goals as goal

pub returns-then-detach-clause-text : goal.returns-then-detach-clause-text
returns-then-detach-clause-text g c =
    let items = c.args.watch.now.items in
    let lt = ltb-true c.args.k (length items) (sym c.detach.ensures.none ∙ c.if-detach.true) in
    same_text _ _ (detach_there (map g.W.Watcher.watched
    items) c.args.k (omega (arith, lt, length-map items g.W.Watcher.watched))) c.detached_line.ensures

pub returns-then-detach-clause-left : goal.returns-then-detach-clause-left
returns-then-detach-clause-left g c =
    let items = c.args.watch.now.items in
    let lt = ltb-true c.args.k (length items) (sym c.detach.ensures.none ∙ c.if-detach.true) in
    c.detach.ensures.detached c.if-detach.true
    ∙ left_there (map g.W.Watcher.watched
    items) c.args.k (omega (arith, lt, length-map items g.W.Watcher.watched))

pub returns-else-detach-clause-text : goal.returns-else-detach-clause-text
returns-else-detach-clause-text g c =
    let items = c.args.watch.now.items in
    let le = ltb-false c.args.k (length items) (sym c.detach.ensures.none ∙ c.if-detach.false) in
    same_text _ _ (detach_none (map g.W.Watcher.watched
    items) c.args.k (omega (arith, le, length-map items g.W.Watcher.watched))) c.notice_line.ensures

pub returns-else-detach-clause-left : goal.returns-else-detach-clause-left
returns-else-detach-clause-left g c =
    let items = c.args.watch.now.items in
    let le = ltb-false c.args.k (length items) (sym c.detach.ensures.none ∙ c.if-detach.false) in
    ap (map g.W.Watcher.watched) (c.detach.ensures.same c.if-detach.false)
    ∙ left_none (map g.W.Watcher.watched
    items) c.args.k (omega (arith, le, length-map items g.W.Watcher.watched))
