use Rattle.std.proofs.Common.{rules, ◌≡◌, ◌<◌, ◌∙◌, length, arith}
use Rattle.std.specs.Prelude.{map}
use Rattle.std.proofs.lemmas.List.{length-map}
use Rattle.debugger.proofs.Replying.{same_text}
use Rattle.debugger.proofs.WatchFacts.{no_watchers, some_watchers}
use Rattle.debugger.proofs.watching.put_watchers.Goals as goal

pub returns-then-is_empty : goal.returns-then-is_empty
returns-then-is_empty g c =
    let none : length c.args.watch.now.items ≡ 0 = search rules in
    let many = length-map c.args.watch.now.items g.W.Watcher.watched in
    same_text _ _ (no_watchers (map g.W.Watcher.watched c.args.watch.now.items) (many ∙ none))
    c.notice_line.ensures

pub returns-else-is_empty : goal.returns-else-is_empty
returns-else-is_empty g c =
    let some : 0 < length c.args.watch.now.items = search rules in
    let many = length-map c.args.watch.now.items g.W.Watcher.watched in
    same_text _ _ (some_watchers (map g.W.Watcher.watched c.args.watch.now.items)
    (λ e. omega (arith, some, many, e))) c.put_each.ensures
