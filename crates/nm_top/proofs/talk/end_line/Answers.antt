use Rattle.std.proofs.Common.{sym, subst, map, ◌++◌, ◌∷◌, []}
use Rattle.nm_top.specs.Debugging.{split, ended_lines, without_return}
use Rattle.nm_top.specs.private.Talking.{Came}
use Rattle.nm_top.proofs.TalkFacts.{line_done, came_line}
use Rattle.nm_top.proofs.talk.end_line.Goals as goal

pub returns-clause-came : goal.returns-clause-came
returns-clause-came g c = λ o read x.
    let line = without_return (split read).begun in
    let a = c.answer_line-next in
    let before = map g.W.Watcher.watched c.args.watch.now.items in
    let after = map g.W.Watcher.watched a.new.watch.items in
    let given = g.O.Sink.given c.args.out.now in
    let given' = g.O.Sink.given a.new.out in
    subst (λ k. Came o (read ++ 10 ∷ []) k a.new.session after given' a.result) (sym c.clear.ensures)
    (came_line o read a.new.session after given' x.quiet a.result
    (line_done o (ended_lines read) line c.args.session.now a.new.session before after given given' x.answered x.quiet a.ensures.same a.result
    (λ p s stands. a.ensures.answered line p s (c.ended.ensures (split read).begun x.held) stands)))
