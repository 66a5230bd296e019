use Rattle.std.proofs.Common.{◌∙◌, sym, map, Ok, Err}
use Rattle.nm_top.specs.Debugging.{split, ended_lines}
use Rattle.nm_top.proofs.TalkFacts.{line_done}
use Rattle.nm_top.proofs.EndFacts.{last_empty, last_answered, last_end}
use Rattle.nm_top.proofs.talk.answer_last.Goals as goal

pub returns-then-is_empty-clause-finished : goal.returns-then-is_empty-clause-finished
returns-then-is_empty-clause-finished g c = λ o read left few at_end x.
    last_empty o read left c.args.session.now (map g.W.Watcher.watched c.args.watch.now.items) (g.O.Sink.given c.args.out.now) few at_end x.quiet
    (sym (c.is_empty.ensures (split read).begun x.held) ∙ c.if-is_empty.true) x.answered

pub returns-in-Ok-clause-finished : goal.returns-in-Ok-clause-finished
returns-in-Ok-clause-finished g c = λ o read left few at_end x.
    let line = (split read).begun in
    let a = c.answer_line in
    let after = map g.W.Watcher.watched a.new.watch.items in
    let given' = g.O.Sink.given a.new.out in
    last_answered o read left a.new.session after given' few at_end x.quiet c.in-Ok.field-0
    (sym (c.is_empty.ensures line x.held) ∙ c.if-is_empty.false)
    (line_done o (ended_lines read) line c.args.session.now a.new.session (map g.W.Watcher.watched c.args.watch.now.items) after (g.O.Sink.given c.args.out.now) given' x.answered x.quiet
    a.ensures.same (Ok c.in-Ok.field-0) (λ p s stands. c.in-Ok.ensures.answered line p s (c.last.ensures line x.held) stands))

pub returns-in-Err-clause-finished : goal.returns-in-Err-clause-finished
returns-in-Err-clause-finished g c = λ o read left few at_end x.
    let line = (split read).begun in
    let a = c.answer_line in
    let after = map g.W.Watcher.watched a.new.watch.items in
    let given' = g.O.Sink.given a.new.out in
    last_end o read left a.new.session after given' few at_end x.quiet c.in-Err.fault c.fault_end.result c.fault_end.ensures
    (sym (c.is_empty.ensures line x.held) ∙ c.if-is_empty.false)
    (line_done o (ended_lines read) line c.args.session.now a.new.session (map g.W.Watcher.watched c.args.watch.now.items) after (g.O.Sink.given c.args.out.now) given' x.answered x.quiet
    a.ensures.same (Err c.in-Err.fault) (λ p s stands. c.in-Err.ensures.answered line p s (c.last.ensures line x.held) stands))
