use Rattle.std.proofs.Common.{sym, subst, map, ◌++◌, ◌∷◌, []}
use Rattle.std.proofs.lemmas.Bool.{ne_eqb}
use Rattle.nm_top.specs.private.Talking.{Came}
use Rattle.nm_top.proofs.TalkFacts.{came_byte}
use Rattle.nm_top.proofs.talk.answer_byte.Goals as goal

pub returns-then-byte-eq10-clause-came : goal.returns-then-byte-eq10-clause-came
returns-then-byte-eq10-clause-came g c = λ o read x.
    subst (λ b. Came o (read ++ b ∷ []) c.end_line.new.buffer c.end_line.new.session (map g.W.Watcher.watched c.end_line.new.watch.items) (g.O.Sink.given c.end_line.new.out) c.end_line.result)
    (sym c.if-byte-eq10.true) (c.end_line.ensures.came o read x)

pub returns-clause-came : goal.returns-clause-came
returns-clause-came g c = λ o read x.
    came_byte o read c.args.buffer.now c.put.new.self c.args.session.now (map g.W.Watcher.watched c.args.watch.now.items) (g.O.Sink.given c.args.out.now) c.args.byte
    (ne_eqb c.args.byte 10 c.if-byte-eq10.false) c.put.ensures x
