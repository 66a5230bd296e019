use Rattle.std.proofs.Common.{ℕ, ◌+◌, ◌≤◌, [], ◌++◌, subst, refl, map, length, inr, arith, length-append, length-take, rules, ◌<◌}
use Rattle.std.proofs.lemmas.Grind.{common_steps}
use Rattle.std.proofs.lemmas.List.{places, length-replicate}
use Rattle.nm_top.specs.private.Talking.{Takes}
use Rattle.nm_top.proofs.EndFacts.{kept_nothing, going_failed, no_bytes, some_bytes, count_is, no_more}
use Rattle.nm_top.proofs.talk.take_piece.Goals as goal

pub returns-then-n-eq0-clause-stepped : goal.returns-then-n-eq0-clause-stepped
returns-then-n-eq0-clause-stepped g c = λ o read size x.
    let few : length read ≤ 1048576 = omega (arith, size, c.requires) in
    let all : length (read ++ []) ≤ 1048577 = omega (arith, length-append read [], few) in
    let h = c.in-Ok.ensures.bytes in
    let some : 0 < length c.take.new.buf = first_of (omega (arith, c.take.auto.buf, length-take {A = ℕ}, length-replicate {A = ℕ}, c.min-room.ensures), search (rules, places), grind (arith, common_steps), grind (arith, places)) in (
      [],
      no_bytes (g.I.Source.left c.args.input.now) (g.I.Source.left c.take.new.self) c.take.new.buf c.in-Ok.n c.if-n-eq0.true h.0,
      all,
      no_more o read (g.I.Source.left c.take.new.self) c.answer_last.new.session (map g.W.Watcher.watched c.answer_last.new.watch.items) (g.O.Sink.given c.answer_last.new.out) c.answer_last.result
          (c.answer_last.ensures.finished o read (g.I.Source.left c.take.new.self) few (h.1 c.if-n-eq0.true some) x),
    )

pub returns-clause-stepped : goal.returns-clause-stepped
returns-clause-stepped g c = λ o read size x.
    c.after_take.ensures.stepped o read (g.I.Source.left c.args.input.now) (g.I.Source.left c.take.new.self) size
    (some_bytes (g.I.Source.left c.args.input.now) (g.I.Source.left c.take.new.self) c.take.new.buf _ c.in-Ok.n c.in-Ok.ensures.bound.0 c.in-Ok.ensures.bytes.0)
    x

pub returns-clause-count : goal.returns-clause-count
returns-clause-count g c =
    subst (λ k. Takes c.args.taken (g.I.Source.taken c.args.input.now) k c.after_take.result)
    (count_is c.take.new.buf _ c.in-Ok.n (g.I.Source.taken c.args.input.now) (g.I.Source.taken c.take.new.self) c.in-Ok.ensures.bound.0 c.in-Ok.ensures.counted)
    (c.after_take.ensures.count (g.I.Source.taken c.args.input.now))

pub returns-in-Err-clause-stepped : goal.returns-in-Err-clause-stepped
returns-in-Err-clause-stepped g c = λ o read size x.
    let few : length read ≤ 1048576 = omega (arith, size, c.requires) in
    let all : length (read ++ []) ≤ 1048577 = omega (arith, length-append read [], few) in (
      [],
      kept_nothing (g.I.Source.left c.args.input.now) (g.I.Source.left c.take.new.self) c.in-Err.ensures.bytes,
      all,
      going_failed o read c.args.buffer.now c.args.session.now (map g.W.Watcher.watched c.args.watch.now.items) (g.O.Sink.given c.args.out.now) (g.I.Source.left c.take.new.self) few x,
    )

pub returns-in-Err-clause-count : goal.returns-in-Err-clause-count
returns-in-Err-clause-count g c =
    let all : c.args.taken + 0 ≤ 1048577 = omega (arith, c.requires) in
    (0, all, inr (refl, c.in-Err.ensures.counted))
