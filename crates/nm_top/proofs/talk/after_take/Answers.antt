use Rattle.std.proofs.Common.{refl, inl, map, length, arith, length-append}
use Rattle.nm_top.proofs.EndFacts.{after_more, after_quit, after_fault}
use Rattle.nm_top.proofs.talk.after_take.Goals as goal

pub returns-in-Ok-More-clause-stepped : goal.returns-in-Ok-More-clause-stepped
returns-in-Ok-More-clause-stepped g c = λ o read left left' size takes x.
    let a = c.answer_piece in (
      c.args.piece.now,
      takes,
      refl,
      after_more o read c.args.piece.now c.args.taken c.min-within.result size c.requires.taken c.min-within.ensures left' a.new.buffer a.new.session
          (map g.W.Watcher.watched a.new.watch.items) (g.O.Sink.given a.new.out) c.in-Ok-More.field-0 c.in-Ok-More.field-0-is (c.in-Ok-More.ensures.came o read x),
    )

pub returns-in-Ok-Quit-clause-stepped : goal.returns-in-Ok-Quit-clause-stepped
returns-in-Ok-Quit-clause-stepped g c = λ o read left left' size takes x.
    let a = c.answer_piece in (
      c.args.piece.now,
      takes,
      omega (arith, length-append read c.args.piece.now, size, c.requires.few),
      after_quit o read c.args.piece.now c.args.taken c.min-within.result size c.requires.taken c.min-within.ensures left' a.new.buffer a.new.session
          (map g.W.Watcher.watched a.new.watch.items) (g.O.Sink.given a.new.out) c.in-Ok-Quit.field-0 c.in-Ok-Quit.field-0-is (c.in-Ok-Quit.ensures.came o read x),
    )

pub returns-in-Err-clause-stepped : goal.returns-in-Err-clause-stepped
returns-in-Err-clause-stepped g c = λ o read left left' size takes x.
    let a = c.answer_piece in (
      c.args.piece.now,
      takes,
      omega (arith, length-append read c.args.piece.now, size, c.requires.few),
      after_fault o read c.args.piece.now c.args.taken c.min-within.result size c.requires.taken c.min-within.ensures left' a.new.buffer a.new.session
          (map g.W.Watcher.watched a.new.watch.items) (g.O.Sink.given a.new.out) c.in-Err.fault c.fault_end.result c.fault_end.ensures (c.in-Err.ensures.came o read x),
    )

pub returns-in-Ok-Quit-clause-count : goal.returns-in-Ok-Quit-clause-count
returns-in-Ok-Quit-clause-count g c = λ before. (length c.args.piece.now, c.requires.few, inl refl)

pub returns-in-Err-clause-count : goal.returns-in-Err-clause-count
returns-in-Err-clause-count g c = λ before. (length c.args.piece.now, c.requires.few, inl refl)
