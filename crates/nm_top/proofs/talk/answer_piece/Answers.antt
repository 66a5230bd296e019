use Rattle.std.proofs.Common.{◌∙◌, map, ◌++◌, take}
use Rattle.nm_top.proofs.PieceFacts.{piece_more, piece_quit, piece_fault, piece_end}
use Rattle.nm_top.proofs.talk.answer_piece.Goals as goal

pub returns-in-Ok-Quit-clause-came : goal.returns-in-Ok-Quit-clause-came
returns-in-Ok-Quit-clause-came g c = λ o read x.
    let piece = c.args.piece.now in
    let i = c.loop-byte.byte-index in
    let a = c.answer_byte in
    piece_quit o read piece i _ c.loop-byte-test.true a.new.buffer a.new.session (map g.W.Watcher.watched a.new.watch.items) (g.O.Sink.given a.new.out)
    c.in-Ok-Quit.field-0 c.in-Ok-Quit.field-0-is (c.in-Ok-Quit.ensures.came o (read ++ take i piece) (c.loop-byte.invariant.going o read x))

pub returns-in-Err-clause-came : goal.returns-in-Err-clause-came
returns-in-Err-clause-came g c = λ o read x.
    let piece = c.args.piece.now in
    let i = c.loop-byte.byte-index in
    let a = c.answer_byte in
    piece_fault o read piece i _ c.loop-byte-test.true a.new.buffer a.new.session (map g.W.Watcher.watched a.new.watch.items) (g.O.Sink.given a.new.out)
    c.in-Err.fault (c.in-Err.ensures.came o (read ++ take i piece) (c.loop-byte.invariant.going o read x))

pub loop-byte-preserved : goal.loop-byte-preserved
loop-byte-preserved g c =
    let piece = c.args.piece.now in
    let i = c.loop-byte.byte-index in
    let a = c.answer_byte in
    record {
      same = record { code = a.ensures.same.code ∙ c.loop-byte.invariant.same.code; trace = a.ensures.same.trace ∙ c.loop-byte.invariant.same.trace };
      cause = c.in-Ok-More.ensures.cause.still ∙ c.loop-byte.invariant.cause;
      going = λ o read x.
          piece_more o read piece i _ c.loop-byte-test.true a.new.buffer a.new.session (map g.W.Watcher.watched a.new.watch.items) (g.O.Sink.given a.new.out)
          c.in-Ok-More.field-0 c.in-Ok-More.field-0-is (c.in-Ok-More.ensures.came o (read ++ take i piece) (c.loop-byte.invariant.going o read x));
    }

pub returns-clause-came : goal.returns-clause-came
returns-clause-came g c = λ o read x.
    piece_end o read c.args.piece.now c.loop-byte.byte-index c.loop-byte.buffer c.loop-byte.session (map g.W.Watcher.watched c.loop-byte.watch.items) (g.O.Sink.given c.loop-byte.out)
    c.loop-byte-test.false (c.loop-byte.invariant.going o read x)
