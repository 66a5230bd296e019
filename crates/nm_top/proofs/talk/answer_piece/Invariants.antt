use Rattle.std.proofs.Common.{◌≡◌, ℕ, List, ◌++◌, take, map}
use Rattle.debugger.specs.Sittings.{IsSameSitting}
use Rattle.nm_top.specs.private.Talking.{Origin, Going}
use Rattle.nm_top.proofs.talk.answer_piece.Given as goal

abbrev pub invariant-loop-byte : goal.invariant-loop-byte
invariant-loop-byte g l = record {
  same : IsSameSitting l.fn.session l.session;
  cause : g.O.Sink.faults l.out ≡ g.O.Sink.faults l.fn.out;
  going : (o : Origin) (read : List ℕ)
      → Going o read l.fn.buffer l.fn.session (map g.W.Watcher.watched l.fn.watch.items) (g.O.Sink.given l.fn.out)
      → Going o (read ++ take l.byte-index l.piece) l.buffer l.session (map g.W.Watcher.watched l.watch.items) (g.O.Sink.given l.out);
}
