use Rattle.std.proofs.Common.{◌≡◌, ℕ, ◌-◌, ◌≤◌, List, length, take, map}
use Rattle.std.specs.Io.KnownBytes.{Consumes}
use Rattle.c_tree.specs.declared.program.Program.{Program}
use Rattle.debugger.specs.Sessions.{Session as Defined}
use Rattle.debugger.specs.Sittings.{IsSameSitting, IsSessionOf}
use Rattle.nm_top.specs.Debugging.{HasTaken}
use Rattle.nm_top.specs.private.Talking.{Going, origin}
use Rattle.nm_top.proofs.talk.answer_input.Given as goal

abbrev pub invariant-loop-taken : goal.invariant-loop-taken
invariant-loop-taken g l = record {
  few : l.taken ≤ 1048577;
  same : IsSameSitting l.fn.session l.session;
  input : g.I.Source.faults l.input ≡ g.I.Source.faults l.fn.input;
  cause : g.O.Sink.faults l.out ≡ g.O.Sink.faults l.fn.out;
  count : HasTaken l.taken (g.I.Source.taken l.fn.input) (g.I.Source.taken l.input);
  going : (p : Program) (s : Defined) → IsSessionOf l.fn.session p s
      → (bytes : List ℕ) × Consumes (g.I.Source.left l.fn.input) (g.I.Source.left l.input) bytes × (length bytes ≡ l.taken)
      × Going (origin p l.fn.session.trace s (map g.W.Watcher.watched l.fn.watch.items) (g.O.Sink.given l.fn.out)) (take 1048576 bytes) l.buffer l.session (map g.W.Watcher.watched l.watch.items) (g.O.Sink.given l.out);
}

abbrev pub decreases-loop-taken : goal.decreases-loop-taken
decreases-loop-taken g l = 1048577 - l.taken
