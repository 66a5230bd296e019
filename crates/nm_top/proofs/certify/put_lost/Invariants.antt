use Rattle.std.proofs.Common.{ℕ, take}
use Rattle.c_tree.specs.declared.program.Program.{Program}
use Rattle.c_tree.specs.Play.{script_of}
use Rattle.event_list.specs.Runs.{IsRun}
use Rattle.nm_top.specs.private.Certifications.{Given}
use Rattle.nm_top.proofs.certify.put_lost.Given as goal

abbrev pub invariant-loop-id : goal.invariant-loop-id
invariant-loop-id g l =
    (p : Program) (n : ℕ) → IsRun (script_of p n) l.mask l.events.events
    → Given p n l.mask l.events.events (take l.id-index l.lost) (g.O.Sink.given l.fn.out) (g.O.Sink.given l.out)
    (g.O.Sink.faults l.fn.out) (g.O.Sink.faults l.out)
