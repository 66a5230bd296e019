use Rattle.std.proofs.Common.{ℕ, take, map}
use Rattle.c_tree.specs.declared.program.Program.{Program}
use Rattle.c_tree.specs.Play.{script_of}
use Rattle.event_list.specs.Runs.{IsRun}
use Rattle.nm_top.specs.private.Certifications.{Given}
use Rattle.nm_top.proofs.certify.put_noted.Given as goal

abbrev pub invariant-loop-note : goal.invariant-loop-note
invariant-loop-note g l =
    (p : Program) (n : ℕ) → IsRun (script_of p n) l.mask l.events.events
    → Given p n l.mask l.events.events (take l.note-index (map (λ note. note.id) l.notes)) (g.O.Sink.given l.fn.out) (g.O.Sink.given l.out)
    (g.O.Sink.faults l.fn.out) (g.O.Sink.faults l.out)
