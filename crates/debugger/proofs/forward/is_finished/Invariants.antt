use Rattle.c_tree.specs.declared.program.Program.{Program}
use Rattle.replay_core.specs.Gates.{seen_trace}
use Rattle.debugger.specs.Sessions.{Session as Defined}
use Rattle.debugger.specs.Sittings.{IsSessionOf}
use Rattle.debugger.proofs.Ends.{AreReached}
use Rattle.debugger.proofs.forward.is_finished.Given as goal

abbrev pub invariant-loop-no : goal.invariant-loop-no
invariant-loop-no g l =
    (p : Program) (s : Defined) → IsSessionOf l.session p s → AreReached (seen_trace l.session.trace) s.run l.no
