use Rattle.indexmap.specs.IndexMap.{get}
use Rattle.indexmap.specs.IndexSet.{contains}
use Rattle.nm_base.specs.Message.{same_name}
use Rattle.cut_witness.specs.private.Held.{AreHeld}
use Rattle.cut_witness.specs.private.Quiet.{AreQuiet, same_lane}
use Rattle.cut_witness.proofs.held.add_held.Given as goal

abbrev pub invariant-loop-i : goal.invariant-loop-i
invariant-loop-i l = record {
  held : AreHeld l.events.events (get same_lane l.held);
  quiet : AreQuiet l.mask l.events.events (contains same_name l.fn.quiet) → AreQuiet l.mask l.events.events (contains same_name l.quiet);
}
