use Rattle.std.proofs.Common.{take}
use Rattle.indexmap.specs.IndexMap.{get}
use Rattle.indexmap.specs.IndexSet.{contains}
use Rattle.nm_base.specs.Message.{same_name}
use Rattle.vector_clocks.specs.Parts.{part_of}
use Rattle.cut_witness.specs.private.Quiet.{AreQuiet, AreLast, AreTaken, same_lane}
use Rattle.cut_witness.proofs.quiet.add_low.Given as goal

abbrev pub invariant-loop-i : goal.invariant-loop-i
invariant-loop-i l = record {
  last : AreLast (take l.i l.events.events) (part_of l.last);
  taken : AreTaken l.events.events (get same_lane l.lanes);
  quiet : AreQuiet l.mask l.events.events (contains same_name l.fn.quiet) → AreQuiet l.mask l.events.events (contains same_name l.quiet);
}
