use Rattle.indexmap.specs.IndexSet.{contains}
use Rattle.nm_base.specs.Message.{same_name}
use Rattle.cut_witness.specs.private.Quiet.{AreQuiet}
use Rattle.cut_witness.proofs.quiet.add_low_sent.Given as goal

abbrev pub invariant-loop-i : goal.invariant-loop-i
invariant-loop-i l = AreQuiet l.mask l.events.events (contains same_name l.fn.quiet) → AreQuiet l.mask l.events.events (contains same_name l.quiet)
