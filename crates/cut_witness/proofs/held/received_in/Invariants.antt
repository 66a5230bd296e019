use Rattle.std.proofs.Common.{take}
use Rattle.indexmap.specs.IndexSet.{contains}
use Rattle.nm_base.specs.Message.{same_name}
use Rattle.cut_witness.specs.private.Held.{AreReceived}
use Rattle.cut_witness.proofs.held.received_in.Given as goal

abbrev pub invariant-loop-i : goal.invariant-loop-i
invariant-loop-i l = AreReceived (take l.i l.events.events) (contains same_name l.received)
