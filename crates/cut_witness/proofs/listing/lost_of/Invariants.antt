use Rattle.std.proofs.Common.{take}
use Rattle.std.specs.Prelude.{filter_map}
use Rattle.event_list.specs.Traces.{Keeps, IsLoggedName}
use Rattle.cut_witness.specs.private.Lookups.{lost_of}
use Rattle.cut_witness.proofs.listing.lost_of.Given as goal

abbrev pub invariant-loop-i : goal.invariant-loop-i
invariant-loop-i l = Keeps (IsLoggedName l.mask l.events.events) (filter_map (lost_of l.events.events) (take l.i l.events.events)) l.lost.items
