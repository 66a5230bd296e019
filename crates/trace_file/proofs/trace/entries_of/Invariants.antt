use Rattle.std.proofs.Common.{◌-◌, length}
use Rattle.trace_file.specs.private.Indexed.{IsIndexed, content}
use Rattle.trace_file.specs.private.Places.{Reaches}
use Rattle.trace_file.proofs.trace.entries_of.Given as goal

abbrev pub invariant-items : goal.invariant-items
invariant-items l = record { index : IsIndexed l.entries; reaches : Reaches (content l.header l.entries) l.place l.bytes }

abbrev pub decreases-items : goal.decreases-items
decreases-items l = length l.bytes - l.place
