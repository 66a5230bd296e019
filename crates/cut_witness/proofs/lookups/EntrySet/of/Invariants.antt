use Rattle.std.proofs.Common.{[], take}
use Rattle.cut_witness.specs.private.Lookups.{Holds}
use Rattle.cut_witness.proofs.lookups.EntrySet.of.Given as goal

abbrev pub invariant-loop-note : goal.invariant-loop-note
invariant-loop-note l = Holds l.sets (take l.note-index l.notes) []

abbrev pub invariant-loop-id : goal.invariant-loop-id
invariant-loop-id l = Holds l.sets l.notes (take l.id-index l.lost)
