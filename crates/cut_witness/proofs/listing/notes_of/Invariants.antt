use Rattle.std.proofs.Common.{take}
use Rattle.std.specs.Prelude.{filter_map}
use Rattle.event_list.specs.Traces.{Keeps, IsLoggedName, note_of}
use Rattle.cut_witness.proofs.listing.notes_of.Given as goal

abbrev pub invariant-loop-i : goal.invariant-loop-i
invariant-loop-i l = Keeps (λ note. IsLoggedName l.mask l.events.events note.id) (filter_map (note_of l.events.events) (take l.i l.events.events)) l.notes.items
