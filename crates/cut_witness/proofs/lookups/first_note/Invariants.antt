use Rattle.std.proofs.Common.{◌≡◌, None, take, not}
use Rattle.std.specs.Prelude.{find}
use Rattle.cut_witness.specs.private.Lookups.{has_note}
use Rattle.cut_witness.proofs.lookups.first_note.Given as goal

abbrev pub invariant-loop-note : goal.invariant-loop-note
invariant-loop-note l = find (λ note. not (has_note l.sets note)) (take l.note-index l.notes) ≡ None
