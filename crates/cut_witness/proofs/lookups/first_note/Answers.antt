use Rattle.std.proofs.Common.{sym, ap, ◌∙◌, not}
use Rattle.std.specs.Prelude.{option_map}
use Rattle.cut_witness.specs.private.Lookups.{has_note}
use Rattle.cut_witness.proofs.LookupFacts.{found_at, none_next}
use Rattle.cut_witness.proofs.lookups.first_note.Goals as goal

pub returns-then-not-has_note : goal.returns-then-not-has_note
returns-then-not-has_note c =
    sym (ap (option_map (λ note. note.id)) (found_at (λ note. not (has_note c.args.sets.now note)) c.args.notes.now c.loop-note.note-index _ c.loop-note-test.true c.loop-note.invariant (ap not (sym c.has_note.ensures ∙ c.if-not-has_note.true))))

pub loop-note-preserved : goal.loop-note-preserved
loop-note-preserved c =
    none_next (λ note. not (has_note c.args.sets.now note)) c.args.notes.now c.loop-note.note-index _ c.loop-note-test.true c.loop-note.invariant (ap not (sym c.has_note.ensures ∙ c.if-not-has_note.false))
