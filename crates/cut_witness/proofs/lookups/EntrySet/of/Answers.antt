use Rattle.std.proofs.Common.{[], take, subst, sym}
use Rattle.cut_witness.specs.private.Lookups.{Holds}
use Rattle.cut_witness.proofs.LookupFacts.{taken_next}
use Rattle.cut_witness.proofs.lookups.EntrySet.of.Goals as goal

pub loop-note-preserved : goal.loop-note-preserved
loop-note-preserved c =
    let i = c.loop-note.note-index in
    subst (λ xs. Holds c.add_note.new.self xs []) (sym (taken_next c.args.notes.now i _ c.loop-note-test.true)) (c.in_ok-add_note.ensures (take i c.args.notes.now) c.loop-note.invariant)

pub loop-id-preserved : goal.loop-id-preserved
loop-id-preserved c =
    let i = c.loop-id.id-index in
    subst (Holds c.add_lost.new.self c.args.notes.now) (sym (taken_next c.args.lost.now i _ c.loop-id-test.true)) (c.in_ok-add_lost.ensures c.args.notes.now (take i c.args.lost.now) c.loop-id.invariant)
