use Rattle.std.proofs.Common.{◌≡◌, ◌+◌, ◌++◌, [], ◌∷◌, cond, not, ap, ◌∙◌, subst, sym, arith, take}
use Rattle.std.specs.Prelude.{filter_map}
use Rattle.event_list.specs.Traces.{Keeps, IsLoggedName, note_of}
use Rattle.cut_witness.proofs.ListingFacts.{keeps_begin, keeps_same, keeps_more, keeps_all, is_none}
use Rattle.causal_stop.proofs.PlaceFacts.{in_place}
use Rattle.cut_witness.proofs.listing.notes_of.Goals as goal

pub loop-i-init : goal.loop-i-init
loop-i-init c =
    let E = c.args.events.now.events in
    keeps_begin (λ note. IsLoggedName c.args.mask E note.id) (note_of E) E c.new-notes.result.items c.new-notes.ensures.items

pub loop-i-preserved-in_default : goal.loop-i-preserved-in_default
loop-i-preserved-in_default c =
    let E = c.args.events.now.events in
    keeps_same (λ note. IsLoggedName c.args.mask E note.id) (note_of E) E c.loop-i.i c.at.result.now c.at.ensures.event c.loop-i.notes.items c.loop-i.invariant
    c.note_at.result (c.note_at.ensures (in_place E c.loop-i.i c.at.result.now c.at.ensures.event)) (is_none c.note_at.result c.in_default.not-Some)

pub loop-i-preserved : goal.loop-i-preserved
loop-i-preserved c =
    let E = c.args.events.now.events in
    let items = c.loop-i.notes.items in
    let pushed : c.push.new.self.items ≡ items ++ c.in-Some.note ∷ [] = c.push.ensures.items ∙ ap (λ b. cond b (items ++ c.in-Some.note ∷ []) items) (c.is_err.ensures.negation ∙ ap not c.if-is_err.false) in
    subst (Keeps (λ note. IsLoggedName c.args.mask E note.id) (filter_map (note_of E) (take (c.loop-i.i + 1) E))) (sym pushed)
    (keeps_more (λ note. IsLoggedName c.args.mask E note.id) (note_of E) E c.loop-i.i c.at.result.now c.at.ensures.event items c.loop-i.invariant
    c.in-Some.note (c.in-Some.ensures (in_place E c.loop-i.i c.at.result.now c.at.ensures.event)))

pub returns : goal.returns
returns c =
    let E = c.args.events.now.events in
    keeps_all (λ note. IsLoggedName c.args.mask E note.id) (note_of E) E c.loop-i.i (omega arith) c.loop-i.notes.items c.loop-i.invariant
