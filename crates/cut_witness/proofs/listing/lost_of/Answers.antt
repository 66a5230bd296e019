use Rattle.std.proofs.Common.{◌≡◌, ◌+◌, ◌++◌, [], ◌∷◌, cond, not, ap, ◌∙◌, subst, sym, arith, take}
use Rattle.std.specs.Prelude.{filter_map}
use Rattle.event_list.specs.Traces.{Keeps, IsLoggedName}
use Rattle.cut_witness.specs.private.Lookups.{lost_of}
use Rattle.cut_witness.proofs.ListingFacts.{keeps_begin, keeps_same, keeps_more, lost_all, is_none}
use Rattle.cut_witness.proofs.listing.lost_of.Goals as goal

pub loop-i-init : goal.loop-i-init
loop-i-init c =
    let E = c.args.events.now.events in
    keeps_begin (IsLoggedName c.args.mask E) (lost_of E) E c.new-lost.result.items c.new-lost.ensures.items

pub loop-i-preserved-in_default : goal.loop-i-preserved-in_default
loop-i-preserved-in_default c =
    let E = c.args.events.now.events in
    keeps_same (IsLoggedName c.args.mask E) (lost_of E) E c.loop-i.i c.at.result.now c.at.ensures.event c.loop-i.lost.items c.loop-i.invariant
    c.lost_at.result c.lost_at.ensures (is_none c.lost_at.result c.in_default.not-Some)

pub loop-i-preserved : goal.loop-i-preserved
loop-i-preserved c =
    let E = c.args.events.now.events in
    let items = c.loop-i.lost.items in
    let pushed : c.push.new.self.items ≡ items ++ c.in-Some.id ∷ [] = c.push.ensures.items ∙ ap (λ b. cond b (items ++ c.in-Some.id ∷ []) items) (c.is_err.ensures.negation ∙ ap not c.if-is_err.false) in
    subst (Keeps (IsLoggedName c.args.mask E) (filter_map (lost_of E) (take (c.loop-i.i + 1) E))) (sym pushed)
    (keeps_more (IsLoggedName c.args.mask E) (lost_of E) E c.loop-i.i c.at.result.now c.at.ensures.event items c.loop-i.invariant c.in-Some.id c.in-Some.ensures)

pub returns : goal.returns
returns c = lost_all c.args.events.now.events c.loop-i.i (omega arith) c.loop-i.lost.items c.loop-i.invariant
