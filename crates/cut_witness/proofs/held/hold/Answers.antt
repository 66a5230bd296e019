use Rattle.std.proofs.Common.{Some, cond, sym, ap, ◌∙◌}
use Rattle.indexmap.specs.IndexMap.{get}
use Rattle.indexmap.specs.IndexSet.{contains}
use Rattle.nm_base.specs.Message.{same_name}
use Rattle.cut_witness.specs.private.Quiet.{same_lane}
use Rattle.cut_witness.proofs.HeldFacts.{held_more, untaken}
use Rattle.cut_witness.proofs.held.hold.Goals as goal

pub returns : goal.returns
returns c E posts received h =
    let id = c.in-Some.id in
    let p = c.in-Some-post_of.post in
    let old = get same_lane c.args.held.now in
    held_more E id p (posts.each id p (sym c.post_of.ensures ∙ c.in-Some-post_of.is)) (untaken E (contains same_name c.args.received.now) id received (sym c.contains.ensures ∙ c.if-contains.false)) old (get same_lane c.put_held.new.held)
    (λ q. c.in_ok-put_held.ensures q ∙ ap (λ lane. cond (same_lane lane q) (Some id.number) (old q)) c.lane_of-lane.ensures) h
