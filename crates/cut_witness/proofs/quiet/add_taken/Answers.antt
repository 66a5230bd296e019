use Rattle.std.proofs.Common.{Some, cond, sym, ap, ◌∙◌}
use Rattle.indexmap.specs.IndexMap.{get}
use Rattle.cut_witness.specs.private.Quiet.{same_lane}
use Rattle.cut_witness.proofs.QuietFacts.{taken_next}
use Rattle.cut_witness.proofs.quiet.add_taken.Goals as goal

pub returns : goal.returns
returns c E here posts h =
    let id = c.in-Some.id in
    let p = c.in-Some-post_of.post in
    let old = get same_lane c.args.lanes.now in
    taken_next E c.args.e.now here id (sym c.taken_at.ensures ∙ c.in-Some.is) p (posts.each id p (sym c.post_of.ensures ∙ c.in-Some-post_of.is)) old (get same_lane c.put_taken.new.lanes)
    (λ q. c.in_ok-put_taken.ensures q ∙ ap (λ lane. cond (same_lane lane q) (Some record { letter = id.number; event = c.args.e.now.number }) (old q)) c.lane_of.ensures) h
