use Rattle.std.proofs.Common.{sym}
use Rattle.indexmap.specs.IndexMap.{get}
use Rattle.vector_clocks.specs.Parts.{part_of}
use Rattle.cut_witness.specs.private.Quiet.{same_lane}
use Rattle.cut_witness.proofs.QuietFacts.{low_tells, low_quiet}
use Rattle.cut_witness.proofs.quiet.quiet_sent.Goals as goal

pub returns : goal.returns
returns c E g posts last taken =
    let id = c.in_ok-id.id in
    let p = c.in_ok-post.post in
    let is = posts.each id p (sym c.in_ok-post.ensures) in
    low_tells id c.low_letter.result c.low_letter.ensures
    (λ low. low_quiet g (part_of c.args.last.now) (get same_lane c.args.lanes.now) id p is taken E last low (λ q could. could.receive.in_list))
