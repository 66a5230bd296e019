use Rattle.std.proofs.Common.{sym, take, ◌∙◌}
use Rattle.std.proofs.lemmas.Bool.{eqb-true}
use Rattle.indexmap.specs.IndexMap.{get}
use Rattle.vector_clocks.specs.Parts.{part_of}
use Rattle.cut_witness.specs.private.Quiet.{same_lane}
use Rattle.cut_witness.proofs.QuietFacts.{low_tells, low_quiet, before_own}
use Rattle.cut_witness.proofs.quiet.quiet_taken.Goals as goal

pub returns : goal.returns
returns c E i g at posts last taken =
    let id = c.in_ok-id.id in
    let p = c.in_ok-post.post in
    let is = posts.each id p (sym c.in_ok-post.ensures) in
    let to = eqb-true p.dest.no c.args.e.now.proc.no (sym c.goes_to.ensures ∙ c.if-not-goes_to.false) in
    low_tells id c.low_letter.result c.low_letter.ensures
    (λ low. low_quiet g (part_of c.args.last.now) (get same_lane c.args.lanes.now) id p is taken (take i E) last low (before_own g i c.args.e.now at id (sym c.in_ok-id.ensures) p is to))
