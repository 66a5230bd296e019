use Rattle.std.proofs.Common.{sym}
use Rattle.indexmap.specs.IndexMap.{get}
use Rattle.cut_witness.specs.private.Quiet.{same_lane}
use Rattle.cut_witness.proofs.HeldFacts.{behind_quiet}
use Rattle.cut_witness.proofs.held.quiet_behind.Goals as goal

pub returns : goal.returns
returns c E g posts h =
    let id = c.in_ok-id.id in
    let p = c.in_ok-post.post in
    behind_quiet g (get same_lane c.args.held.now) id p (posts.each id p (sym c.in_ok-post.ensures)) h (c.is_behind.ensures c.if-not-is_behind.false)
