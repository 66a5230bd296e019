use Rattle.std.proofs.Common.{ap}
use Rattle.std.specs.Map.{lookup}
use Rattle.indexmap.specs.IndexMap.{get}
use Rattle.nm_base.specs.Message.{same_name}
use Rattle.vector_clocks.specs.Parts.{part_of}
use Rattle.cut_witness.proofs.PostFacts.{knows_nothing, no_posts, posts_more, knows_more}
use Rattle.cut_witness.proofs.posts.posts_of.Goals as goal

pub loop-i-init : goal.loop-i-init
loop-i-init c = record {
  posts = no_posts c.args.events.now.events (get same_name c.new-posts.result) (λ id. ap (lookup (same_name id)) c.new-posts.ensures.empty);
  knows = knows_nothing c.requires (part_of c.new-clocks.result) c.new-clocks.ensures;
}

pub loop-i-preserved : goal.loop-i-preserved
loop-i-preserved c =
    let clock = part_of c.loop-i.clocks in
    let e = c.at-e.result.now in
    let posts = get same_name c.add_post.new.posts in
    let more = posts_more c.requires c.loop-i.i e c.at-e.ensures.event c.stamp.result.now clock c.loop-i.invariant.knows c.stamp.ensures (get same_name c.loop-i.posts) c.loop-i.invariant.posts posts c.in_ok-add_post.ensures in
    record {
      posts = more;
      knows = knows_more c.requires c.loop-i.i e c.at-e.ensures.event clock (part_of c.merge.new.self) (part_of c.merge-in-loop-i.new.self) posts c.brought.result c.own.result c.loop-i.invariant.knows more c.brought.ensures c.own.ensures c.merge.ensures c.merge-in-loop-i.ensures;
    }
