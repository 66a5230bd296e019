use Rattle.std.proofs.Common.{drop}
use Rattle.indexmap.specs.IndexMap.{get}
use Rattle.nm_base.specs.Message.{same_name}
use Rattle.vector_clocks.specs.Parts.{part_of}
use Rattle.cut_witness.specs.private.Posts.{ArePosts, Knows}
use Rattle.cut_witness.proofs.posts.posts_of.Given as goal

abbrev pub invariant-loop-i : goal.invariant-loop-i
invariant-loop-i l = record {
  posts : ArePosts l.events.events (get same_name l.posts);
  knows : Knows l.events.events (drop l.i l.events.events) (part_of l.clocks);
}
