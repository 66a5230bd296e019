use Rattle.std.proofs.Common.{ap}
use Rattle.std.specs.List.{list_any}
use Rattle.indexmap.specs.IndexSet.{contains}
use Rattle.nm_base.specs.Message.{same_name}
use Rattle.cut_witness.proofs.MakingFacts.{sound_unmasked}
use Rattle.cut_witness.proofs.QuietFacts.{quiet_none}
use Rattle.cut_witness.proofs.quiet.quiet_of.Goals as goal

pub posts_of-requires : goal.posts_of-requires
posts_of-requires c = sound_unmasked c.requires

pub returns : goal.returns
returns c = c.in_ok-add_held.ensures (c.in_ok-add_low.ensures (quiet_none (contains same_name c.new-quiet.result) (λ q. ap (list_any (same_name q)) c.new-quiet.ensures.empty)))
