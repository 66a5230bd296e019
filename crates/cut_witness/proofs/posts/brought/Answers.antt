use Rattle.std.proofs.Common.{sym, ap, ◌∙◌}
use Rattle.causal_stop.proofs.NumberFacts.{no_number}
use Rattle.cut_witness.specs.private.Posts.{brought}
use Rattle.cut_witness.proofs.posts.brought.Goals as goal

pub returns-in-None : goal.returns-in-None
returns-in-None c q = no_number 32 q ∙ sym (ap (λ o. brought o q) (sym c.taken_post.ensures ∙ c.in-None.is))
