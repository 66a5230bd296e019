use Rattle.causal_stop.proofs.NumberFacts.{one_number}
use Rattle.cut_witness.proofs.posts.own.Goals as goal

pub returns : goal.returns
returns c = one_number 32 c.args.p.no c.args.number c.requires
