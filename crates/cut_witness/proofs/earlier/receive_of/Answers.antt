use Rattle.cut_witness.proofs.EarlierFacts.{own_is}
use Rattle.cut_witness.proofs.earlier.receive_of.Goals as goal

pub returns : goal.returns
returns c = own_is c.args.events.now.events c.args.id c.last.result c.last.ensures
