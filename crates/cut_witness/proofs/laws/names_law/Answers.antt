use Rattle.cut_witness.proofs.LawFacts.{named_once, named_only}
use Rattle.cut_witness.proofs.laws.names_law.Goals as goal

pub returns : goal.returns
returns c = record { once = named_once; only = named_only }
