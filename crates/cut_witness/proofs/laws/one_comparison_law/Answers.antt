use Rattle.cut_witness.proofs.EntryFacts.{one_comparison}
use Rattle.cut_witness.proofs.laws.one_comparison_law.Goals as goal

pub returns : goal.returns
returns c = one_comparison
