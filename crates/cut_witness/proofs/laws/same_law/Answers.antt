use Rattle.cut_witness.proofs.LawFacts.{same_entries_of}
use Rattle.cut_witness.proofs.laws.same_law.Goals as goal

pub returns : goal.returns
returns c s T E F h = same_entries_of s T E F h
