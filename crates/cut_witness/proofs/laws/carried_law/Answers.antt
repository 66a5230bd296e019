use Rattle.cut_witness.proofs.LawFacts.{logged_both, named_both, witness_both}
use Rattle.cut_witness.proofs.laws.carried_law.Goals as goal

pub returns : goal.returns
returns c = record {
  logged = λ s T E F m h. logged_both s T E F h m;
  named = λ s T E F id h. named_both s T E F h id;
  witness = λ s T E F m W h w. witness_both s T E F h m W w;
}
