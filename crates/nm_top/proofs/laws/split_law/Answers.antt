use Rattle.nm_top.proofs.LawFacts.{joined_is, is_clean}
use Rattle.nm_top.proofs.Examples.{quit_last}
use Rattle.nm_top.proofs.laws.split_law.Goals as goal

pub returns : goal.returns
returns c = let example = quit_last in record { joined = joined_is; ended = λ bytes. (is_clean bytes).0; begun = λ bytes. (is_clean bytes).1 }
