use Rattle.nm_top.proofs.LawFacts.{over_law, full_law}
use Rattle.nm_top.proofs.laws.end_law.Goals as goal

pub returns : goal.returns
returns c = record { over = over_law; full = full_law }
