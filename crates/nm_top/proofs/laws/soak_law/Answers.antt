use Rattle.nm_top.proofs.SoakAgain.{summary_again}
use Rattle.nm_top.proofs.laws.soak_law.Goals as goal

pub returns : goal.returns
returns c = summary_again
