use Rattle.report.proofs.FollowsFacts.{follows}
use Rattle.report.proofs.laws.follows_law.Goals as goal

pub returns : goal.returns
returns c = λ program n T E R h replay. follows program n T E R h replay
