use Rattle.report.proofs.FollowsFacts.{full}
use Rattle.report.proofs.laws.full_law.Goals as goal

pub returns : goal.returns
returns c = λ program n T E F h replay counts. full program n T E F h replay counts
