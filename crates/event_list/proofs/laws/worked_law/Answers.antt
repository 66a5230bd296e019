use Rattle.event_list.proofs.WorkedFacts.{worked}
use Rattle.event_list.proofs.laws.worked_law.Goals as goal

pub returns : goal.returns
returns c = worked
