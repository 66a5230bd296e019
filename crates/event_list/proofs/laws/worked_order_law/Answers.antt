use Rattle.event_list.proofs.WorkedOrderFacts.{worked_order}
use Rattle.event_list.proofs.laws.worked_order_law.Goals as goal

pub returns : goal.returns
returns c = worked_order
