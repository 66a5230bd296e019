use Rattle.mailboxes.proofs.NumberedFacts.{named_there, if_named}
use Rattle.mailboxes.proofs.tests.picked.Goals as goal

pub returns-then-x-eq0 : goal.returns-then-x-eq0
returns-then-x-eq0 g c = if_named _ _ 0 c.first_allowed-first.result c.first_allowed-first.ensures

pub returns : goal.returns
returns g c = named_there _ _ _ c.kth-id.result c.kth-id.ensures
