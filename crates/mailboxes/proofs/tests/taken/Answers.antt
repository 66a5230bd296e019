use Rattle.mailboxes.proofs.NumberedFacts.{one_less}
use Rattle.mailboxes.proofs.tests.taken.Goals as goal

pub returns : goal.returns
returns g c = one_less _ _ c.take.result c.args.next c.take.ensures.taken c.requires.below
