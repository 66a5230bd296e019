use Rattle.std.proofs.Common.{◌+◌, arith}
use Rattle.mailboxes.proofs.NumberedFacts.{later}
use Rattle.mailboxes.proofs.tests.change.Goals as goal

pub returns : goal.returns
returns g c = later _ c.args.step (c.args.step + 1) (omega arith) c.accept-taken.ensures
