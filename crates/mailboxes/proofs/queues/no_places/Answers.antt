use Rattle.mailboxes.proofs.QueueFacts.{all_alike}
use Rattle.mailboxes.proofs.queues.no_places.Goals as goal

pub returns : goal.returns
returns c q = all_alike 1024 18446744073709551615 q
