use Rattle.replay_core.proofs.SleepLaws.{all_false}
use Rattle.replay_core.proofs.asleep.Asleep.none.Goals as goal

pub returns : goal.returns
returns c p = all_false 32 p
