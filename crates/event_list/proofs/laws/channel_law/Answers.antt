use Rattle.event_list.proofs.RunsSound.{channel_below}
use Rattle.event_list.proofs.laws.channel_law.Goals as goal

pub returns : goal.returns
returns c = λ s M E a m law run sends. channel_below s law run a m sends
