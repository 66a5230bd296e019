use Rattle.event_list.proofs.RunsSound.{runs_sound}
use Rattle.event_list.proofs.ReplayPrefix.{replay_is_part}
use Rattle.event_list.proofs.MessageFacts.{messages_part}
use Rattle.event_list.proofs.laws.message_law.Goals as goal

pub returns : goal.returns
returns c = λ s T E R p h replay. messages_part (runs_sound s h.lawful replay.run) (runs_sound s h.lawful h.run) (replay_is_part s h.lawful T E R h.run h.trace replay) p
