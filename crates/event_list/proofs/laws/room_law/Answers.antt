use Rattle.event_list.proofs.PrintFacts.{replay_room}
use Rattle.event_list.proofs.laws.room_law.Goals as goal

pub returns : goal.returns
returns c = λ s T R p law h none l. replay_room s law T R p h none l
