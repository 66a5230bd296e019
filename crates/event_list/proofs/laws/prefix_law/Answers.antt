use Rattle.event_list.proofs.ReplayPrefix.{replay_prefix}
use Rattle.event_list.proofs.laws.prefix_law.Goals as goal

pub returns : goal.returns
returns c = λ s T E R h replay. replay_prefix s h.lawful T E R h.run h.trace replay
