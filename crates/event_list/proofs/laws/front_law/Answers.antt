use Rattle.std.proofs.Common.{None, Some}
use Rattle.event_list.proofs.Fronts.{made_front, made_few}
use Rattle.event_list.proofs.laws.front_law.Goals as goal

pub returns : goal.returns
returns c = record {
  run = λ s M turns more. made_front s M None turns more;
  run_length = λ s M turns. made_few s M None turns;
  replay = λ s T turns more. made_front s T.mask (Some T) turns more;
  replay_length = λ s T turns. made_few s T.mask (Some T) turns;
}
