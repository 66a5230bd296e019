use Rattle.event_list.proofs.Fronts.{replay_front, replay_step}
use Rattle.event_list.proofs.laws.step_law.Goals as goal

pub returns : goal.returns
returns c = record {
  step = λ s T R t e law h w. replay_step s law T R t e h w;
  front = replay_front;
}
