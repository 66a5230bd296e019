use Rattle.event_list.proofs.RunsSound.{runs_sound}
use Rattle.event_list.proofs.laws.sound_law.Goals as goal

pub returns : goal.returns
returns c = λ s M E law run. runs_sound s law run
