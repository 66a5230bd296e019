use Rattle.event_list.proofs.MaskFacts.{sound_fewer, run_fewer, none_ordered, logged_fewer}
use Rattle.event_list.proofs.laws.mask_law.Goals as goal

pub returns : goal.returns
returns c = record {
  fewer = λ M N E fewer g. sound_fewer fewer g;
  fewer_run = λ s M N E fewer run. run_fewer s fewer run;
  none = λ M E g. sound_fewer (λ chan h. absurd (none_ordered chan h)) g;
  fewer_logged = λ M N E m fewer l. logged_fewer M N fewer E m l;
}
