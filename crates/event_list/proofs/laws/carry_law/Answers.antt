use Rattle.event_list.proofs.CarryingFacts.{carried_again, carried_runs}
use Rattle.event_list.proofs.laws.carry_law.Goals as goal

pub returns : goal.returns
returns c = record {
  again = λ s M E law run. carried_again s law M run;
  run = λ s M moves W law h. carried_runs s law M moves W h;
}
