use Rattle.stack_code.proofs.Law.{stopped_stays, runs_on}
use Rattle.stack_code.proofs.laws.run_law.Goals as goal

pub returns : goal.returns
returns c = record { stays = stopped_stays; runs_on = runs_on }
