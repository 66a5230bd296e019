use Rattle.stack_code.proofs.Forward.{step_advances}
use Rattle.stack_code.proofs.laws.step_law.Goals as goal

pub returns : goal.returns
returns c = step_advances
