use Rattle.c_process.proofs.Shown.{look_shown}
use Rattle.c_process.proofs.laws.look_law.Goals as goal

pub returns : goal.returns
returns c = look_shown
