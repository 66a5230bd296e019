use Rattle.c_compile.proofs.Checked.{checked_stands}
use Rattle.c_compile.proofs.laws.standing_code_law.Goals as goal

pub returns : goal.returns
returns c = λ globals functions texts main count me h. checked_stands globals functions texts main count me h
