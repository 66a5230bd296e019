use Rattle.c_compile.proofs.Limits.{checked_within}
use Rattle.c_compile.proofs.ProgramStacks.{checked_sound}
use Rattle.c_compile.proofs.laws.sound_code_law.Goals as goal

pub returns : goal.returns
returns c = record {
  sound = λ globals functions texts main h. checked_sound globals functions texts main h;
  within = λ globals functions texts main h. checked_within globals functions texts main h;
}
