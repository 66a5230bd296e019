use Rattle.nm_top.proofs.ProgramLaws.{only_program}
use Rattle.nm_top.proofs.laws.program_law.Goals as goal

pub returns : goal.returns
returns c = only_program
