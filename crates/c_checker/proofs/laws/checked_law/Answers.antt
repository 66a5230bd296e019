use Rattle.c_checker.proofs.TypedProgram.{checked_parts}
use Rattle.c_checker.proofs.laws.checked_law.Goals as goal

pub returns : goal.returns
returns c = checked_parts
