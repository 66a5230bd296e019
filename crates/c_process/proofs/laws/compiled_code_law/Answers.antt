use Rattle.c_process.proofs.Compiled.{compiled_is_code}
use Rattle.c_process.proofs.laws.compiled_code_law.Goals as goal

pub returns : goal.returns
returns c = compiled_is_code
