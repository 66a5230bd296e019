use Rattle.trace_file.proofs.Walk.{no_count}
use Rattle.trace_file.proofs.laws.count_law.Goals as goal

pub returns : goal.returns
returns c = no_count
