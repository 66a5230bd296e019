use Rattle.trace_file.proofs.Walk.{one_trace, no_damage}
use Rattle.trace_file.proofs.laws.one_trace_law.Goals as goal

pub returns-clause-one : goal.returns-clause-one
returns-clause-one c = one_trace

pub returns-clause-whole : goal.returns-clause-whole
returns-clause-whole c = no_damage
