use Rattle.trace_file.proofs.Walk.{one_damage}
use Rattle.trace_file.proofs.laws.one_damage_law.Goals as goal

pub returns : goal.returns
returns c = one_damage
