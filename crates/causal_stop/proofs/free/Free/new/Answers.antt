use Rattle.causal_stop.proofs.NumberFacts.{no_number}
use Rattle.causal_stop.proofs.free.Free.new.Goals as goal

pub returns-clause-events : goal.returns-clause-events
returns-clause-events c = no_number 32

pub returns-clause-letters : goal.returns-clause-letters
returns-clause-letters c = no_number 32
