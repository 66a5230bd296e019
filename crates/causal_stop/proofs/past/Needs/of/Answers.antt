use Rattle.causal_stop.proofs.NumberFacts.{no_number, one_number}
use Rattle.std.proofs.Common.{arith}
use Rattle.causal_stop.proofs.past.Needs.of.Goals as goal

pub returns-clause-events : goal.returns-clause-events
returns-clause-events c = one_number 32 c.args.p.no c.args.number (omega arith)

pub returns-clause-letters : goal.returns-clause-letters
returns-clause-letters c = no_number 32
