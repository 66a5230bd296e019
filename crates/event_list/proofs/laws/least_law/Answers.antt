use Rattle.std.proofs.Common.{arith}
use Rattle.event_list.proofs.LeastFacts.{meet_meets, raise_failing, raise_sender, least_reached}
use Rattle.event_list.proofs.laws.least_law.Goals as goal

pub returns : goal.returns
returns c = record {
  lesser = meet_meets;
  begins = λ E C d is meets p. omega arith;
  moves_on = λ E C c p low fails. raise_failing E C c low p fails;
  brings = λ E C c a b low ha hb sends held. raise_sender E C c low a b ha hb sends held;
  reached = λ E C c low is meets. least_reached E C c low is meets;
}
