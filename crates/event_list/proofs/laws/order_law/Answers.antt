use Rattle.event_list.proofs.PredecessorFacts.{received_first, last_received, could_after}
use Rattle.event_list.proofs.laws.order_law.Goals as goal

pub returns : goal.returns
returns c = record {
  in_order = λ M E l m b set g ordered sl sm k h. received_first g l m ordered sl sm k b set h;
  last = λ M E l m a set g ordered h acc. last_received g l m ordered h a set acc;
  could_take = λ M E q m k g ordered h. could_after g q m k ordered h;
  waits = λ M E q l m ordered sent k w could. let r = could.in_order ordered l sent k in w (r.0, r.1, r.2);
}
