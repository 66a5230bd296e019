use Rattle.event_list.proofs.CheckFacts.{witness_made, witness_by_counts}
use Rattle.event_list.proofs.laws.check_law.Goals as goal

pub returns : goal.returns
returns c = record {
  made = λ s M E m q v w set h. witness_made s h.lawful M E m q h.send v w set h.took h.run h.earlier h.race h.sends h.receive h.counts_send h.counts_receive;
  checked = λ s M E m q v w set es h made agrees counts. witness_by_counts s h.lawful M E m q h.send v w set h.took es h.run h.earlier h.race h.sends h.receive h.counts_send h.counts_receive made agrees counts;
}
