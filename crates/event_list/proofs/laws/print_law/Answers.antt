use Rattle.event_list.proofs.PrintFacts.{length_same, sent_same, taken_same, waiting_same, letters_same, replay_cut}
use Rattle.event_list.proofs.laws.print_law.Goals as goal

pub returns : goal.returns
returns c = record {
  messages = λ M N E F p g h same. letters_same same g h p;
  events = λ E F same. length_same same;
  sent = λ E F same. sent_same same;
  accepted = λ E F same. taken_same same;
  waiting = λ M N E F g h same. waiting_same same g h;
  replay = λ s T E R h replay. replay_cut s h.lawful T E R h.run h.trace replay;
}
