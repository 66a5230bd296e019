use Rattle.event_list.proofs.FormedFacts.{formed, named_processes}
use Rattle.event_list.proofs.laws.formed_law.Goals as goal

pub returns : goal.returns
returns c = record {
  run = λ s M n turns e law below h. named_processes s law M n turns e below h;
  trace = formed;
}
