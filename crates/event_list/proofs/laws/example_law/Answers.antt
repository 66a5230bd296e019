use Rattle.event_list.proofs.ExampleFacts.{lawful, run, logged, not_logged}
use Rattle.event_list.proofs.laws.example_law.Goals as goal

pub returns : goal.returns
returns c = record { lawful = lawful; run = run; logged = logged; not_logged = not_logged }
