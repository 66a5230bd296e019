use Rattle.race_tracer.proofs.TracerFacts.{other_event}
use Rattle.race_tracer.proofs.laws.other_events_law.Goals as goal

pub returns : goal.returns
returns c = other_event
