use Rattle.c_tree.proofs.Plays.{first_events_agree}
use Rattle.c_tree.proofs.laws.first_events_law.Goals as goal

pub returns : goal.returns
returns c = first_events_agree
