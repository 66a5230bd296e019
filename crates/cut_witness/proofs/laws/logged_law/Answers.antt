use Rattle.cut_witness.proofs.LawFacts.{note_logged, lost_logged}
use Rattle.cut_witness.proofs.laws.logged_law.Goals as goal

pub returns : goal.returns
returns c = record { note = note_logged; lost = lost_logged }
