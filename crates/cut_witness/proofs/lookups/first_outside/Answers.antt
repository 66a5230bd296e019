use Rattle.cut_witness.proofs.LookupFacts.{in_first_note, after_notes}
use Rattle.cut_witness.proofs.lookups.first_outside.Goals as goal

pub returns-in-Some : goal.returns-in-Some
returns-in-Some c = in_first_note c.args.sets.now c.args.notes.now c.args.lost.now c.in-Some.id c.in-Some.ensures

pub returns-in-None : goal.returns-in-None
returns-in-None c = after_notes c.args.sets.now c.args.notes.now c.args.lost.now c.in-None.ensures c.first_lost.result c.first_lost.ensures
