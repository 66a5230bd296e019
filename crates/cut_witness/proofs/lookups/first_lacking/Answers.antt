use Rattle.cut_witness.specs.Comparisons.{trace_entries}
use Rattle.cut_witness.proofs.ComparingFacts.{lacking_from}
use Rattle.cut_witness.proofs.lookups.first_lacking.Goals as goal

pub returns : goal.returns
returns c = lacking_from c.in_ok-sets.ensures (trace_entries c.args.notes.now c.args.lost.now) c.first_outside.result c.first_outside.ensures
