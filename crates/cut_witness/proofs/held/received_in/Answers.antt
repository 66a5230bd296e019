use Rattle.indexmap.specs.IndexSet.{contains}
use Rattle.nm_base.specs.Message.{same_name}
use Rattle.cut_witness.proofs.HeldFacts.{received_more}
use Rattle.cut_witness.proofs.held.received_in.Goals as goal

pub loop-i-preserved : goal.loop-i-preserved
loop-i-preserved c =
    received_more c.args.events.now.events c.loop-i.i c.at.result.now c.at.ensures.event (contains same_name c.loop-i.received) (contains same_name c.add_found.new.letters) c.taken_at.result c.taken_at.ensures c.in_ok-add_found.ensures c.loop-i.invariant
