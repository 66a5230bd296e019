use Rattle.indexmap.specs.IndexSet.{contains}
use Rattle.nm_base.specs.Message.{same_name}
use Rattle.cut_witness.proofs.QuietFacts.{quiet_more}
use Rattle.cut_witness.proofs.quiet.add_low_sent.Goals as goal

pub loop-i-preserved : goal.loop-i-preserved
loop-i-preserved c h =
    let E = c.args.events.now.events in
    quiet_more (contains same_name c.loop-i.quiet) (contains same_name c.add_found.new.letters) c.quiet_sent.result c.in_ok-add_found.ensures (c.quiet_sent.ensures E c.requires.sound c.requires.posts c.requires.last c.requires.taken) (c.loop-i.invariant h)
