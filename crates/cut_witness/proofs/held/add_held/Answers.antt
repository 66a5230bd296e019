use Rattle.std.proofs.Common.{ap}
use Rattle.std.specs.Map.{lookup}
use Rattle.indexmap.specs.IndexMap.{get}
use Rattle.indexmap.specs.IndexSet.{contains}
use Rattle.nm_base.specs.Message.{same_name}
use Rattle.cut_witness.specs.private.Quiet.{same_lane}
use Rattle.cut_witness.proofs.HeldFacts.{none_held}
use Rattle.cut_witness.proofs.QuietFacts.{quiet_more}
use Rattle.cut_witness.proofs.held.add_held.Goals as goal

pub loop-i-init : goal.loop-i-init
loop-i-init c = record {
  held = none_held c.args.events.now.events (get same_lane c.new-held.result) (λ lane. ap (lookup (same_lane lane)) c.new-held.ensures.empty);
  quiet = λ h. h;
}

pub loop-i-preserved : goal.loop-i-preserved
loop-i-preserved c =
    let E = c.args.events.now.events in
    record {
      held = c.in_ok-hold.ensures E c.requires.posts c.in_ok-received.ensures c.loop-i.invariant.held;
      quiet = λ h. quiet_more (contains same_name c.loop-i.quiet) (contains same_name c.add_found.new.letters) c.quiet_behind.result c.in_ok-add_found.ensures (c.quiet_behind.ensures E c.requires.sound c.requires.posts c.loop-i.invariant.held) (c.loop-i.invariant.quiet h);
    }

pub returns : goal.returns
returns c = c.loop-i.invariant.quiet
