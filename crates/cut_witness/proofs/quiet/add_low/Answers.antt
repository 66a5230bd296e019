use Rattle.std.proofs.Common.{ap, arith}
use Rattle.std.specs.Map.{lookup}
use Rattle.indexmap.specs.IndexMap.{get}
use Rattle.indexmap.specs.IndexSet.{contains}
use Rattle.nm_base.specs.Message.{same_name}
use Rattle.vector_clocks.specs.Parts.{part_of}
use Rattle.causal_stop.proofs.PlaceFacts.{in_place}
use Rattle.cut_witness.specs.private.Quiet.{same_lane}
use Rattle.cut_witness.proofs.QuietFacts.{quiet_more, last_none, last_all, last_more, none_taken}
use Rattle.cut_witness.proofs.quiet.add_low.Goals as goal

pub loop-i-init : goal.loop-i-init
loop-i-init c =
    let E = c.args.events.now.events in
    record {
      last = last_none E (part_of c.new-last.result);
      taken = none_taken E (get same_lane c.new-lanes.result) (λ lane. ap (lookup (same_lane lane)) c.new-lanes.ensures.empty);
      quiet = λ h. h;
    }

pub loop-i-preserved : goal.loop-i-preserved
loop-i-preserved c =
    let E = c.args.events.now.events in
    let i = c.loop-i.i in
    let e = c.at-e.result.now in
    let at = c.at-e.ensures.event in
    let posts = c.requires.posts in
    let v = c.loop-i.invariant in
    record {
      last = last_more E i e at (part_of c.loop-i.last) (part_of c.merge.new.self) c.named_by.result c.named_by.ensures c.merge.ensures v.last;
      taken = c.in_ok-add_taken.ensures E (in_place E i e at) posts v.taken;
      quiet = λ h. quiet_more (contains same_name c.loop-i.quiet) (contains same_name c.add_found.new.letters) c.quiet_taken.result c.in_ok-add_found.ensures (c.quiet_taken.ensures E i c.requires.sound at posts v.last v.taken) (v.quiet h);
    }

pub add_low_sent-requires-clause-last : goal.add_low_sent-requires-clause-last
add_low_sent-requires-clause-last c = last_all c.args.events.now.events c.loop-i.i (omega arith) (part_of c.loop-i.last) c.loop-i.invariant.last

pub returns : goal.returns
returns c h = c.in_ok-add_low_sent.ensures (c.loop-i.invariant.quiet h)
