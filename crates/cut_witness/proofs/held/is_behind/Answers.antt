use Rattle.std.proofs.Common.{sym, ap, ◌∙◌}
use Rattle.std.proofs.lemmas.Bool.{ltb-true, false≢true}
use Rattle.indexmap.specs.IndexMap.{get}
use Rattle.cut_witness.specs.private.Quiet.{same_lane}
use Rattle.cut_witness.proofs.held.is_behind.Goals as goal

pub returns-then-not-has_channel : goal.returns-then-not-has_channel
returns-then-not-has_channel c t = absurd (false≢true t)

pub returns-in-Some : goal.returns-in-Some
returns-in-Some c t = record {
  ordered = sym c.has_channel.ensures ∙ c.if-not-has_channel.false;
  first = c.in-Some.first;
  waits = ap (get same_lane c.args.held.now) (sym c.lane_of.ensures) ∙ sym c.held_on.ensures ∙ c.in-Some.is;
  lower = ltb-true c.in-Some.first c.args.id.number t;
}

pub returns-in-None : goal.returns-in-None
returns-in-None c t = absurd (false≢true t)
