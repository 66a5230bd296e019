use Rattle.std.proofs.Common.{[], ◌∷◌, length, take, ap, sym, ◌∙◌, arith, length-append}
use Rattle.std.specs.Prelude.{filter}
use Rattle.cut_witness.specs.private.Steps.{is_receive_below}
use Rattle.cut_witness.proofs.KeptFacts.{passing_more, failing_more, number_is}
use Rattle.cut_witness.proofs.kept.receive_number.Goals as goal

pub loop-i-preserved-then-not-is_receive_below : goal.loop-i-preserved-then-not-is_receive_below
loop-i-preserved-then-not-is_receive_below c = record {
  few = omega (arith, c.loop-i.invariant.few);
  is = c.loop-i.invariant.is ∙ ap length (sym (failing_more (is_receive_below c.args.p.no c.args.number) c.args.events.now.events c.loop-i.i c.at.result.now c.at.ensures.event c.is_receive_below.result c.is_receive_below.ensures c.if-not-is_receive_below.true));
}

pub loop-i-preserved : goal.loop-i-preserved
loop-i-preserved c =
    let test = is_receive_below c.args.p.no c.args.number in
    let before = filter test (take c.loop-i.i c.args.events.now.events) in
    let more = ap length (passing_more test c.args.events.now.events c.loop-i.i c.at.result.now c.at.ensures.event c.is_receive_below.result c.is_receive_below.ensures c.if-not-is_receive_below.false) in
    record {
      few = omega (arith, c.loop-i.invariant.few);
      is = omega (arith, c.loop-i.invariant.is, more, length-append before (c.at.result.now ∷ []));
    }

pub returns : goal.returns
returns c b h = number_is c.requires c.args.p.no c.args.number c.loop-i.i c.loop-i.received (omega arith) c.loop-i.invariant.is b h
