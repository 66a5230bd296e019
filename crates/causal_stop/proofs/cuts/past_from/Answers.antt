use Rattle.std.proofs.Common.{◌+◌, subst, arith, slice_index, drop}
use Rattle.causal_stop.proofs.PlaceFacts.{in_place, one_place}
use Rattle.causal_stop.proofs.PastFacts.{Reaches, start_at, more_at, all_at, from_process}
use Rattle.causal_stop.proofs.cuts.past_from.Goals as goal

pub loop-i-init : goal.loop-i-init
loop-i-init c a h =
    let E = c.args.events.now.events in
    subst (λ x. Reaches E x (drop (c.args.place + 1) E) (slice_index c.of-needs.result.events) (slice_index c.of-needs.result.letters)) (one_place E c.args.place c.at-last.result.now a c.at-last.ensures.event h)
    (start_at c.requires.sound c.args.place c.at-last.result.now c.at-last.ensures.event _ _ c.of-needs.ensures.events c.of-needs.ensures.letters)

pub take_in-requires-clause-sender : goal.take_in-requires-clause-sender
take_in-requires-clause-sender c =
    from_process c.requires.sound c.requires.bounded c.at.result.now (in_place c.args.events.now.events _ c.at.result.now c.at.ensures.event)

pub loop-i-preserved : goal.loop-i-preserved
loop-i-preserved c a h =
    more_at c.requires.sound a _ c.loop-i.i (omega (arith, c.loop-i-test.true)) c.at.result.now c.at.ensures.event _ _ _ _ (c.loop-i.invariant a h) c.take_in.ensures.events c.take_in.ensures.letters

pub returns : goal.returns
returns c a h = all_at a c.loop-i.i (omega (arith, c.loop-i-test.false)) (c.loop-i.invariant a h)
