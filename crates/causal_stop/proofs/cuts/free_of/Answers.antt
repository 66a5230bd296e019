use Rattle.std.proofs.Common.{◌∙◌, ap, arith}
use Rattle.std.specs.Prelude.{slice_get}
use Rattle.causal_stop.proofs.PlaceFacts.{in_place}
use Rattle.causal_stop.proofs.PastFacts.{from_process}
use Rattle.causal_stop.proofs.FreeFacts.{frees_start, free_at, left_at, frees_at, apart_at}
use Rattle.causal_stop.proofs.cuts.free_of.Goals as goal

pub loop-i-init : goal.loop-i-init
loop-i-init c a h = frees_start c.requires.sound a (in_place c.args.events.now.events c.args.place a h) _ _ c.new-free.ensures.events c.new-free.ensures.letters

pub loop-i-preserved-then-i-place : goal.loop-i-preserved-then-i-place
loop-i-preserved-then-i-place c a h =
    left_at c.requires.sound a c.loop-i.i (ap (slice_get c.args.events.now.events) (omega (arith, c.if-i-place.true)) ∙ h) _ _ (c.loop-i.invariant a h)

pub take_in-requires-clause-sender : goal.take_in-requires-clause-sender
take_in-requires-clause-sender c =
    from_process c.requires.sound c.requires.bounded c.at.result.now (in_place c.args.events.now.events _ c.at.result.now c.at.ensures.event)

pub loop-i-preserved : goal.loop-i-preserved
loop-i-preserved c a h =
    free_at c.requires.sound a c.loop-i.i c.at.result.now c.at.ensures.event _ _ _ _ (c.loop-i.invariant a h) c.take_in.ensures.events c.take_in.ensures.letters (apart_at c.requires.sound a c.at.result.now c.loop-i.i c.args.place h c.at.ensures.event (λ e. omega (arith, c.if-i-place.false, e)))

pub returns : goal.returns
returns c a h = frees_at c.requires.sound a c.loop-i.i (omega arith) (c.loop-i.invariant a h)
