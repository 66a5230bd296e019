use Rattle.std.proofs.Common.{sym, ap, ◌∙◌, not}
use Rattle.cut_witness.specs.private.Lookups.{has_lost}
use Rattle.cut_witness.proofs.LookupFacts.{found_at, none_next}
use Rattle.cut_witness.proofs.lookups.first_lost.Goals as goal

pub returns-then-not-has_lost : goal.returns-then-not-has_lost
returns-then-not-has_lost c =
    sym (found_at (λ id. not (has_lost c.args.sets.now id)) c.args.lost.now c.loop-id.id-index _ c.loop-id-test.true c.loop-id.invariant (ap not (sym c.has_lost.ensures ∙ c.if-not-has_lost.true)))

pub loop-id-preserved : goal.loop-id-preserved
loop-id-preserved c =
    none_next (λ id. not (has_lost c.args.sets.now id)) c.args.lost.now c.loop-id.id-index _ c.loop-id-test.true c.loop-id.invariant (ap not (sym c.has_lost.ensures ∙ c.if-not-has_lost.false))
