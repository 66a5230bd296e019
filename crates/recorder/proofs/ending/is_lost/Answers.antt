use Rattle.std.proofs.Common.{sym, ◌∙◌}
use Rattle.std.proofs.lemmas.Bool.{false≢true}
use Rattle.race_tracer.proofs.TracerFacts.{out_of_range}
use Rattle.recorder.proofs.ending.is_lost.Goals as goal

pub returns-then-not-has_place : goal.returns-then-not-has_place
returns-then-not-has_place c E t left first = (
  (λ h. absurd (false≢true h)),
  (λ k. absurd (out_of_range c.args.tracer.now.mask E c.args.letter.now left.run left.stamp (sym c.has_place.ensures ∙ c.if-not-has_place.true) k)),
)
