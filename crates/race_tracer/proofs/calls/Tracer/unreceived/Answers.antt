use Rattle.std.proofs.Common.{◌≡◌, true, max, [], sym, ◌∙◌, ap, get_or, arith}
use Rattle.std.specs.Prelude.{◌&&◌, not, nat_lt}
use Rattle.nm_base.specs.Channels.{has_channel}
use Rattle.vector_clocks.specs.Parts.{part}
use Rattle.std.proofs.lemmas.Bool.{false≢true}
use Rattle.std.proofs.lemmas.Grind.{get_or_default_zero}
use Rattle.race_tracer.specs.private.Deciding.{since_of}
use Rattle.race_tracer.proofs.TracerFacts.{out_of_range, range_below, tables_of}
use Rattle.race_tracer.proofs.WaitingFacts.{waiting_test, held_test}
use Rattle.race_tracer.proofs.calls.Tracer.unreceived.Goals as goal

pub returns-then-not-in_range : goal.returns-then-not-in_range
returns-then-not-in_range c E t left first = (
  (λ h. absurd (false≢true h)),
  (λ k. absurd (out_of_range c.args.self.now.mask E c.args.letter.now left.run left.stamp (sym c.in_range.ensures ∙ c.if-not-in_range.true) k)),
)

pub returns-then-is_held : goal.returns-then-is_held
returns-then-is_held c E t left first =
    let held : (has_channel c.self.inside.mask c.args.letter.now.chan && not c.args.first) ≡ true = (let a = c.is_held.ensures in let b = c.if-is_held.true in cc) in (
      (λ h. absurd (false≢true h)),
      (λ k. absurd (held_test (tables_of c.self.inside.mask c.self.inside.last c.self.inside.taken.items c.self.inside.receives) c.args.self.now c.self.view_is E c.args.letter.now t left.run left.stamp left.waits c.args.first first held k)),
    )

pub returns : goal.returns
returns c E t left first =
    let late : c.is_late.result ≡ nat_lt (max c.since-since.result (part c.args.letter.now.stamp c.args.letter.now.dest.no)) (get_or (get_or c.self.inside.last c.args.letter.now.dest.no []) c.args.letter.now.chan 0) = search (c.is_late.ensures) in
    waiting_test (tables_of c.self.inside.mask c.self.inside.last c.self.inside.taken.items c.self.inside.receives) c.args.self.now c.self.view_is E c.args.letter.now t left.run left.stamp left.waits
    (range_below c.args.letter.now.dest.no c.args.letter.now (sym c.in_range.ensures ∙ c.if-not-in_range.false)) c.args.first first (sym c.is_held.ensures ∙ c.if-is_held.false)
    c.since-since.result (c.since-since.ensures ∙ ap (since_of c.self.inside.mask c.args.letter.now.chan) (c.index.ensures ∙ get_or_default_zero c.self.inside.taken.items c.place_of.result _ (omega (arith, c.place_of.ensures.below, c.self.invariant)) ∙ ap (λ k. get_or c.self.inside.taken.items k 0) c.place_of.ensures.at)) c.is_late.result late
