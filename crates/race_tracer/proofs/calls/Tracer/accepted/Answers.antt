use Rattle.std.proofs.Common.{sym, ◌∙◌, ap, get_or, arith}
use Rattle.std.proofs.lemmas.Bool.{false≢true}
use Rattle.std.proofs.lemmas.Grind.{get_or_default_zero}
use Rattle.race_tracer.specs.private.Deciding.{since_of}
use Rattle.race_tracer.proofs.TracerFacts.{next_in_range, next_below, some_when, received_test, stands_after, tables_of}
use Rattle.race_tracer.proofs.calls.Tracer.accepted.Goals as goal

pub returns-then-not-in_range-clause-logged : goal.returns-then-not-in_range-clause-logged
returns-then-not-in_range-clause-logged c E t next =
    absurd (false≢true (sym c.if-not-in_range.true ∙ c.in_range.ensures ∙ next_in_range c.args.self.now.mask E c.args.p c.args.number c.args.set c.args.letter.now next))

pub returns-then-not-in_range-clause-stands : goal.returns-then-not-in_range-clause-stands
returns-then-not-in_range-clause-stands c E t next =
    absurd (false≢true (sym c.if-not-in_range.true ∙ c.in_range.ensures ∙ next_in_range c.args.self.now.mask E c.args.p c.args.number c.args.set c.args.letter.now next))

pub returns-clause-logged : goal.returns-clause-logged
returns-clause-logged c E t next =
    some_when c.then_some.result c.is_late-logged.result _ c.then_some.ensures (received_test (tables_of c.self.inside.mask c.self.inside.last c.self.inside.taken.items c.self.inside.receives) c.args.self.now c.self.view_is E c.args.p c.args.number c.args.set c.args.letter.now t next
    c.since-since.result (c.since-since.ensures ∙ ap (since_of c.self.inside.mask c.args.letter.now.chan) (c.index.ensures ∙ get_or_default_zero c.self.inside.taken.items c.place_of-place.result _ (omega (arith, c.place_of-place.ensures.below, c.self.invariant)) ∙ ap (λ k. get_or c.self.inside.taken.items k 0) c.place_of-place.ensures.at))
    c.is_late-logged.result c.is_late-logged.ensures)

pub returns-clause-stands : goal.returns-clause-stands
returns-clause-stands c E t next =
    let process = next_below c.args.self.now.mask E c.args.p c.args.number c.args.set c.args.letter.now next in
    let stands = stands_after (tables_of c.self.inside.mask c.self.inside.last c.self.inside.taken.items c.self.inside.receives) c.args.self.now c.self.view_is E c.args.p c.args.number c.args.set c.args.letter.now t next
    c.row_after.result c.place_of-place.result c.saturating_add.result c.place_of-place.ensures.at
    (omega (arith, process)) (omega (arith, c.place_of-place.ensures.below, c.self.invariant)) (omega (arith, process)) c.row_after.ensures
    (λ most. omega (arith, most, c.saturating_add.ensures)) in
    search (stands)
