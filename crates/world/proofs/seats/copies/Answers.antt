use Rattle.std.proofs.Common.{◌+◌, ◌++◌, ◌∷◌, [], Some, refl, sym, ap, ◌∙◌, subst, arith}
use Rattle.std.specs.Prelude.{map}
use Rattle.std.proofs.lemmas.List.{map-append}
use Rattle.processes.specs.Seats.{process_in}
use Rattle.world.specs.Moves.{AreCopies}
use Rattle.world.proofs.Places.{one_copy_more, was_there, map_length}
use Rattle.world.proofs.seats.copies.Goals as goal

pub loop-seat-preserved : goal.loop-seat-preserved
loop-seat-preserved g c =
    let seats = c.args.seats.now in
    let old = map process_in seats in
    let i = c.loop-seat.seat-index in
    let k = c.in_ok-process.ensures in
    let at = was_there process_in seats old i refl (omega (arith, c.loop-seat-test.true, map_length process_in seats)) c.seat-item.result c.seat-item.is ∙ ap Some (sym c.process.ensures.process) in
    let more = one_copy_more g.P.Proc.stands_for g.P.Proc.name_of g.P.Proc.origin_of old (map process_in c.loop-seat.copies.items) i c.process.result.now c.in_ok-process.process c.loop-seat.invariant at record { stays = k.same; name = k.name; origin = k.origin } in
    let items = ap (map process_in) c.in-Ok.ensures.items ∙ map-append process_in c.loop-seat.copies.items (c.begin-copy.result ∷ []) in
    subst (λ ps. AreCopies g.P.Proc.stands_for g.P.Proc.name_of g.P.Proc.origin_of old ps (i + 1)) (sym (items ∙ ap (λ y. map process_in c.loop-seat.copies.items ++ y ∷ []) c.begin-copy.ensures.process)) more
