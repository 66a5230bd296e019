use Rattle.std.proofs.Common.{subst, sym}
use Rattle.std.specs.Prelude.{IsSome}
use Rattle.c_checker.specs.private.Places.{place_in, Keeps}
use Rattle.c_checker.proofs.Places.{last_is_there, keeps_pop}
use Rattle.c_checker.proofs.entries.Entries.pop.Goals as goal

pub set_place-requires : goal.set_place-requires
set_place-requires c =
    let before = subst (λ hs. Keeps hs c.self.inside.places) c.in-Some.ensures.items c.self.invariant in
    subst (λ name. IsSome (place_in c.self.inside.places name)) (sym c.as_slice.ensures) (last_is_there c.pop.new.self.items c.self.inside.places c.in-Some.last before)

pub invariant_of-self : goal.invariant_of-self
invariant_of-self c =
    let before = subst (λ hs. Keeps hs c.self.inside.places) c.in-Some.ensures.items c.self.invariant in
    keeps_pop c.pop.new.self.items c.self.inside.places c.set_place.new.places c.in-Some.last before (rw c.as_slice.ensures at c.set_place.ensures)
