use Rattle.std.proofs.Common.{◌≤◌, ◌-◌, length, ap, sym, subst, ◌∙◌}
use Rattle.std.specs.Prelude.{All, slice_get}
use Rattle.checkpoints.proofs.Fronts.{longest_from_last}
use Rattle.checkpoints.proofs.kept.Checkpoints.longest.Goals as goal

pub returns-clause-longest : goal.returns-clause-longest
returns-clause-longest g c =
    let last = c.in_ok-last.ensures.value ∙ ap (λ l. slice_get l (length l - 1)) c.deref.ensures.value in
    let most = longest_from_last c.self.inside.worlds.items c.in_ok-last.last.now c.self.invariant.rises last in
    subst (λ l. All (λ w. w.events ≤ c.events.result) l) c.self.view_is
    (subst (λ n. All (λ w. w.events ≤ n) c.self.inside.worlds.items) (sym c.events.ensures) most)
