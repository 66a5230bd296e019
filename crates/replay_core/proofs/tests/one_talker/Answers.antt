use Rattle.std.proofs.Common.{◌≡◌, ℕ, List, [], ◌∷◌, ◌++◌, sym, ap, subst, ◌∙◌}
use Rattle.std.specs.Prelude.{map}
use Rattle.nm_base.specs.Message.{Message}
use Rattle.nm_base.specs.Scripts.{Script}
use Rattle.processes.specs.declared.states.Seat.{Seat}
use Rattle.processes.specs.declared.listed.Listed.{Listed}
use Rattle.processes.specs.contracts.listed.ListedProc.TheImpl as impl
use Rattle.processes.specs.Seats.{process_in}
use Rattle.world.proofs.Places.{only}
use Rattle.replay_core.proofs.tests.one_talker.Goals as goal

-- what one process stands for stands the same one for
the_same : {P : Type 0} (stands_for : P → Script → List Message → ℕ → Type 0) (x y : P) (s : Script) → stands_for x s [] 0 → x ≡ y → (s : Script) × stands_for y s [] 0
the_same stands_for x y s h e = (s, subst (λ z. stands_for z s [] 0) e h)

pub new-requires-clause-begins : goal.new-requires-clause-begins
new-requires-clause-begins c p x at =
    let items = ap (map (process_in {P = Listed})) (c.in-Ok.ensures.items ∙ ap (λ (ss : List (Seat Listed)). ss ++ c.begin-seat.result ∷ []) c.new-seats.ensures.items) in
    let same = sym c.begin-seat.ensures.process ∙ only _ _ x p items at in
    the_same impl.stands_for-value.it _ x _ c.new-process.ensures.stands same
