-- The script's next is the event with which the run goes on.
use Rattle.std.proofs.Common.{◌≡◌, ℕ, suc, List, ◌∷◌, ap, ◌∙◌}
use Rattle.nm_base.specs.declared.kind.Kind.{Kind}
use Rattle.nm_base.specs.Message.{Message}
use Rattle.nm_base.specs.Scripts.{Goes}
use Rattle.c_tree.specs.State.{State, Status, Able, Stopped}
use Rattle.c_tree.specs.Play.{PlaySetting, played_of, next_made, next, run_of}
use Rattle.stack_code.specs.Code.{Code}
use Rattle.c_compile.specs.Correct.{CodeStandsFor}
use Rattle.c_process.specs.private.Laws.{next_is}

module _ (set : PlaySetting) (code : Code) (stands : CodeStandsFor set code) where
  pub next_goes : (inputs : List Message) (k : ℕ) (s s' : State) (status' : Status) (kind : Kind) (events : List Kind) → run_of set inputs k ≡ Stopped Able s
      → run_of set inputs (suc k) ≡ Stopped status' s' → s'.events ≡ kind ∷ events → next set inputs k ≡ Goes kind
  next_goes inputs k s s' status' kind events e f g =
      next_is set code stands inputs k Able s e ∙ ap (λ o. next_made (played_of o).state.events) f ∙ ap next_made g
