-- The call of main.
use Rattle.std.specs.Prelude.{◌≡◌, ℕ, Bool, true, false, []}
use Rattle.c_tree.specs.State.{Done}
use Rattle.stack_code.specs.Code.{Code}
use Rattle.stack_code.specs.Machine.{run_code}
use Rattle.proc_machine.specs.declared.execution.Execution.{Execution}
use Rattle.proc_machine.specs.View.{control_of, data_with}
use Rattle.proc_machine.specs.private.Sound.{Holds}
use Rattle.proc_machine.specs.private.Kept.{IsTooLarge}

-- main is called, or there is no room for its frame
abbrev pub IsCalled : Code → Execution → Execution → Bool → Type 0
IsCalled code old new true = ∥ Holds code new ∥₁
    × ((count me : ℕ) → run_code code count me [] 0 0 ≡ Done (control_of new) (data_with new [] 0))
    × (new.sent ≡ old.sent)
IsCalled code old new false = (new ≡ old) × IsTooLarge code old
