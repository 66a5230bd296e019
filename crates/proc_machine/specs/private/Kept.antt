-- What a machine knows of where it stands.
use Rattle.std.specs.Prelude.{◌≡◌, ℕ, ◌+◌, ◌<◌, ◌≤◌, ◌^◌, Bool, true, false, [], length, Some, None, slice_get, nat_le, option_map}
use Rattle.nm_base.specs.declared.kind.FaultCause.TheVariants.{DataFull}
use Rattle.nm_base.specs.declared.limits.TheConstants.{MAX_DATA_WORDS}
use Rattle.stack_code.specs.Code.{FunctionCode, Code, steps_of}
use Rattle.stack_code.specs.Together.{start_of}
use Rattle.proc_machine.specs.declared.execution.Execution.{Execution}
use Rattle.proc_machine.specs.declared.pause.Pause.{Pause}
use Rattle.proc_machine.specs.declared.pause.Pause.TheVariants as pause
use Rattle.proc_machine.specs.private.Heights.{high}
use Rattle.proc_machine.specs.private.Sound.{Holds}
use Rattle.proc_machine.specs.private.Run.{StandsBefore}

-- before main is called
pub record IsFresh (code : Code) (e : Execution) : Type 0 where
  pub function : e.frame.function ≡ code.main
  pub start : e.frame.start ≡ start_of code code.main
  pub place : e.frame.place ≡ 0
  pub line : option_map (λ (f : FunctionCode). f.line) (slice_get code.functions code.main) ≡ Some e.frame.line
  pub base : e.frame.base ≡ length code.globals
  pub own : e.calls.own ≡ []
  pub outer : e.calls.outer ≡ []
  pub callers : e.calls.callers ≡ []
  pub words : e.words ≡ code.globals
  pub letter : e.letter ≡ None
  pub output : e.output.items ≡ []
  pub sent : e.sent ≡ 0
  pub room : (g place : ℕ) → place < length (steps_of code g) → high code g place + 2 ≤ e.calls.height
  pub short : (g : ℕ) → length (steps_of code g) < 2 ^ 30

-- there is no room for a frame of main
pub record IsTooLarge (code : Code) (e : Execution) : Type 0 where
  pub fresh : IsFresh code e
  pub main : FunctionCode
  pub is : slice_get code.functions code.main ≡ Some main
  pub full : nat_le (length code.globals + main.frame_words) MAX_DATA_WORDS ≡ false

-- what a machine knows: where it stands it can go on, and before which event; what is over stays where it was
abbrev pub IsKept : Code → ℕ → ℕ → Execution → Bool → Pause → Type 0
IsKept code count me e true pause.Done = Holds code e
IsKept code count me e false pause.Done = IsTooLarge code e
IsKept code count me e true next = Holds code e × StandsBefore code count me e next
IsKept code count me e false next = (next ≡ pause.Fault DataFull) × IsTooLarge code e
