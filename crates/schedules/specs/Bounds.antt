-- Which turns a schedule for n processes may have.
use Rattle.std.specs.Prelude.{◌≡◌, ℕ, ◌<◌, ◌≤◌, List, Some, length, slice_get}
use Rattle.nm_base.specs.declared.limits.TheConstants.{MAX_TURNS}
use Rattle.schedules.specs.declared.schedule.Turn.{Turn}

-- each turn names one of n processes
abbrev pub NameBelow : ℕ → List Turn → Type 0
NameBelow n schedule = (i : ℕ) (t : Turn) → slice_get schedule i ≡ Some t → t.proc.no < n

-- and they are at most 1,000,000
pub record AreFewTurns (n : ℕ) (schedule : List Turn) : Type 0 where
  pub below : NameBelow n schedule
  pub few : length schedule ≤ MAX_TURNS
