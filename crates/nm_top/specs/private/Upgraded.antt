-- What writing a trace in version 2 gives.
use Rattle.std.specs.Prelude.{◌≡◌, ◌⊎◌, ℕ, ◌≤◌, List, [], length, take, false, Option, Some, IsSome}
use Rattle.nm_outside.specs.Causes.{BelongsTo}
use Rattle.nm_outside.specs.Files.{Files}
use Rattle.trace_file.specs.Content.{Content}
use Rattle.trace_file.specs.Bytes.{spelling}
use Rattle.recorder.specs.Recording.{holding}
use Rattle.report.specs.Texts.{upgraded_line}
use Rattle.nm_top.specs.declared.status.Status.{Status}
use Rattle.nm_top.specs.Upgrades.{upgraded}
use Rattle.nm_top.specs.private.Works.{Work, Whole, Short, Broken, Outside, Tells, is_broken}

abbrev pub IsUpgradeWork : Content → List ℕ → Option Files → Option Files → Work → Type 0
IsUpgradeWork t name old new (Whole text) =
    (text ≡ upgraded_line (length t.notes) (length t.lost) (length (spelling (upgraded t))))
    × (new ≡ holding old name (spelling (upgraded t)))
IsUpgradeWork t name old new (Short text) = (text ≡ []) × (new ≡ old)
IsUpgradeWork t name old new Broken =
    (new ≡ old) ⊎ ((many : ℕ) × (new ≡ holding old name (take many (spelling (upgraded t)))))
IsUpgradeWork t name old new work = ⊥

-- The trace was written in version 2, and its line was told. A write fails where the work says so, and not where the
-- cabinet was sure of enough room.
pub record HasUpgraded (t : Content) (name : List ℕ) (before after : Outside) (status : Status) : Type 0 where
  pub work : Work
  pub is : IsUpgradeWork t name before.files after.files work
  pub tells : Tells work before.given after.given before.faults after.faults status
  pub failed : BelongsTo (is_broken work) before.writes after.writes
  pub sure : (room : ℕ) → IsSome before.files → before.room ≡ Some room → length (spelling (upgraded t)) ≤ room
      → is_broken work ≡ false
  pub same_absents : after.absents ≡ before.absents
  pub same_reads : after.reads ≡ before.reads
