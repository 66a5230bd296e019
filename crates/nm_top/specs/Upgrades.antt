-- The command `upgrade`.
use Rattle.std.specs.Prelude.{◌≡◌, ◌⊎◌, ℕ, ◌≤◌, List, length, take}
use Rattle.std.specs.FinMap.{insert}
use Rattle.nm_outside.specs.Files.{Files}
use Rattle.trace_file.specs.Content.{Content}
use Rattle.trace_file.specs.Bytes.{spelling}
use Rattle.report.specs.Texts.{upgraded_line}
use Rattle.nm_top.specs.Demands.{HasTrace}

-- the same trace in version 2
abbrev pub upgraded : Content → Content
upgraded t = record t { version = 2 }

-- The file has the trace in version 2, and what is printed is its one line.
pub record UpgradeDoes (trace new : List ℕ) (files : Files) (printed : List ℕ) (left : Files) : Type 0 where
  pub content : Content
  pub has_trace : HasTrace files trace content
  pub is : printed
      ≡ upgraded_line (length content.notes) (length content.lost) (length (spelling (upgraded content)))
  pub leaves : left ≡ insert files new (spelling (upgraded content))

-- The file is a front of the new bytes.
pub record UpgradeCut (trace new : List ℕ) (files left : Files) : Type 0 where
  pub content : Content
  pub has_trace : HasTrace files trace content
  pub bytes : ℕ
  pub leaves : left ≡ insert files new (take bytes (spelling (upgraded content)))

-- A write to the file failed: it was not begun, or only a front was written.
abbrev pub UpgradeBreaks : List ℕ → List ℕ → Files → Files → Type 0
UpgradeBreaks trace new files left = (left ≡ files) ⊎ UpgradeCut trace new files left

-- This room is enough for the new bytes.
pub record UpgradeFits (trace : List ℕ) (files : Files) (room : ℕ) : Type 0 where
  pub content : Content
  pub has_trace : HasTrace files trace content
  pub enough : length (spelling (upgraded content)) ≤ room
