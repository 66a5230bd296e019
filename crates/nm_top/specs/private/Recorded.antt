-- What a recording gives, for a program and turns that were read.
use Rattle.std.specs.Prelude.{◌≡◌, ◌⊎◌, ℕ, ◌+◌, ◌*◌, ◌<◌, ◌≤◌, List, [], ◌++◌, length, take, false, Option, None, Some, IsSome}
use Rattle.nm_outside.specs.Causes.{BelongsTo}
use Rattle.nm_outside.specs.Files.{Files}
use Rattle.c_tree.specs.declared.program.Program.{Program}
use Rattle.schedules.specs.declared.schedule.Turn.{Turn}
use Rattle.trace_file.specs.Content.{Content}
use Rattle.trace_file.specs.Bytes.{spelling}
use Rattle.recorder.specs.Recording.{holding}
use Rattle.report.specs.Texts.{trace_line, stopped_line}
use Rattle.report.specs.Runs.{blocks}
use Rattle.nm_top.specs.declared.status.Status.{Status}
use Rattle.nm_top.specs.Recordings.{ToRecord, IsRecordedAs, recorded_run}
use Rattle.nm_top.specs.private.Works.{Work, Whole, Short, Broken, Outside, Tells, is_broken}

-- all turns were made, and their trace was written
pub record RecordsAll (w : ToRecord) (p : Program) (digest : List ℕ) (turns : List Turn) (old new : Option Files)
    (text : List ℕ) : Type 0 where
  pub content : Content
  pub is_trace : IsRecordedAs w p digest turns (length turns) content
  pub is : text ≡ blocks p w.n (recorded_run w p turns (length turns))
      ++ trace_line (length content.notes) (length content.lost) (length (spelling content))
  pub leaves : new ≡ holding old w.trace (spelling content)

-- so many turns were made, and their trace was written
pub record RecordsSome (w : ToRecord) (p : Program) (digest : List ℕ) (turns : List Turn) (old new : Option Files)
    (text : List ℕ) : Type 0 where
  pub many : ℕ
  pub within : many < length turns
  pub content : Content
  pub is_trace : IsRecordedAs w p digest turns many content
  pub is : text ≡ stopped_line many
  pub leaves : new ≡ holding old w.trace (spelling content)

-- a front of the trace of the first turns was written
pub record RecordsFront (w : ToRecord) (p : Program) (digest : List ℕ) (turns : List Turn)
    (old new : Option Files) : Type 0 where
  pub many : ℕ
  pub within : many ≤ length turns
  pub content : Content
  pub is_trace : IsRecordedAs w p digest turns many content
  pub bytes : ℕ
  pub leaves : new ≡ holding old w.trace (take bytes (spelling content))

abbrev pub IsRecordWork : ToRecord → Program → List ℕ → List Turn → Option Files → Option Files → Work → Type 0
IsRecordWork w p digest turns old new (Whole text) = RecordsAll w p digest turns old new text
IsRecordWork w p digest turns old new (Short text) =
    ((text ≡ []) × (new ≡ old)) ⊎ RecordsSome w p digest turns old new text
IsRecordWork w p digest turns old new Broken = (new ≡ old) ⊎ RecordsFront w p digest turns old new
IsRecordWork w p digest turns old new work = ⊥

-- the text of a whole recording, or the one line of one that stopped
abbrev pub recorded_work : Option ℕ → List ℕ → Work
recorded_work None text = Whole text
recorded_work (Some many) text = Short (stopped_line many)

-- The recording was made and told. A write to the file fails where it says so, and not where it was sure of enough
-- room.
pub record HasRecorded (w : ToRecord) (p : Program) (digest : List ℕ) (turns : List Turn) (before after : Outside)
    (status : Status) : Type 0 where
  pub work : Work
  pub is : IsRecordWork w p digest turns before.files after.files work
  pub tells : Tells work before.given after.given before.faults after.faults status
  pub failed : BelongsTo (is_broken work) before.writes after.writes
  pub sure : (room : ℕ) → IsSome before.files → before.room ≡ Some room → 6 * length turns + 256 ≤ room
      → is_broken work ≡ false
  pub same_absents : after.absents ≡ before.absents
  pub same_reads : after.reads ≡ before.reads
