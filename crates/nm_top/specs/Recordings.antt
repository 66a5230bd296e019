-- The command `record`.
use Rattle.std.specs.Prelude.{◌≡◌, ◌⊎◌, ℕ, ◌+◌, ◌*◌, ◌<◌, ◌≤◌, List, ◌++◌, length, take}
use Rattle.std.specs.FinMap.{insert}
use Rattle.sha2.specs.Sha256.{sha256}
use Rattle.nm_outside.specs.Files.{Files}
use Rattle.c_tree.specs.declared.program.Program.{Program}
use Rattle.schedules.specs.declared.schedule.Turn.{Turn}
use Rattle.event_list.specs.declared.Event.{Event}
use Rattle.trace_file.specs.Content.{Content}
use Rattle.trace_file.specs.Bytes.{spelling}
use Rattle.recorder.specs.Recording.{Form, IsContentOf}
use Rattle.report.specs.Texts.{trace_line, stopped_line}
use Rattle.report.specs.Runs.{blocks}
use Rattle.nm_top.specs.Programs.{Reads}
use Rattle.nm_top.specs.Schedules.{IsSchedule}
use Rattle.nm_top.specs.Demands.{HoldsIn, program_file, schedule_file}
use Rattle.nm_top.specs.Runs.{run_of_program}

-- the words of a recording
pub record ToRecord : Type 0 where
  pub program : List ℕ
  pub n : ℕ
  pub schedule : List ℕ
  pub trace : List ℕ
  pub version : ℕ
  pub mask : ℕ

-- the program and the turns that its files have, and the digest of the program file
pub record IsToRecord (files : Files) (w : ToRecord) (p : Program) (digest : List ℕ) (turns : List Turn) : Type 0 where
  pub has_program : HoldsIn files (λ text. Reads text p × (digest ≡ sha256 text)) (program_file w.program)
  pub has_schedule : HoldsIn files (λ text. IsSchedule w.n text turns) (schedule_file w.schedule)

-- the run of the first turns
abbrev pub recorded_run : ToRecord → Program → List Turn → ℕ → List Event
recorded_run w p turns many = run_of_program p w.n w.mask (take many turns)

abbrev pub form_of : ToRecord → List ℕ → Form
form_of w digest = record { version = w.version; mask = w.mask; n = w.n; digest = digest }

-- the trace of the run of so many turns
abbrev pub IsRecordedAs : ToRecord → Program → List ℕ → List Turn → ℕ → Content → Type 0
IsRecordedAs w p digest turns many t = IsContentOf (form_of w digest) (recorded_run w p turns many) t

-- What is printed are the blocks and the summary of the run, and the line of its trace, which is written to the file.
pub record RecordDoes (w : ToRecord) (files : Files) (printed : List ℕ) (left : Files) : Type 0 where
  pub of_program : Program
  pub digest : List ℕ
  pub turns : List Turn
  pub has : IsToRecord files w of_program digest turns
  pub content : Content
  pub is_trace : IsRecordedAs w of_program digest turns (length turns) content
  pub is : printed ≡ blocks of_program w.n (recorded_run w of_program turns (length turns))
      ++ trace_line (length content.notes) (length content.lost) (length (spelling content))
  pub leaves : left ≡ insert files w.trace (spelling content)

-- Memory was refused in a turn: its one line is printed, and the file has the trace of the turns before.
pub record RecordStops (w : ToRecord) (files : Files) (printed : List ℕ) (left : Files) : Type 0 where
  pub of_program : Program
  pub digest : List ℕ
  pub turns : List Turn
  pub has : IsToRecord files w of_program digest turns
  pub many : ℕ
  pub within : many < length turns
  pub content : Content
  pub is_trace : IsRecordedAs w of_program digest turns many content
  pub is : printed ≡ stopped_line many
  pub leaves : left ≡ insert files w.trace (spelling content)

-- The file is a front of the trace of the first turns.
pub record RecordCut (w : ToRecord) (files left : Files) : Type 0 where
  pub of_program : Program
  pub digest : List ℕ
  pub turns : List Turn
  pub has : IsToRecord files w of_program digest turns
  pub many : ℕ
  pub within : many ≤ length turns
  pub content : Content
  pub is_trace : IsRecordedAs w of_program digest turns many content
  pub bytes : ℕ
  pub leaves : left ≡ insert files w.trace (take bytes (spelling content))

-- A write to the file failed: it was not begun, or only a front was written.
abbrev pub RecordBreaks : ToRecord → Files → Files → Type 0
RecordBreaks w files left = (left ≡ files) ⊎ RecordCut w files left

-- This room is enough for the trace.
pub record RecordFits (w : ToRecord) (files : Files) (room : ℕ) : Type 0 where
  pub turns : List Turn
  pub has_schedule : HoldsIn files (λ text. IsSchedule w.n text turns) (schedule_file w.schedule)
  pub enough : 6 * length turns + 256 ≤ room
