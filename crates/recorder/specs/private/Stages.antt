-- How far a recording is.
use Rattle.std.specs.Prelude.{◌≡◌, ℕ, ◌≤◌, List, [], length, take, Option, IsSome}
use Rattle.nm_base.specs.declared.letter.LetterId.{LetterId}
use Rattle.nm_base.specs.declared.letter.AcceptNote.{AcceptNote}
use Rattle.nm_outside.specs.Files.{Files}
use Rattle.nm_base.specs.Scripts.{Script}
use Rattle.processes.specs.Standing.{Standing}
use Rattle.event_list.specs.declared.Event.{Event}
use Rattle.event_list.specs.Traces.{AreNotesOf, AreLostOf}
use Rattle.race_tracer.specs.Tracing.{Tables, IsTracerOf}
use Rattle.world.specs.Worlds.{Parts, IsWorldOf}
use Rattle.trace_file.specs.declared.writer.TraceWriter.{TraceWriter}
use Rattle.trace_file.specs.Content.{Content}
use Rattle.trace_file.specs.Bytes.{front}
use Rattle.trace_file.specs.Writing.{Writes}
use Rattle.recorder.specs.Recording.{Form, holding}

-- the content of a trace in this form before its counts
abbrev pub content_in : Form → List AcceptNote → List LetterId → Content
content_in f notes lost =
    record { version = f.version; mask = f.mask; n = f.n; digest = f.digest; notes = notes; lost = lost; counts = [] }

-- the notes of the receives in E, and the letters that it lost
abbrev pub AreNotes : ℕ → List Event → List AcceptNote → Type 0
AreNotes = AreNotesOf

abbrev pub AreLost : ℕ → List Event → List LetterId → Type 0
AreLost = AreLostOf

-- the file that is written: its name, and all files when it was begun
pub record Place : Type 0 where
  pub start : Option Files
  pub name : List ℕ

-- the named file is open and holds these bytes, where files are told, and no other file changed
pub record IsHeld (at : Place) (files : Option Files) (open_name : List ℕ) (bytes : List ℕ) : Type 0 where
  pub is : files ≡ holding at.start at.name bytes
  pub name_is : IsSome files → open_name ≡ at.name

-- the tracer was told of the receives in E, and what was written is the front of its trace up to so many notes
pub record IsNoted (f : Form) (at : Place) (t : Tables) (w : TraceWriter) (files : Option Files) (open_name : List ℕ)
    (notes : ℕ) (E : List Event) : Type 0 where
  pub tracer : IsTracerOf t E
  pub list : List AcceptNote
  pub are_notes : AreNotes f.mask E list
  pub count : notes ≡ length list
  pub writes : Writes w (front (content_in f list []))
  pub held : IsHeld at files open_name (front (content_in f list []))

-- A recording before its first turn: for some scripts the world stands for no events, and the tracer was told of none.
pub record IsBegun {P M : Type 0} (stands_for : P → Standing) (world : Parts P M) (t : Tables) (w : TraceWriter)
    (files : Option Files) (open_name : List ℕ) : Type 0 where
  pub form : Form
  pub at : Place
  pub scripts : ℕ → Script
  pub mask : world.mask ≡ form.mask
  pub size : length world.processes ≡ form.n
  pub world_is : IsWorldOf stands_for world scripts []
  pub noted : IsNoted form at t w files open_name 0 []

-- The world stands for E, and the notes are those of E.
pub record IsAfter {P M : Type 0} (stands_for : P → Standing) (world : Parts P M) (s : ℕ → Script) (f : Form)
    (at : Place) (t : Tables) (w : TraceWriter) (files : Option Files) (open_name : List ℕ) (notes : ℕ)
    (E : List Event) : Type 0 where
  pub world_is : IsWorldOf stands_for world s E
  pub noted : IsNoted f at t w files open_name notes E

-- what was written is the front of the trace of E, with so many notes and lost letters
pub record IsWritten (f : Form) (at : Place) (w : TraceWriter) (files : Option Files) (open_name : List ℕ)
    (notes lost : ℕ) (E : List Event) : Type 0 where
  pub list : List AcceptNote
  pub names : List LetterId
  pub are_notes : AreNotes f.mask E list
  pub are_lost : AreLost f.mask E names
  pub notes_count : notes ≡ length list
  pub lost_count : lost ≡ length names
  pub writes : Writes w (front (content_in f list names))
  pub held : IsHeld at files open_name (front (content_in f list names))

-- the named file holds a front of these bytes, where files are told, and no other file changed
pub record HoldsFront (at : Place) (files : Option Files) (bytes : List ℕ) : Type 0 where
  pub many : ℕ
  pub within : many ≤ length bytes
  pub is : files ≡ holding at.start at.name (take many bytes)

-- and these are the front of the trace of E up to its notes
pub record IsCutInNotes (f : Form) (at : Place) (files : Option Files) (E : List Event) : Type 0 where
  pub list : List AcceptNote
  pub are_notes : AreNotes f.mask E list
  pub front_is : HoldsFront at files (front (content_in f list []))

-- and these are the front of the trace of E up to its end
pub record IsCutInLost (f : Form) (at : Place) (files : Option Files) (E : List Event) : Type 0 where
  pub list : List AcceptNote
  pub names : List LetterId
  pub are_notes : AreNotes f.mask E list
  pub are_lost : AreLost f.mask E names
  pub front_is : HoldsFront at files (front (content_in f list names))
