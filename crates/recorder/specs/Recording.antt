-- What a recording leaves: the content of a run's trace, in a file.
use Rattle.std.specs.Prelude.{◌≡◌, ℕ, List, length, take, Option, option_map}
use Rattle.std.specs.FinMap.{insert}
use Rattle.nm_outside.specs.Files.{Files}
use Rattle.schedules.specs.declared.schedule.Turn.{Turn}
use Rattle.event_list.specs.declared.Event.{Event}
use Rattle.event_list.specs.Turns as turns
use Rattle.event_list.specs.Traces.{Trace, IsTraceOf}
use Rattle.trace_file.specs.Content.{Content, count_of}
use Rattle.trace_file.specs.Bytes.{spelling}

-- a turn of a schedule, as a run sees it
abbrev pub seen_turn : Turn → turns.Turn
seen_turn t = record { proc = t.proc.no; pick = t.pick }

-- the trace that a file with this content tells
abbrev pub trace_of : Content → Trace
trace_of t =
    record { version = t.version; mask = t.mask; n = t.n; notes = t.notes; lost = t.lost; counts = count_of t }

-- what is known of a trace before its run: its version, the ordered channels, the number of processes, and the digest
-- of the program file
pub record Form : Type 0 where
  pub version : ℕ
  pub mask : ℕ
  pub n : ℕ
  pub digest : List ℕ

abbrev pub form_of : Content → Form
form_of t = record { version = t.version; mask = t.mask; n = t.n; digest = t.digest }

-- t is the content of the trace of E in this form, with a count for each of its processes
pub record IsContentOf (f : Form) (E : List Event) (t : Content) : Type 0 where
  pub form : form_of t ≡ f
  pub trace : IsTraceOf E (trace_of t)
  pub each : length t.counts ≡ t.n

-- the files with these bytes in the named one, where they are told
abbrev pub holding : Option Files → List ℕ → List ℕ → Option Files
holding files name bytes = option_map (λ fs. insert fs name bytes) files

-- The trace of E was written: the named file is its spelling, where the files are told, and no other file changed. It
-- has so many notes, lost letters and bytes.
pub record IsRecorded (f : Form) (E : List Event) (name : List ℕ) (old new : Option Files) (notes lost bytes : ℕ)
    : Type 0 where
  pub content : Content
  pub is : IsContentOf f E content
  pub notes_are : notes ≡ length content.notes
  pub lost_are : lost ≡ length content.lost
  pub bytes_are : bytes ≡ length (spelling content)
  pub file : new ≡ holding old name (spelling content)

-- The named file is a front of the bytes of the trace of E, where the files are told, and no other file changed.
pub record IsFrontOf (f : Form) (E : List Event) (name : List ℕ) (old new : Option Files) : Type 0 where
  pub content : Content
  pub is : IsContentOf f E content
  pub many : ℕ
  pub file : new ≡ holding old name (take many (spelling content))
