-- What a debugger reads of a process of a program after so many events, in which it accepted these letters.
use Rattle.std.specs.Prelude.{ℕ, List, [], ◌∷◌, map, length, Option, Some, None, Result, Ok, Err}
use Rattle.nm_base.specs.declared.kind.Kind.TheVariants.{Line}
use Rattle.nm_base.specs.Message.{Message}
use Rattle.nm_base.specs.Scripts.{Next, Goes}
use Rattle.c_tree.specs.declared.program.Program.{Program}
use Rattle.c_tree.specs.State.{Frame}
use Rattle.c_tree.specs.Play.{play_setting, next}
use Rattle.c_tree.specs.NameLookup.{NoName, NeedsIndex, NoIndex, Sees, in_globals, seen_of, value_named}
use Rattle.c_tree.specs.NameLookup as meaning
use Rattle.proc_machine.specs.Machines.{frames_of}
use Rattle.c_process.specs.declared.answers.Seen.{Seen}
use Rattle.c_process.specs.declared.answers.LookFault.{LookFault}
use Rattle.c_process.specs.declared.answers.LookFault.TheVariants as fault
use Rattle.c_process.specs.declared.answers.FrameSeen.{FrameSeen}
use Rattle.c_process.specs.declared.process.CProc.{CProc}
use Rattle.c_process.specs.Shown.{played_after, line_after}

-- a value, or why there is none
abbrev pub answered : meaning.Seen → Result Seen LookFault
answered NoName = Err fault.NoName
answered NeedsIndex = Err fault.NeedsIndex
answered NoIndex = Err fault.NoIndex
answered (Sees bits of) = Ok (record { bits = bits; of = of })

-- the line of the next event where that is a Line
abbrev pub line_to_come : Next → Option ℕ
line_to_come (Goes (Line line)) = Some line
line_to_come next = None

-- an outer frame, at the line of its last Line event
abbrev pub outer_seen : Frame → FrameSeen
outer_seen f = record { function = f.function; line = f.line }

-- frames, the innermost at this line
abbrev pub frames_at : ℕ → List Frame → List FrameSeen
frames_at line [] = []
frames_at line (f ∷ fs) = record { function = f.function; line = line } ∷ map outer_seen fs

-- how many frames a process shows
abbrev pub frame_number : CProc → ℕ
frame_number x = length (frames_of x.machine.value)

module _ (p : Program) (n me : ℕ) (letters : List Message) (k : ℕ) where
  abbrev pub next_line_after : Option ℕ
  next_line_after = line_to_come (next (play_setting p n me) letters k)

  -- the innermost first
  abbrev pub frames_after : List FrameSeen
  frames_after = frames_at (line_after p n me letters k) (played_after p n me letters k).state.frames

  -- what a name stands for in the innermost frame: in its blocks, the innermost first, then among its parameters, then
  -- among the globals
  abbrev pub value_after : List ℕ → Option ℕ → meaning.Seen
  value_after name index = value_named (play_setting p n me) (played_after p n me letters k).state name index

  -- and among the globals alone
  abbrev pub global_after : List ℕ → Option ℕ → meaning.Seen
  global_after name index =
      seen_of (play_setting p n me) (played_after p n me letters k).state (in_globals name 0 p.globals) index
