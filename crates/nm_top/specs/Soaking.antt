-- The command `soak`: a program of its own is run under turns that a seed gives, recorded, replayed under others,
-- finished and certified, all in memory.
use Rattle.std.specs.Prelude.{◌≡◌, ◌⊎◌, ℕ, ◌+◌, ◌-◌, ◌%◌, ◌^◌, List, [], ◌∷◌, ◌++◌, length, take}
use Rattle.std.specs.List.{concat}
use Rattle.sha2.specs.Sha256.{sha256}
use Rattle.c_tree.specs.declared.program.Program.{Program}
use Rattle.c_tree.specs.Play.{script_of}
use Rattle.schedules.specs.declared.schedule.Turn.{Turn}
use Rattle.schedules.specs.Generated.{generated_turns}
use Rattle.event_list.specs.declared.Event.{Event}
use Rattle.event_list.specs.Turns.{Finishing, finish_of}
use Rattle.trace_file.specs.Content.{Content}
use Rattle.trace_file.specs.Bytes.{spelling}
use Rattle.replay_core.specs.Gates.{seen_trace}
use Rattle.recorder.specs.Recording.{Form, IsContentOf}
use Rattle.report.specs.Texts.{soak_line, trace_line, turns_line, certificates_line}
use Rattle.report.specs.Runs.{summary_of}
use Rattle.nm_top.specs.declared.soak.TheConstants.{SOAK_PROCESSES, SOAK_TURNS}
use Rattle.nm_top.specs.SoakText.{soak_text}
use Rattle.nm_top.specs.Programs.{Reads}
use Rattle.nm_top.specs.Runs.{run_of_program}
use Rattle.nm_top.specs.Finishing.{replayed, entries_of}

-- ---- what is run

-- the turns that a seed gives
unfoldable pub soak_turns : ℕ → List Turn
soak_turns seed = generated_turns SOAK_PROCESSES seed SOAK_TURNS

-- the seed of the replay's turns
abbrev pub next_seed : ℕ → ℕ
next_seed seed = (seed + 1) % 2 ^ 32

-- the trace is of version 1, without ordered channels
abbrev pub soak_form : Form
soak_form = record { version = 1; mask = 0; n = SOAK_PROCESSES; digest = sha256 soak_text }

-- the run, its replay under the trace by other turns, and how that is finished
abbrev pub soak_run : Program → ℕ → List Event
soak_run p seed = run_of_program p SOAK_PROCESSES 0 (soak_turns seed)

abbrev pub soak_replay : Program → Content → ℕ → List Event
soak_replay p t seed = replayed p t (soak_turns (next_seed seed))

abbrev pub soak_finished : Program → Content → ℕ → Finishing
soak_finished p t seed = finish_of (script_of p t.n) (seen_trace t) (soak_replay p t seed)

-- ---- what is printed of it

abbrev pub begun_text : ℕ → List ℕ
begun_text seed = soak_line seed SOAK_PROCESSES SOAK_TURNS

-- the summary of the run, and the line of its trace
abbrev pub recorded_text : Program → Content → ℕ → List ℕ
recorded_text p t seed =
    summary_of (soak_run p seed) ++ trace_line (length t.notes) (length t.lost) (length (spelling t))

-- the summary of the finished replay, and how many turns there were before it was finished, and how many made no event
abbrev pub replayed_text : Program → Content → ℕ → List ℕ
replayed_text p t seed =
    summary_of (soak_finished p t seed).events ++ turns_line SOAK_TURNS (SOAK_TURNS - length (soak_replay p t seed))

-- behind the first line: what is printed of the recording, of the replay and of the certificates, of which there is one
-- for each letter that the trace names
abbrev pub soak_parts : Program → Content → ℕ → List (List ℕ)
soak_parts p t seed =
    recorded_text p t seed ∷ replayed_text p t seed ∷ certificates_line (length (entries_of t)) ∷ []

-- the program of the text, and the trace of its run
pub record Soaks (seed : ℕ) (p : Program) (t : Content) : Type 0 where
  pub has_program : Reads soak_text p
  pub is_trace : IsContentOf soak_form (soak_run p seed) t

-- All of it is printed.
pub record SoakPrints (seed : ℕ) (printed : List ℕ) : Type 0 where
  pub of_program : Program
  pub content : Content
  pub has : Soaks seed of_program content
  pub is : printed ≡ begun_text seed ++ concat (soak_parts of_program content seed)

-- There was want of memory, behind the first line and so many of the other parts.
pub record SoakHalts (seed : ℕ) (printed : List ℕ) : Type 0 where
  pub of_program : Program
  pub content : Content
  pub has : Soaks seed of_program content
  pub many : ℕ
  pub is : printed ≡ begun_text seed ++ concat (take many (soak_parts of_program content seed))

-- There was want of memory, in the recording or behind it.
abbrev pub SoakStops : ℕ → List ℕ → Type 0
SoakStops seed printed = (printed ≡ begun_text seed) ⊎ SoakHalts seed printed
