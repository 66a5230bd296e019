-- How far `soak` came.
use Rattle.std.specs.Prelude.{◌≡◌, ◌⊎◌, ℕ, ◌-◌, List, [], length, take, Some, ⊤}
use Rattle.std.specs.List.{concat}
use Rattle.std.specs.FinMap.{get}
use Rattle.nm_outside.specs.Files.{Files}
use Rattle.c_tree.specs.declared.program.Program.{Program}
use Rattle.c_tree.specs.Play.{script_of}
use Rattle.event_list.specs.Laws.{IsRecorded}
use Rattle.trace_file.specs.Content.{Content}
use Rattle.trace_file.specs.Bytes.{spelling}
use Rattle.c_process.specs.declared.process.CProc.{CProc}
use Rattle.recorder.specs.Recording.{IsContentOf}
use Rattle.recorder.specs.declared.recording.Recorded.{Recorded}
use Rattle.replay_core.specs.Gates.{seen_trace}
use Rattle.replay_core.specs.Replaying.{Replaying}
use Rattle.report.specs.Runs.{RunsProgram}
use Rattle.report.specs.Texts.{refusal_line}
use Rattle.nm_top.specs.declared.soak.TheConstants.{SOAK_PROCESSES, SOAK_TURNS}
use Rattle.nm_top.specs.declared.status.Status.TheVariants.{ProgramRefused}
use Rattle.nm_top.specs.declared.stop.Stop.{Stop}
use Rattle.nm_top.specs.declared.stop.Stop.TheVariants.{Refused, Memory}
use Rattle.nm_top.specs.Statuses.{status_of}
use Rattle.nm_top.specs.Demands.{OwnProgram}
use Rattle.nm_top.specs.Answers.{IsReason}
use Rattle.nm_top.specs.Soaking.{Soaks, SoakPrints, SoakStops, soak_run, soak_replay, soak_finished, soak_parts}
use Rattle.nm_top.specs.private.Works.{Work, Whole, Refusing, Short}
use Rattle.nm_top.specs.private.Replaying.{ReplaysProgram}

-- ---- what is made

-- why there is no program: its text is none, or there was want of memory
abbrev pub IsOwnStop : Stop → Type 0
IsOwnStop (Refused r) =
    (status_of r ≡ ProgramRefused) × ((files : Files) → IsReason OwnProgram files [] (refusal_line r))
IsOwnStop Memory = ⊤

-- the program was recorded under all turns that the seed gives, and this file has the trace
pub record HasSoaked {M : Type 0} (p : Program) (digest : List ℕ) (seed : ℕ) (r : Recorded CProc M) (name : List ℕ)
    (files : Files) : Type 0 where
  pub runs : RunsProgram r.world p (soak_run p seed)
  pub content : Content
  pub is_trace : IsContentOf (record { version = 1; mask = 0; n = SOAK_PROCESSES; digest = digest }) (soak_run p seed)
      content
  pub notes_are : r.notes ≡ length content.notes
  pub lost_are : r.lost ≡ length content.lost
  pub bytes_are : r.bytes ≡ length (spelling content)
  pub file : get files name ≡ Some (spelling content)

-- the trace is that of this recording
pub record IsOfRecording (p : Program) (t : Content) (seed : ℕ) : Type 0 where
  pub processes : t.n ≡ SOAK_PROCESSES
  pub recorded : IsRecorded (script_of p t.n) (seen_trace t) (soak_run p seed)

-- the replay by the turns of the next seed, of which so many made no event, was finished
pub record ReplaysSoaked {M : Type 0} (r : Replaying CProc M) (p : Program) (t : Content) (seed idle : ℕ) : Type 0 where
  pub replays : ReplaysProgram r p t (soak_finished p t seed).events
  pub idle_are : idle ≡ SOAK_TURNS - length (soak_replay p t seed)

-- ---- what is told

-- these parts were told, or the first of them where there was want of memory
abbrev pub IsUpTo : List (List ℕ) → Work → Type 0
IsUpTo parts (Whole text) = text ≡ concat parts
IsUpTo parts (Short text) = (many : ℕ) × (text ≡ concat (take many parts))
IsUpTo parts work = ⊥

-- behind the first line: nothing, or the parts, in which the trace of the recording is told
abbrev pub IsBehind : ℕ → Program → Work → Type 0
IsBehind seed p work = (work ≡ Short []) ⊎ ((t : Content) × Soaks seed p t × IsUpTo (soak_parts p t seed) work)

-- all of it was told; or its program is none; or there was want of memory, before anything was told or behind some
abbrev pub IsSoakWork : ℕ → Work → Type 0
IsSoakWork seed (Whole text) = SoakPrints seed text
IsSoakWork seed (Refusing r) =
    (status_of r ≡ ProgramRefused) × ((files : Files) → IsReason OwnProgram files [] (refusal_line r))
IsSoakWork seed (Short text) = (text ≡ []) ⊎ SoakStops seed text
IsSoakWork seed work = ⊥
