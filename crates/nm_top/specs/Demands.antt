-- What a command demands of the files, one thing after the other in the order of refusals.
use Rattle.std.specs.Prelude.{◌≡◌, ◌⊎◌, ℕ, ◌≤◌, ◌<◌, length, List, [], ◌∷◌, Option, Some, None, IsNone, IsSomeAnd, MatchOption, true, ⊤}
use Rattle.std.specs.FinMap.{get}
use Rattle.sha2.specs.Sha256.{sha256}
use Rattle.nm_base.specs.declared.limits.TheConstants.{MAX_PROGRAM_BYTES, MAX_SCHEDULE_BYTES, MAX_TRACE_BYTES}
use Rattle.nm_outside.specs.Files.{Files}
use Rattle.c_tree.specs.declared.program.Program.{Program}
use Rattle.schedules.specs.declared.schedule.Turn.{Turn}
use Rattle.event_list.specs.Turns.{all_reached}
use Rattle.trace_file.specs.Content.{Content}
use Rattle.trace_file.specs.Outcomes.{IsSpelling}
use Rattle.cut_witness.specs.Comparisons.{HasEntries}
use Rattle.replay_core.specs.Gates.{seen_trace}
use Rattle.nm_top.specs.declared.status.Status.{Status}
use Rattle.nm_top.specs.declared.status.Status.TheVariants.{
  Absent,
  TooLong,
  ProgramRefused,
  ScheduleRefused,
  TraceDamaged,
  OtherProgram,
  Stuck,
  NotItsTrace,
}
use Rattle.nm_top.specs.Programs.{Reads}
use Rattle.nm_top.specs.Schedules.{IsSchedule}
use Rattle.nm_top.specs.Finishing.{finished}
use Rattle.nm_top.specs.SoakText.{soak_text}

pub data Demand : Type 0 where
  -- the file of this name has the text of a program
  ProgramText : List ℕ → Demand
  -- the file of this name has the text of a schedule for so many processes
  ScheduleText : List ℕ → ℕ → Demand
  -- the file of this name has the bytes of a trace
  TraceText : List ℕ → Demand
  -- the trace in the second file has the digest of the program file, which is the first
  SameProgram : List ℕ → List ℕ → Demand
  -- the second file has the text of a schedule for as many processes as the trace in the first has
  TraceSchedule : List ℕ → List ℕ → Demand
  -- the replay of the program in the first file, under the trace in the second, reaches all recorded counts when it is
  -- finished
  Finishes : List ℕ → List ℕ → Demand
  -- the finished replay has the entries of the trace
  Matches : List ℕ → List ℕ → Demand
  -- the program that `soak` runs is one
  OwnProgram : Demand

-- a file that is fetched, and how many bytes it may have
pub record Fetch : Type 0 where
  pub name : List ℕ
  pub limit : ℕ

abbrev pub program_file : List ℕ → Fetch
program_file name = record { name = name; limit = MAX_PROGRAM_BYTES }

abbrev pub schedule_file : List ℕ → Fetch
schedule_file name = record { name = name; limit = MAX_SCHEDULE_BYTES }

abbrev pub trace_file : List ℕ → Fetch
trace_file name = record { name = name; limit = MAX_TRACE_BYTES }

-- The file is there, within its limit, and this holds of its bytes.
abbrev pub HoldsIn : Files → (List ℕ → Type 0) → Fetch → Type 0
HoldsIn files P fetch = IsSomeAnd (get files fetch.name) (λ bytes. (length bytes ≤ fetch.limit) × P bytes)

-- the file has the bytes of this trace
abbrev pub HasTrace : Files → List ℕ → Content → Type 0
HasTrace files name t = HoldsIn files (λ bytes. IsSpelling t bytes) (trace_file name)

-- the two files have the text of this program, and the bytes of this trace with the digest of that text
pub record AreReplayed (files : Files) (program trace : List ℕ) (p : Program) (t : Content) : Type 0 where
  pub has_program : HoldsIn files (λ text. Reads text p × (t.digest ≡ sha256 text)) (program_file program)
  pub has_trace : HasTrace files trace t

-- the file that a demand fetches, if it fetches one
abbrev pub fetch_of : Demand → Option Fetch
fetch_of (ProgramText name) = Some (program_file name)
fetch_of (ScheduleText name n) = Some (schedule_file name)
fetch_of (TraceText name) = Some (trace_file name)
fetch_of (SameProgram program trace) = None
fetch_of (TraceSchedule trace name) = Some (schedule_file name)
fetch_of (Finishes program trace) = None
fetch_of (Matches program trace) = None
fetch_of OwnProgram = None

-- the trace in the second file has the digest of the first
pub record HasDigest (files : Files) (program trace : List ℕ) (t : Content) (digest : List ℕ) : Type 0 where
  pub has_trace : HasTrace files trace t
  pub of_file : HoldsIn files (λ text. digest ≡ sha256 text) (program_file program)

-- what is demanded of the files, and of the bytes of the one that is fetched
abbrev pub Admits : Demand → Files → List ℕ → Type 0
Admits (ProgramText name) files text = (p : Program) × Reads text p
Admits (ScheduleText name n) files text = (turns : List Turn) × IsSchedule n text turns
Admits (TraceText name) files text = (t : Content) × IsSpelling t text
Admits (SameProgram program trace) files text = (t : Content) × HasDigest files program trace t t.digest
Admits (TraceSchedule trace name) files text =
    (t : Content) × (turns : List Turn) × HasTrace files trace t × IsSchedule t.n text turns
Admits (Finishes program trace) files text =
    (p : Program) × (t : Content) × AreReplayed files program trace p t
    × (all_reached (seen_trace t) (finished p t).events ≡ true)
Admits (Matches program trace) files text =
    (p : Program) × (t : Content) × AreReplayed files program trace p t
    × HasEntries t.mask t.notes t.lost (finished p t).events
Admits OwnProgram files text = (p : Program) × Reads soak_text p

-- the status of a demand whose file is there and that isn't met
abbrev pub refusal_of : Demand → Status
refusal_of (ProgramText name) = ProgramRefused
refusal_of (ScheduleText name n) = ScheduleRefused
refusal_of (TraceText name) = TraceDamaged
refusal_of (SameProgram program trace) = OtherProgram
refusal_of (TraceSchedule trace name) = ScheduleRefused
refusal_of (Finishes program trace) = Stuck
refusal_of (Matches program trace) = NotItsTrace
refusal_of OwnProgram = ProgramRefused

-- It isn't there.
abbrev pub IsMissing : Files → Fetch → Type 0
IsMissing files fetch = IsNone (get files fetch.name)

-- It is there and passes its limit.
abbrev pub IsPastLimit : Files → Fetch → Type 0
IsPastLimit files fetch = IsSomeAnd (get files fetch.name) (λ bytes. fetch.limit < length bytes)

-- This holds of the bytes of the demand's file, which is there and within its limit, and of no bytes where it fetches
-- none.
abbrev pub Holds : Demand → (List ℕ → Type 0) → Files → Type 0
Holds demand P files = MatchOption (fetch_of demand) (P []) (HoldsIn files P)

abbrev pub IsMet : Demand → Files → Type 0
IsMet demand files = Holds demand (Admits demand files) files

-- The demand isn't met, which has this status.
pub data FailsAs (status : Status) (demand : Demand) (files : Files) : Type 0 where
  missing : status ≡ Absent → IsSomeAnd (fetch_of demand) (IsMissing files) → FailsAs status demand files
  too_long : status ≡ TooLong → IsSomeAnd (fetch_of demand) (IsPastLimit files) → FailsAs status demand files
  refused : status ≡ refusal_of demand → Holds demand (λ bytes. Admits demand files bytes → ⊥) files
      → FailsAs status demand files

-- Each demand is met.
abbrev pub AreMet : List Demand → Files → Type 0
AreMet [] files = ⊤
AreMet (demand ∷ demands) files = IsMet demand files × AreMet demands files

-- The first demand that isn't met has this status.
abbrev pub FirstFailsAs : Status → List Demand → Files → Type 0
FirstFailsAs status [] files = ⊥
FirstFailsAs status (demand ∷ demands) files =
    FailsAs status demand files ⊎ (IsMet demand files × FirstFailsAs status demands files)

-- One of the demands fetches the file of this name.
abbrev pub IsFetched : List Demand → List ℕ → Type 0
IsFetched [] name = ⊥
IsFetched (demand ∷ demands) name = IsSomeAnd (fetch_of demand) (λ fetch. name ≡ fetch.name) ⊎ IsFetched demands name
