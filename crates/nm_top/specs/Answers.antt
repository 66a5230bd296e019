-- The answer to the words of the command line.
use Rattle.std.specs.Prelude.{◌≡◌, ◌≢◌, ◌⊎◌, ℕ, List, [], ◌∷◌, ◌++◌, MatchOption, IfSome, IsSomeAnd, Option, Some, None, ⊤, true, false, slice_index, if◌then◌else◌}
use Rattle.std.specs.Option.{option_and_then}
use Rattle.nm_base.specs.declared.letter.LetterId.{LetterId}
use Rattle.nm_outside.specs.Files.{Files}
use Rattle.c_tree.specs.declared.program.Program.{Program}
use Rattle.event_list.specs.Events.{count}
use Rattle.event_list.specs.Turns.{all_reached}
use Rattle.trace_file.specs.Content.{Content, count_of}
use Rattle.trace_file.specs.Names.{name_of}
use Rattle.trace_file.specs.Reading.{Damage}
use Rattle.trace_file.specs.Outcomes.{IsDamage}
use Rattle.cut_witness.specs.declared.comparisons.Compared.TheVariants.{Differs}
use Rattle.cut_witness.specs.Comparisons.{IsCompared}
use Rattle.replay_core.specs.Gates.{seen_trace}
use Rattle.report.specs.Texts.{
  usage_line,
  absent_line,
  read_fault_line,
  too_long_line,
  program_refused_line,
  schedule_refused_line,
  trace_damaged_line,
  other_program_line,
  stuck_line,
  not_its_trace_line,
  refusal_line,
}
use Rattle.report.specs.declared.cause.Refusal.{Refusal}
use Rattle.report.specs.declared.cause.Refusal.TheVariants as refusals
use Rattle.nm_top.specs.Statuses.{status_of}
use Rattle.nm_top.specs.declared.status.Status.{Status}
use Rattle.nm_top.specs.declared.status.Status.TheVariants.{Done, Usage, Absent, ReadFault, TooLong, ProgramRefused, WantOfMemory}
use Rattle.nm_top.specs.declared.status.Status.TheVariants as statuses
use Rattle.nm_top.specs.Commands.{Command, Run, Record, Replay, Finish, Certify, Debug, Upgrade, Soak, command_of}
use Rattle.nm_top.specs.Programs.{Cause, Reads, RefusedFor}
use Rattle.nm_top.specs.Schedules.{BadPlace, IsFirstBad}
use Rattle.nm_top.specs.Demands.{
  Demand,
  ProgramText,
  ScheduleText,
  TraceText,
  SameProgram,
  TraceSchedule,
  Finishes,
  Matches,
  OwnProgram,
  fetch_of,
  Admits,
  refusal_of,
  IsMissing,
  IsPastLimit,
  Holds,
  HasTrace,
  HasDigest,
  AreReplayed,
  IsMet,
  AreMet,
  FirstFailsAs,
  IsFetched,
}
use Rattle.nm_top.specs.Finishing.{finished}
use Rattle.nm_top.specs.Replies.{Reply, reply, Says}
use Rattle.nm_top.specs.Watches.{Call}
use Rattle.nm_top.specs.Runs.{run_demands, RunPrints}
use Rattle.nm_top.specs.Recordings.{ToRecord, RecordDoes, RecordStops, RecordBreaks, RecordFits}
use Rattle.nm_top.specs.Replays.{ReplayPrints, FinishPrints}
use Rattle.nm_top.specs.Certifying.{CertifyPrints, CertifyStops}
use Rattle.nm_top.specs.declared.talk.End.{End}
use Rattle.nm_top.specs.declared.talk.End.TheVariants.{Over, InputFault, InputFull}
use Rattle.nm_top.specs.Debugging.{passes_limit}
use Rattle.nm_top.specs.Debugs.{Debugs, DebugStops}
use Rattle.nm_top.specs.Upgrades.{UpgradeDoes, UpgradeBreaks, UpgradeFits}
use Rattle.nm_top.specs.SoakText.{soak_text}
use Rattle.nm_top.specs.Soaking.{SoakPrints, SoakStops}

-- ---- commands

-- a program, and a trace with its digest
abbrev pub pair_demands : List ℕ → List ℕ → List Demand
pair_demands program trace = ProgramText program ∷ TraceText trace ∷ SameProgram program trace ∷ []

-- what a command demands, in the order of refusals
abbrev pub demands_of : Command → List Demand
demands_of (Run program n schedule mask) = run_demands program n schedule
demands_of (Record program n schedule trace version mask) = run_demands program n schedule
demands_of (Replay program trace schedule) = pair_demands program trace ++ TraceSchedule trace schedule ∷ []
demands_of (Finish program trace) = pair_demands program trace ++ Finishes program trace ∷ []
demands_of (Certify program trace) =
    pair_demands program trace ++ Finishes program trace ∷ Matches program trace ∷ []
demands_of (Debug program trace) = pair_demands program trace
demands_of (Upgrade trace new) = TraceText trace ∷ []
demands_of (Soak seed) = OwnProgram ∷ []

abbrev pub to_record : List ℕ → ℕ → List ℕ → List ℕ → ℕ → ℕ → ToRecord
to_record program n schedule trace version mask =
    record { program = program; n = n; schedule = schedule; trace = trace; version = version; mask = mask }

-- what it prints, and what it leaves, where all that is met
abbrev pub Carried : Call → Command → Files → List ℕ → Files → Type 0
Carried x (Run program n schedule mask) files printed left =
    RunPrints program n schedule mask files printed × (left ≡ files)
Carried x (Record program n schedule trace version mask) files printed left =
    RecordDoes (to_record program n schedule trace version mask) files printed left
Carried x (Replay program trace schedule) files printed left =
    ReplayPrints x.watchers program trace schedule files printed × (left ≡ files)
Carried x (Finish program trace) files printed left = FinishPrints x.watchers program trace files printed
    × (left ≡ files)
Carried x (Certify program trace) files printed left = CertifyPrints program trace files printed × (left ≡ files)
Carried x (Debug program trace) files printed left = Debugs x program trace Over files printed × (left ≡ files)
Carried x (Upgrade trace new) files printed left = UpgradeDoes trace new files printed left
Carried x (Soak seed) files printed left = SoakPrints seed printed × (left ≡ files)

-- what was done before there was want of memory: nothing; or the turns of a recording, the first certificates, or the
-- replies to the first lines; or the first parts of what `soak` prints
abbrev pub StopsEarly : Call → Command → Files → List ℕ → Files → Type 0
StopsEarly x (Record program n schedule trace version mask) files printed left =
    RecordStops (to_record program n schedule trace version mask) files printed left
StopsEarly x (Certify program trace) files printed left = CertifyStops program trace files printed × (left ≡ files)
StopsEarly x (Debug program trace) files printed left =
    DebugStops x program trace files printed × (left ≡ files)
StopsEarly x (Soak seed) files printed left = SoakStops seed printed × (left ≡ files)
StopsEarly x command files printed left = ⊥

abbrev pub RunsShort : Call → Command → Files → List ℕ → Files → Type 0
RunsShort x command files printed left =
    ((printed ≡ []) × (left ≡ files)) ⊎ StopsEarly x command files printed left

-- the file that it writes, if it writes one
abbrev pub written_of : Command → Option (List ℕ)
written_of (Record program n schedule trace version mask) = Some trace
written_of (Upgrade trace new) = Some new
written_of command = None

-- how a failed write to that file may leave the files
abbrev pub IsBroken : Command → Files → Files → Type 0
IsBroken (Record program n schedule trace version mask) files left =
    RecordBreaks (to_record program n schedule trace version mask) files left
IsBroken (Upgrade trace new) files left = UpgradeBreaks trace new files left
IsBroken command files left = ⊥

-- how many bytes of room are enough for that file
abbrev pub IsEnough : Command → Files → ℕ → Type 0
IsEnough (Record program n schedule trace version mask) files room =
    RecordFits (to_record program n schedule trace version mask) files room
IsEnough (Upgrade trace new) files room = UpgradeFits trace files room
IsEnough command files room = ⊥

-- ---- refusals

-- the digest of the program file, which isn't that in the trace
pub record IsOther (files : Files) (program trace : List ℕ) (line : List ℕ) : Type 0 where
  pub content : Content
  pub digest : List ℕ
  pub has : HasDigest files program trace content digest
  pub differs : content.digest ≢ digest
  pub is : line ≡ other_program_line content.digest digest

-- the schedule's first bad word, for as many processes as the trace has
pub record IsBadFor (files : Files) (trace text line : List ℕ) : Type 0 where
  pub content : Content
  pub has_trace : HasTrace files trace content
  pub bad : BadPlace
  pub is_first : IsFirstBad content.n text bad
  pub is : line ≡ schedule_refused_line bad.kind bad.place

-- a process is below its recorded count where finishing ends; the line has each process's number of events, and the
-- recorded one
pub record IsStuckAt (files : Files) (program trace line : List ℕ) : Type 0 where
  pub of_program : Program
  pub content : Content
  pub has : AreReplayed files program trace of_program content
  pub below : all_reached (seen_trace content) (finished of_program content).events ≡ false
  pub events : List ℕ
  pub counts : List ℕ
  pub events_are : (p : ℕ) → slice_index events p ≡ count (finished of_program content).events p
  pub counts_are : (p : ℕ) → slice_index counts p ≡ count_of content p
  pub is : line ≡ stuck_line content.n events counts

-- the first letter that the trace names and the finished replay doesn't log, or else that this logs and the trace
-- doesn't name
pub record IsNotIts (files : Files) (program trace line : List ℕ) : Type 0 where
  pub of_program : Program
  pub content : Content
  pub has : AreReplayed files program trace of_program content
  pub first : LetterId
  pub is_first : IsCompared content.mask content.notes content.lost (finished of_program content).events (Differs first)
  pub is : line ≡ not_its_trace_line first

-- the line that tells why a demand isn't met: for a program a rule that its text breaks, for a schedule its first bad
-- word, for a trace its damage
abbrev pub IsReason : Demand → Files → List ℕ → List ℕ → Type 0
IsReason (ProgramText name) files text line =
    (why : Cause) × RefusedFor text why × (line ≡ program_refused_line why.kind why.line)
IsReason (ScheduleText name n) files text line =
    (bad : BadPlace) × IsFirstBad n text bad × (line ≡ schedule_refused_line bad.kind bad.place)
IsReason (TraceText name) files text line =
    (d : Damage) × IsDamage text d × (line ≡ trace_damaged_line (name_of d.0) d.1)
IsReason (SameProgram program trace) files text line = IsOther files program trace line
IsReason (TraceSchedule trace name) files text line = IsBadFor files trace text line
IsReason (Finishes program trace) files text line = IsStuckAt files program trace line
IsReason (Matches program trace) files text line = IsNotIts files program trace line
IsReason OwnProgram files text line =
    (why : Cause) × RefusedFor soak_text why × (line ≡ program_refused_line why.kind why.line)

-- The demand isn't met, and that is the reply.
pub data Refuses (demand : Demand) (files : Files) (r : Reply) : Type 0 where
  missing : IsSomeAnd (fetch_of demand)
      (λ fetch. IsMissing files fetch × Says files Absent (absent_line fetch.name) r)
      → Refuses demand files r
  too_long : IsSomeAnd (fetch_of demand)
      (λ fetch. IsPastLimit files fetch × Says files TooLong (too_long_line fetch.name) r)
      → Refuses demand files r
  refused : (line : List ℕ) → Holds demand (λ bytes. (Admits demand files bytes → ⊥) × IsReason demand files bytes line)
      files → Says files (refusal_of demand) line r → Refuses demand files r

-- The read of the file that it fetches fails, and that is the reply.
abbrev pub FailsToRead : Demand → Files → Reply → Type 0
FailsToRead demand files r =
    IsSomeAnd (fetch_of demand) (λ fetch. Says files ReadFault (read_fault_line fetch.name) r)

-- The reply to demands, in their order: that to the first which isn't met or whose file can't be read, or a reply of
-- which this holds, where all are met.
abbrev pub Demanding : List Demand → (Reply → Type 0) → Files → Reply → Type 0
Demanding [] done files r = done r
Demanding (demand ∷ demands) done files r =
    FailsToRead demand files r
    ⊎ (Refuses demand files r ⊎ (IsMet demand files × Demanding demands done files r))

-- ---- answers

-- a command is done
abbrev pub IsDone : Call → Command → Files → Reply → Type 0
IsDone x command files r =
    (printed : List ℕ) × (left : Files) × Carried x command files printed left × (r ≡ reply Done printed left)

-- memory was refused
abbrev pub IsShort : Call → Command → Files → Reply → Type 0
IsShort x command files r =
    (printed : List ℕ) × (left : Files) × RunsShort x command files printed left × (r ≡ reply WantOfMemory printed left)

-- The input of a debugger failed, or is too long: the replies to the lines before that are printed, and its line.
pub record IsEnded (x : Call) (program trace : List ℕ) (end : End) (refusal : Refusal) (files : Files) (r : Reply)
    : Type 0 where
  pub replies : List ℕ
  pub debugs : Debugs x program trace end files replies
  pub is : r ≡ reply (status_of refusal) (replies ++ refusal_line refusal) files

abbrev pub EndsBehind : Call → Command → Files → Reply → Type 0
EndsBehind x (Debug program trace) files r =
    IsEnded x program trace InputFault refusals.InputFault files r
    ⊎ IsEnded x program trace InputFull refusals.InputFull files r
EndsBehind x command files r = ⊥

-- the answer to a command that is given this
abbrev pub CommandAnswer : Call → Command → Files → Reply → Type 0
CommandAnswer x command files r =
    Demanding (demands_of command) (IsDone x command files) files r ⊎ (IsShort x command files r
    ⊎ EndsBehind x command files r)

-- the answer to words
abbrev pub Answer : Call → List (List ℕ) → Files → Reply → Type 0
Answer x words files r =
    MatchOption (command_of words) (Says files Usage usage_line r) (λ command. CommandAnswer x command files r)

-- The words name a command, a write of which may leave the files so where it fails.
abbrev pub MayBreak : List (List ℕ) → Files → Files → Type 0
MayBreak words files left = IsSomeAnd (command_of words) (λ command. IsBroken command files left)

-- The words name a command, and the first of its demands that isn't met has this status.
abbrev pub Due : Status → List (List ℕ) → Files → Type 0
Due status words files = IsSomeAnd (command_of words) (λ command. FirstFailsAs status (demands_of command) files)

-- The words name a command, and each of its demands is met.
abbrev pub Ready : List (List ℕ) → Files → Type 0
Ready words files = IsSomeAnd (command_of words) (λ command. AreMet (demands_of command) files)

-- what a debugger of n processes ends with: it finds the input full exactly when that passes its limit
abbrev pub InputEnd : ℕ → Option (List ℕ) → Status → Type 0
InputEnd n None status = (status ≡ Done) ⊎ (status ≡ statuses.InputFull)
InputEnd n (Some input) status = status ≡ (if passes_limit n input then statuses.InputFull else Done)

-- what a command whose demands are met ends with
abbrev pub IsEnd : Call → Files → Command → Status → Type 0
IsEnd x files (Debug program trace) status = (t : Content) × HasTrace files trace t × InputEnd t.n x.input status
IsEnd x files command status = status ≡ Done

abbrev pub EndsWith : Call → List (List ℕ) → Files → Status → Type 0
EndsWith x words files status = IsSomeAnd (command_of words) (λ command. IsEnd x files command status)

-- It is a debugger's, and the input passes its limit.
abbrev pub IsOverfull : Command → Files → List ℕ → Type 0
IsOverfull (Debug program trace) files input = (t : Content) × HasTrace files trace t × (passes_limit t.n input ≡ true)
IsOverfull command files input = ⊥

abbrev pub Overfills : List (List ℕ) → Files → List ℕ → Type 0
Overfills words files input = IsSomeAnd (command_of words) (λ command. IsOverfull command files input)

-- The words name a command that fetches this file.
abbrev pub Fetches : List (List ℕ) → List ℕ → Type 0
Fetches words name = IsSomeAnd (command_of words) (λ command. IsFetched (demands_of command) name)

-- the file that the words have written, if they have one written
abbrev pub written_by : List (List ℕ) → Option (List ℕ)
written_by words = option_and_then written_of (command_of words)

-- The words name a command for whose file this room is enough.
abbrev pub Suffices : List (List ℕ) → Files → ℕ → Type 0
Suffices words files room = IsSomeAnd (command_of words) (λ command. IsEnough command files room)

-- Where `soak` ends with the status of a refused program, its own text is that of none.
abbrev pub IsOwnRefusal : Command → Status → Type 0
IsOwnRefusal (Soak seed) status = status ≡ ProgramRefused → (p : Program) → Reads soak_text p → ⊥
IsOwnRefusal command status = ⊤

-- The words name no command, or one of which that holds.
abbrev pub RefusesOwn : List (List ℕ) → Status → Type 0
RefusesOwn words status = IfSome (command_of words) (λ command. IsOwnRefusal command status)
