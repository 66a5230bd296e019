-- What stops a command, what a part of its work gives, and what is told of the whole.
use Rattle.std.specs.Prelude.{◌≡◌, ◌⊎◌, ℕ, List, [], ◌++◌, Bool, true, false, Result, Ok, Err, Option, Some, IfSome, ⊤}
use Rattle.std.specs.Io.KnownBytes.{Appends}
use Rattle.nm_outside.specs.Causes.{Rose, BelongsTo}
use Rattle.nm_outside.specs.Files.{Files, AppendsPart}
use Rattle.report.specs.declared.cause.Refusal.{Refusal}
use Rattle.report.specs.declared.cause.Refusal.TheVariants as refusals
use Rattle.report.specs.Texts.{refusal_line}
use Rattle.nm_top.specs.declared.status.Status.{Status}
use Rattle.nm_top.specs.declared.status.Status.TheVariants as statuses
use Rattle.nm_top.specs.declared.stop.Stop.{Stop}
use Rattle.nm_top.specs.declared.stop.Stop.TheVariants.{Refused, Memory}
use Rattle.nm_top.specs.Commands.{Command, Debug}
use Rattle.nm_top.specs.Statuses.{status_of, IsOf, IsOfInput}
use Rattle.nm_top.specs.Replies.{Reply, reply, KeepsOthers}
use Rattle.nm_top.specs.Demands.{Demand, Fetch, IsMissing, IsPastLimit, IsFetched, refusal_of}
use Rattle.nm_top.specs.Answers.{CommandAnswer, Demanding, IsReason, IsBroken, IsEnough, demands_of, written_of}
use Rattle.nm_top.specs.Lines.{MayStopAt}
use Rattle.nm_top.specs.Watches.{Call}

-- ---- what stops a command

-- the status of what stopped a command, and its line
abbrev pub stop_status : Stop → Status
stop_status (Refused r) = status_of r
stop_status Memory = statuses.WantOfMemory

-- What stopped it is a reply that is allowed, unless it is want of memory.
abbrev pub Stops : (Reply → Type 0) → Files → Stop → Type 0
Stops allowed files (Refused r) = allowed (reply (status_of r) (refusal_line r) files)
Stops allowed files Memory = ⊤

-- why a file wasn't fetched: it isn't there, it passes its limit, or its read failed
abbrev pub IsUnfetched : Files → Fetch → Stop → Type 0
IsUnfetched files fetch (Refused (refusals.Absent name)) = (name.now ≡ fetch.name) × IsMissing files fetch
IsUnfetched files fetch (Refused (refusals.ReadFault name)) = name.now ≡ fetch.name
IsUnfetched files fetch (Refused (refusals.TooLong name)) = (name.now ≡ fetch.name) × IsPastLimit files fetch
IsUnfetched files fetch (Refused r) = ⊥
IsUnfetched files fetch Memory = ⊤

-- why the bytes of its file don't meet a demand
abbrev pub IsUnmet : Demand → Files → List ℕ → Stop → Type 0
IsUnmet demand files text (Refused r) =
    (status_of r ≡ refusal_of demand) × IsReason demand files text (refusal_line r)
IsUnmet demand files text Memory = ⊤

-- It comes from what files hold and not from reading them.
abbrev pub IsOfText : Stop → Type 0
IsOfText (Refused (refusals.ProgramRefused kind line)) = ⊤
IsOfText (Refused (refusals.ScheduleRefused kind place)) = ⊤
IsOfText (Refused (refusals.TraceDamaged kind place)) = ⊤
IsOfText (Refused (refusals.OtherProgram of_trace of_file)) = ⊤
IsOfText (Refused (refusals.Stuck n events counts)) = ⊤
IsOfText (Refused (refusals.NotItsTrace letter)) = ⊤
IsOfText (Refused r) = ⊥
IsOfText Memory = ⊤

-- ---- what a part of the work gives

-- whether the status is that of an absent file, or of a read that failed
abbrev pub is_absence : Status → Bool
is_absence statuses.Absent = true
is_absence status = false

abbrev pub is_fault : Status → Bool
is_fault statuses.ReadFault = true
is_fault status = false

abbrev pub is_absent_work : {X : Type 0} → Result X Stop → Bool
is_absent_work (Ok x) = false
is_absent_work (Err stop) = is_absence (stop_status stop)

abbrev pub is_failed_work : {X : Type 0} → Result X Stop → Bool
is_failed_work (Ok x) = false
is_failed_work (Err stop) = is_fault (stop_status stop)

-- What stopped it names no file, or one of which this holds.
abbrev pub StopBlames : (List ℕ → Type 0) → Stop → Type 0
StopBlames P (Refused r) = IsOf P r
StopBlames P Memory = ⊤

abbrev pub Blames : {X : Type 0} → (List ℕ → Type 0) → Result X Stop → Type 0
Blames P (Ok x) = ⊤
Blames P (Err stop) = StopBlames P stop

-- What a part of the work that answers this does to the counts of absent files and of read faults: each rose where the
-- answer says so, and stands still where it doesn't. What is said of a file is said of one of which P holds.
pub record Counts {X : Type 0} (P : List ℕ → Type 0) (absents absents' faults faults' : ℕ)
    (result : Result X Stop) : Type 0 where
  pub blames : Blames P result
  pub absent : BelongsTo (is_absent_work result) absents absents'
  pub failed : BelongsTo (is_failed_work result) faults faults'

-- no reply
abbrev pub Nothing : Reply → Type 0
Nothing r = ⊥

-- It gave a value of which this holds; or what stopped it is the reply to one of these demands.
abbrev pub Gives : {X : Type 0} → (X → Type 0) → List Demand → Files → Result X Stop → Type 0
Gives P demands files (Ok x) = P x
Gives P demands files (Err stop) = Stops (Demanding demands Nothing files) files stop

-- ---- the whole

-- How a command's work ended: it was done, and has this text; it was refused, or it was behind this text; there was
-- want of memory behind this text; or a write to a file failed.
pub data Work : Type 0 where
  Whole : List ℕ → Work
  Refusing : Refusal → Work
  Ending : List ℕ → Refusal → Work
  Short : List ℕ → Work
  Broken : Work

-- the work that a stop is
abbrev pub work_of : Stop → Work
work_of (Refused r) = Refusing r
work_of Memory = Short []

abbrev pub work_status : Work → Status
work_status (Whole text) = statuses.Done
work_status (Refusing r) = status_of r
work_status (Ending text r) = status_of r
work_status (Short text) = statuses.WantOfMemory
work_status Broken = statuses.WriteFault

abbrev pub work_text : Work → List ℕ
work_text (Whole text) = text
work_text (Refusing r) = refusal_line r
work_text (Ending text r) = text ++ refusal_line r
work_text (Short text) = text
work_text Broken = []

-- whether a read of a file failed, or a take of the input
abbrev pub is_read_fault : Work → Bool
is_read_fault (Ending text r) = false
is_read_fault work = is_fault (work_status work)

abbrev pub is_take_fault : Work → Bool
is_take_fault (Ending text r) = is_fault (status_of r)
is_take_fault work = false

abbrev pub is_broken : Work → Bool
is_broken Broken = true
is_broken work = false

-- The files that are left and the work are a reply that is allowed; or they are as a failed write may leave them.
abbrev pub Works : (Reply → Type 0) → (Files → Type 0) → Option Files → Work → Type 0
Works allowed broken left Broken = (files : Files) × (left ≡ Some files) × broken files
Works allowed broken left work =
    (files : Files) × (left ≡ Some files) × allowed (reply (work_status work) (work_text work) files)

-- a refusal that a command may print behind a text
abbrev pub MayEnd : Command → Refusal → Type 0
MayEnd (Debug program trace) r = IsOfInput r
MayEnd command r = ⊥

-- A refusal names no file, or one that the command fetches, and want of memory comes behind a text that it may print.
abbrev pub IsWorkOf : Command → Work → Type 0
IsWorkOf command (Whole text) = ⊤
IsWorkOf command (Refusing r) = IsOf (IsFetched (demands_of command)) r
IsWorkOf command (Ending text r) = MayEnd command r
IsWorkOf command (Short text) = MayStopAt (Some command) text
IsWorkOf command Broken = ⊤

-- The work was told to the sink, or the sink failed after a part of it.
abbrev pub Tells : Work → Option (List ℕ) → Option (List ℕ) → ℕ → ℕ → Status → Type 0
Tells work before after was now status =
    ((status ≡ statuses.WriteFault) × Rose was now × AppendsPart before after (work_text work))
    ⊎ ((status ≡ work_status work) × (now ≡ was) × Appends before after (work_text work))

-- The text was told, or there was want of memory.
abbrev pub Tries : List ℕ → Option (List ℕ) → Option (List ℕ) → ℕ → ℕ → Status → Type 0
Tries text before after was now status =
    Tells (Whole text) before after was now status ⊎ Tells (Short []) before after was now status

-- what is seen of the outside: the files, how often one was absent, couldn't be read or couldn't be written, and the
-- bytes of a new file that will surely be taken; the bytes that were printed, and how often that failed
pub record Outside : Type 0 where
  pub files : Option Files
  pub absents : ℕ
  pub reads : ℕ
  pub writes : ℕ
  pub room : Option ℕ
  pub given : Option (List ℕ)
  pub faults : ℕ

abbrev pub outside : Option Files → ℕ → ℕ → ℕ → Option ℕ → Option (List ℕ) → ℕ → Outside
outside files absents reads writes room given faults = record {
  files = files;
  absents = absents;
  reads = reads;
  writes = writes;
  room = room;
  given = given;
  faults = faults;
}

-- A write to a file failed where the work says so, and not where it was sure of enough room.
pub record Writes (enough : Files → ℕ → Type 0) (before after : Outside) (work : Work) : Type 0 where
  pub failed : BelongsTo (is_broken work) before.writes after.writes
  pub sure : IfSome before.files
      (λ held. (room : ℕ) → before.room ≡ Some room → enough held room → is_broken work ≡ false)

-- A command was carried out: it did some work that is allowed for the files, where they are told, and told it.
pub record Carries (x : Call) (command : Command) (before after : Outside) (status : Status) : Type 0 where
  pub work : Work
  pub works : IfSome before.files
      (λ held. Works (CommandAnswer x command held) (IsBroken command held) after.files work)
  pub keeps : KeepsOthers (written_of command) before.files after.files
  pub is_work : IsWorkOf command work
  pub absent : BelongsTo (is_absence (work_status work)) before.absents after.absents
  pub failed : BelongsTo (is_read_fault work) before.reads after.reads
  pub writes : Writes (IsEnough command) before after work
  pub tells : Tells work before.given after.given before.faults after.faults status

-- The same, with how often a take of the input had failed before and after it.
pub record CarriesOut (x : Call) (command : Command) (before after : Outside) (takes takes' : ℕ) (status : Status)
    : Type 0 where
  pub carries : Carries x command before after status
  pub took : BelongsTo (is_take_fault carries.work) takes takes'
