-- What the commands on a trace say of the run that was recorded.
use Rattle.std.specs.Prelude.{◌≡◌, ◌-◌, ℕ, List, [], ◌∷◌, ◌++◌, length, map, Option, Some, ⊤}
use Rattle.std.specs.Io.KnownBytes.{Appends}
use Rattle.nm_base.specs.declared.letter.LetterId.{LetterId}
use Rattle.nm_base.specs.Message.{Message}
use Rattle.nm_outside.specs.Files.{Files}
use Rattle.c_tree.specs.declared.program.Program.{Program}
use Rattle.c_tree.specs.Play.{script_of}
use Rattle.schedules.specs.declared.schedule.Turn.{Turn}
use Rattle.schedules.specs.Bounds.{AreFewTurns}
use Rattle.event_list.specs.declared.Event.{Event}
use Rattle.event_list.specs.Events.{count}
use Rattle.event_list.specs.Races.{IsLogged}
use Rattle.event_list.specs.Carrying.{carried_out}
use Rattle.event_list.specs.Traces.{IsTraceOf}
use Rattle.event_list.specs.Witnesses.{IsWitness}
use Rattle.trace_file.specs.Content.{Content}
use Rattle.cut_witness.specs.declared.certificates.Witness.{Witness}
use Rattle.cut_witness.specs.Certificates.{move_at}
use Rattle.cut_witness.specs.Comparisons.{trace_entries}
use Rattle.cut_witness.specs.Laws.{NamesOnce}
use Rattle.replay_core.specs.Gates.{seen_trace}
use Rattle.report.specs.Texts.{certificate, certificates_line, turns_line}
use Rattle.report.specs.Runs.{blocks}
use Rattle.report.specs.Follows.{Follows}
use Rattle.nm_top.specs.declared.status.Status.{Status}
use Rattle.nm_top.specs.declared.status.Status.TheVariants.{Done}
use Rattle.nm_top.specs.Commands.{Command, Replay, Finish, Certify, Debug, command_of}
use Rattle.nm_top.specs.Schedules.{IsSchedule}
use Rattle.nm_top.specs.Demands.{AreReplayed, HoldsIn, schedule_file}
use Rattle.nm_top.specs.Runs.{run_of_program}
use Rattle.nm_top.specs.Finishing.{replayed, entries_of}
use Rattle.nm_top.specs.Replies.{Owed}
use Rattle.nm_top.specs.Answers.{IsEnd}
use Rattle.watchers.specs.Watched.{Watched}
use Rattle.debugger.specs.Sessions.{Session, first_session}
use Rattle.nm_top.specs.Watches.{Call, Given, Hear, watch_lines}
use Rattle.nm_top.specs.Debugging.{Talks}

-- The second file holds the trace that recording makes of the program in the first, under some schedule: of as many
-- processes, and with the ordered channels, that the trace says.
pub record IsRecording (files : Files) (program trace : List ℕ) : Type 0 where
  pub of_program : Program
  pub content : Content
  pub has : AreReplayed files program trace of_program content
  pub turns : List Turn
  pub few : AreFewTurns content.n turns
  pub is_trace : IsTraceOf (run_of_program of_program content.n content.mask turns) (seen_trace content)

-- the run that was recorded
abbrev pub recorded : {files : Files} {program trace : List ℕ} → IsRecording files program trace → List Event
recorded h = run_of_program h.of_program h.content.n h.content.mask h.turns

-- w is of a letter that is logged in E, and its printed turns, carried out from the start, are a run that keeps the
-- causal pasts of the letter's send and of the last receive that could have accepted it, and in which this receive
-- accepts it
pub record IsWitnessed (p : Program) (n mask : ℕ) (E : List Event) (letter : LetterId) (w : Witness) : Type 0 where
  pub message : Message
  pub named : message.id ≡ letter
  pub of : w.id ≡ letter
  pub logged : IsLogged mask E message
  pub run : List Event
  pub made : carried_out (script_of p n) mask (map move_at w.turns) ≡ Some run
  pub witness : IsWitness (script_of p n) mask E message run

-- the text is that of a certificate for each of these letters, in order
pub data AreWitnessed (p : Program) (n mask : ℕ) (E : List Event) : List LetterId → List ℕ → Type 0 where
  none : AreWitnessed p n mask E [] []
  more : {letters : List LetterId} {text : List ℕ} (letter : LetterId) (w : Witness)
      → AreWitnessed p n mask E letters text → IsWitnessed p n mask E letter w
      → AreWitnessed p n mask E (letters ++ letter ∷ []) (text ++ certificate w)

-- What is printed is the replay by the turns of the schedule: a run in which each process does a front of what it did
-- in the recording, its events with the letter that each receive accepts, its states and its output. Behind it stands
-- a line of each watcher, which were told of the events of this run.
pub record ShowsReplay (x : Given) {files : Files} {program trace : List ℕ} (h : IsRecording files program trace)
    (schedule printed : List ℕ) : Type 0 where
  pub turns : List Turn
  pub has_schedule : HoldsIn files (λ text. IsSchedule h.content.n text turns) (schedule_file schedule)
  pub follows : Follows h.of_program h.content.n (recorded h) (replayed h.of_program h.content turns)
  pub hear : Hear (replayed h.of_program h.content turns) x
  pub is : printed ≡ blocks h.of_program h.content.n (replayed h.of_program h.content turns)
      ++ turns_line (length turns) (length turns - length (replayed h.of_program h.content turns))
      ++ watch_lines 0 x.told

-- What is printed are the blocks and the summary of the recorded run, and the turns that it took to make it again.
-- Behind them stands a line of each watcher, which were told of the events of the run that was made: in it each
-- process did what it did in the recorded run.
pub record ShowsRun (x : Given) {files : Files} {program trace : List ℕ} (h : IsRecording files program trace)
    (printed : List ℕ) : Type 0 where
  pub turns : ℕ
  pub idle : ℕ
  pub made : List Event
  pub follows : Follows h.of_program h.content.n (recorded h) made
  pub whole : (p : ℕ) → count made p ≡ count (recorded h) p
  pub hear : Hear made x
  pub is : printed ≡ blocks h.of_program h.content.n (recorded h) ++ turns_line turns idle ++ watch_lines 0 x.told

-- What is printed is a certificate for each entry of the trace, in file order, and their number. The entries name each
-- letter that is logged in the recorded run once, and no other.
pub record ShowsRaces {files : Files} {program trace : List ℕ} (h : IsRecording files program trace)
    (printed : List ℕ) : Type 0 where
  pub certificates : List ℕ
  pub witnessed : AreWitnessed h.of_program h.content.n h.content.mask (recorded h) (entries_of h.content) certificates
  pub each : (m : Message) → IsLogged h.content.mask (recorded h) m
      → NamesOnce (trace_entries h.content.notes h.content.lost) m.id
  pub is : printed ≡ certificates ++ certificates_line (length (entries_of h.content))

-- What is printed are a session's replies to lines of the input.
pub record ShowsSession (x : Call) {files : Files} {program trace : List ℕ} (h : IsRecording files program trace)
    (printed : List ℕ) : Type 0 where
  pub lines : List (List ℕ)
  pub last : Session
  pub talks : Talks h.of_program (seen_trace h.content) first_session x.watchers.watch lines printed last
      x.watchers.told

-- Whatever lines a session is given, the run that they leave is one in which each process does a front of what it did
-- in the recording.
abbrev pub SessionsFollow : Call → {files : Files} {program trace : List ℕ} → IsRecording files program trace → Type 0
SessionsFollow x h = (lines : List (List ℕ)) (text : List ℕ) (s : Session) (watch : List Watched)
    → Talks h.of_program (seen_trace h.content) first_session x.watchers.watch lines text s watch
    → Follows h.of_program h.content.n (recorded h) s.run

-- what is printed of a recording
abbrev pub Shows : Call → Command → Files → List ℕ → Type 0
Shows x (Replay program trace schedule) files printed =
    (h : IsRecording files program trace) → ShowsReplay x.watchers h schedule printed
Shows x (Finish program trace) files printed = (h : IsRecording files program trace) → ShowsRun x.watchers h printed
Shows x (Certify program trace) files printed = (h : IsRecording files program trace) → ShowsRaces h printed
Shows x (Debug program trace) files printed = (h : IsRecording files program trace) → ShowsSession x h printed
Shows x command files printed = ⊤

-- the files hold a recording, and a schedule of as many processes where one is to be replayed
abbrev pub HoldsRecording : Command → Files → Type 0
HoldsRecording (Replay program trace schedule) files =
    (h : IsRecording files program trace) × (turns : List Turn)
    × HoldsIn files (λ text. IsSchedule h.content.n text turns) (schedule_file schedule)
HoldsRecording (Finish program trace) files = IsRecording files program trace
HoldsRecording (Certify program trace) files = IsRecording files program trace
HoldsRecording (Debug program trace) files = IsRecording files program trace
HoldsRecording command files = ⊥

-- Where the files hold a recording, a command on it is done, faults and want of memory aside, and what it prints is
-- said of the recorded run.
pub record Headline (x : Call) (words : List (List ℕ)) (held : Files)
    (reads reads' takes takes' writes writes' faults faults' : ℕ)
    (before after : Option (List ℕ)) (status : Status) : Type 0 where
  pub done : (command : Command) → command_of words ≡ Some command → HoldsRecording command held
      → Owed (IsEnd x held command) reads reads' takes takes' writes writes' faults faults' status
  pub shows : (command : Command) → command_of words ≡ Some command → status ≡ Done
      → (text : List ℕ) × Shows x command held text × Appends before after text
  pub sessions : (program trace : List ℕ) → command_of words ≡ Some (Debug program trace)
      → (h : IsRecording held program trace) → SessionsFollow x h
