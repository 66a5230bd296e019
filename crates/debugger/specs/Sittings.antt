-- What a contract sees of a session, which sessions of the definitions it stands for, and what comes of a line.
use Rattle.std.specs.Prelude.{◌≡◌, ℕ, ◌≤◌, List, All, length, take, Option, Some, Result, Err, OnOk, slice_get}
use Rattle.std.specs.Io.KnownBytes.{Appends}
use Rattle.nm_outside.specs.Files.{AppendsPart}
use Rattle.c_tree.specs.declared.program.Program.{Program}
use Rattle.c_tree.specs.Play.{script_of}
use Rattle.stack_code.specs.Code.{Code}
use Rattle.event_list.specs.declared.Event.{Event}
use Rattle.event_list.specs.FirstPicks.{IsFirstPicked}
use Rattle.trace_file.specs.Content.{Content}
use Rattle.trace_file.specs.Rules.{IsTrace}
use Rattle.world.specs.Worlds.{Parts, IsWorldOf}
use Rattle.replay_core.specs.Gates.{seen_trace}
use Rattle.replay_core.specs.Replaying.{Replaying, IsReplayOf}
use Rattle.c_process.specs.Standing.{IsCodeOf}
use Rattle.c_process.specs.contracts.script.CProcProc.TheImpl as process
use Rattle.c_process.specs.declared.process.CProc.{CProc}
use Rattle.watchers.specs.Watched.{Watched}
use Rattle.debugger.specs.declared.breakpoints.Break.{Break}
use Rattle.debugger.specs.declared.fault.SessionFault.{SessionFault}
use Rattle.debugger.specs.declared.fault.SessionFault.TheVariants as fault
use Rattle.debugger.specs.Latest.{latest_of}
use Rattle.debugger.specs.Lines.{Asked}
use Rattle.debugger.specs.Sessions.{Session, Answers}

-- what a contract sees of a session
pub record Sitting (M : Type 0) : Type 0 where
  pub code : Code
  pub trace : Content
  pub replay : Replaying CProc M
  pub kept : List (Parts CProc M)
  pub breaks : List (Option Break)
  pub latest : List Event

-- each process runs this code, as one of n
abbrev pub AllRun : {M : Type 0} → Code → ℕ → Parts CProc M → Type 0
AllRun code n w = (q : ℕ) (x : CProc) → slice_get w.processes q ≡ Some x → process.origin_of-value.it x ≡ (code, n)

-- the program's processes are replayed under the trace by this code, and came to R
pub record IsReplayAt {M : Type 0} (code : Code) (p : Program) (t : Content) (r : Replaying CProc M) (R : List Event)
    : Type 0 where
  pub replays : IsReplayOf process.stands_for-value.it r (script_of p t.n) (seen_trace t) R
  pub runs : AllRun code t.n r.world

-- a world that is kept stands for the first events of the run
pub record IsKept {M : Type 0} (code : Code) (p : Program) (t : Content) (run : List Event) (w : Parts CProc M)
    : Type 0 where
  pub within : w.events ≤ length run
  pub stands : IsWorldOf process.stands_for-value.it w (script_of p t.n) (take w.events run)
  pub size : length w.processes ≡ t.n
  pub mask : w.mask ≡ t.mask
  pub runs : AllRun code t.n w

-- it is the session s of the program: its replay came to the run by turns with pick 0 alone
pub record IsSessionOf {M : Type 0} (x : Sitting M) (p : Program) (s : Session) : Type 0 where
  pub compiled : IsCodeOf p x.code
  pub trace : IsTrace x.trace
  pub replays : IsReplayAt x.code p x.trace x.replay s.run
  pub picked : IsFirstPicked (script_of p x.trace.n) (seen_trace x.trace) s.run
  pub kept : All (IsKept x.code p x.trace s.run) x.kept
  pub breaks : x.breaks ≡ s.breaks
  pub latest : x.latest ≡ latest_of s.made

abbrev pub IsSomeSession : {M : Type 0} → Sitting M → Type 0
IsSomeSession x = (p : Program) × (s : Session) × IsSessionOf x p s

-- the same program under the same trace
pub record IsSameSitting {M : Type 0} (old new : Sitting M) : Type 0 where
  pub code : new.code ≡ old.code
  pub trace : new.trace ≡ old.trace

-- the reply to what a line asks, and the session and the watchers after it
pub record Replies {M : Type 0} (asked : Asked) (p : Program) (s : Session) (before : List Watched)
    (new : Sitting M) (after : List Watched) (text : List ℕ) : Type 0 where
  pub next : Session
  pub stands : IsSessionOf new p next
  pub answers : Answers p (seen_trace new.trace) asked s before text next after

-- What comes of a line: its whole reply was printed; or the sink failed after a part of it; or memory was refused, and
-- nothing was printed.
pub record HasReplied {A M : Type 0} (asked : Asked) (p : Program) (s : Session) (before : List Watched)
    (new : Sitting M)
    (after : List Watched) (given given' : Option (List ℕ)) (result : Result A SessionFault) : Type 0 where
  pub whole : OnOk result ((text : List ℕ) × Replies asked p s before new after text × Appends given given' text)
  pub part : result ≡ Err fault.Write
      → (text : List ℕ) × Replies asked p s before new after text × AppendsPart given given' text
  pub stopped : result ≡ Err fault.Memory → given' ≡ given
