-- What going back does to a session, and going to a cut of the finished replay, before anything is printed of it.
use Rattle.std.specs.Prelude.{◌≡◌, ℕ, Bool, true, false, List, [], Option, Some, None, length}
use Rattle.c_tree.specs.declared.program.Program.{Program}
use Rattle.c_tree.specs.Play.{script_of}
use Rattle.stack_code.specs.Code.{Code}
use Rattle.event_list.specs.declared.Event.{Event}
use Rattle.event_list.specs.Cuts.{cut_list}
use Rattle.event_list.specs.Order.{Cut, IsConsistent}
use Rattle.event_list.specs.Turns.{Went, all_reached}
use Rattle.trace_file.specs.Content.{Content}
use Rattle.world.specs.Worlds.{Parts}
use Rattle.replay_core.specs.Gates.{seen_trace}
use Rattle.replay_core.specs.Replaying.{Replaying}
use Rattle.replay_core.specs.Stepping.{turned_by, full_run}
use Rattle.c_process.specs.declared.process.CProc.{CProc}
use Rattle.watchers.specs.Watched.{Watched}
use Rattle.report.specs.declared.replies.Notice.{Notice}
use Rattle.report.specs.Replies.{at_line, notice_line}
use Rattle.debugger.specs.Sessions.{Session, Makes, MakesAll, with_event, is_recorded, refused_at}
use Rattle.debugger.specs.Sittings.{Sitting, IsSessionOf, IsReplayAt}
use Rattle.debugger.specs.private.Making.{with_run}

-- what is printed of a move: why there was none, or how many events the run has
abbrev pub moved_text : List Event → Option Notice → List ℕ
moved_text run (Some why) = notice_line why
moved_text run None = at_line (length run)

-- the finished replay, from the beginning, where it reaches all recorded counts
pub record IsFullRun {M : Type 0} (code : Code) (p : Program) (t : Content) (r : Replaying CProc M) : Type 0 where
  pub replay : IsReplayAt code p t r (full_run (script_of p t.n) (seen_trace t))
  pub reached : all_reached (seen_trace t) (full_run (script_of p t.n) (seen_trace t)) ≡ true

-- the finished replay, from the beginning, leaves a process below its recorded count
pub record IsStuckRun (p : Program) (t : Content) : Type 0 where
  pub below : all_reached (seen_trace t) (full_run (script_of p t.n) (seen_trace t)) ≡ false

-- the finished replay, from the beginning, reaches all recorded counts, or it doesn't
abbrev pub IsFinished : {M : Type 0} → Code → Program → Content → Replaying CProc M → Bool → Type 0
IsFinished code p t r true = IsFullRun code p t r
IsFinished code p t r false = IsStuckRun p t

-- these are the events of the finished replay, and a session can go to process q's event k
pub record CanGoTo (p : Program) (t : Content) (events : List Event) (q k : ℕ) : Type 0 where
  pub is : events ≡ full_run (script_of p t.n) (seen_trace t)
  pub allowed : refused_at p (seen_trace t) (is_recorded p (seen_trace t) q k) ≡ None

-- a consistent cut of the finished replay, whose list of events this is
pub record IsCutOfFull (p : Program) (t : Content) (events : List Event) (c : Cut) : Type 0 where
  pub is : events ≡ full_run (script_of p t.n) (seen_trace t)
  pub consistent : IsConsistent events c

-- a turn of process q with pick 0 makes this event
pub record IsNextOf (p : Program) (t : Content) (R : List Event) (q : ℕ) (e : Event) : Type 0 where
  pub is : turned_by (script_of p t.n) (seen_trace t) R q ≡ Went e

-- the event was made and told
pub record HasMade {M : Type 0} (p : Program) (s : Session) (before : List Watched) (e : Event) (new : Sitting M)
    (after : List Watched) : Type 0 where
  pub stands : IsSessionOf new p (with_event s e)
  pub makes : Makes p (seen_trace new.trace) s before e (with_event s e) after

-- the entries of a cut were made anew
pub record HasMoved {M : Type 0} (p : Program) (s : Session) (before : List Watched) (events : List Event) (c : Cut)
    (new : Sitting M) (after : List Watched) : Type 0 where
  pub next : Session
  pub stands : IsSessionOf new p next
  pub makes : MakesAll p (seen_trace new.trace) (cut_list c events) (with_run s []) before next after
  pub run : next.run ≡ cut_list c events

-- how many events a kept world has, and none where there is no world
abbrev pub events_in : {M : Type 0} → Option (Parts CProc M) → ℕ
events_in None = 0
events_in (Some w) = w.events
