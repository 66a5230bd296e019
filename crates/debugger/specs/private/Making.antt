-- What making events does to a session, before anything is printed of it.
use Rattle.std.specs.Prelude.{◌≡◌, ◌+◌, ◌<◌, ℕ, length, take, drop, position, slice_get, if◌then◌else◌, Bool, List, [], ◌∷◌, ◌++◌, Option, Some, None}
use Rattle.c_tree.specs.declared.program.Program.{Program}
use Rattle.c_tree.specs.Play.{script_of}
use Rattle.event_list.specs.declared.Event.{Event}
use Rattle.event_list.specs.Turns.{after}
use Rattle.event_list.specs.Turns as turns
use Rattle.nm_base.specs.declared.limits.TheConstants.{MAX_EVENTS}
use Rattle.trace_file.specs.Content.{Content}
use Rattle.world.specs.declared.world.Turned.{Turned}
use Rattle.world.specs.Outcomes.{outcome}
use Rattle.replay_core.specs.Gates.{seen_trace}
use Rattle.replay_core.specs.Stepping.{turned_by, step_of, with_step}
use Rattle.watchers.specs.Watched.{Watched, Told}
use Rattle.report.specs.Replies.{event_line, broke_line, watcher_line, detached_line, watch_line, notice_line, set_line, cleared_line}
use Rattle.debugger.specs.declared.breakpoints.Break.{Break}
use Rattle.debugger.specs.Breaks.{is_free, set_in, cleared_in}
use Rattle.report.specs.declared.replies.Notice.TheVariants as notice
use Rattle.debugger.specs.declared.forward.Halt.{Halt}
use Rattle.debugger.specs.declared.forward.Halt.TheVariants as halt
use Rattle.debugger.specs.Sessions.{Session, Runs, end_line, idle_line, with_event}
use Rattle.debugger.specs.Sittings.{Sitting, IsSessionOf}

-- the session with this run
abbrev pub with_run : Session → List Event → Session
with_run s R = record { run = R; breaks = s.breaks; made = s.made }

-- the session with one event more among those that were made
abbrev pub with_made : Session → Event → Session
with_made s e = record { run = s.run; breaks = s.breaks; made = s.made ++ e ∷ [] }

-- a turn of process q with pick 0
pub record HasGone {M : Type 0} (p : Program) (s : Session) (q : ℕ) (new : Sitting M) (what : Turned) : Type 0 where
  pub is : turned_by (script_of p new.trace.n) (seen_trace new.trace) s.run q ≡ outcome what
  pub stands : IsSessionOf new p (with_run s (after s.run (outcome what)))

-- a step
pub record HasStepped {M : Type 0} (p : Program) (s : Session) (new : Sitting M) (e : Option Event) : Type 0 where
  pub is : step_of (script_of p new.trace.n) (seen_trace new.trace) s.run ≡ e
  pub stands : IsSessionOf new p (with_run s (with_step s.run e))

-- the session with the event that was made last, if one was made
abbrev pub with_next : Session → Option Event → Session
with_next s None = s
with_next s (Some e) = with_event s e

-- the watchers were told the event, if one was made
abbrev pub IsTold : Option Event → List Watched → List Watched → Type 0
IsTold None before after = after ≡ before
IsTold (Some e) before after = (dropped : ℕ) × Told (e ∷ []) before after dropped

-- a step, of which the watchers were told
pub record HasNotedStep {M : Type 0} (p : Program) (s : Session) (before : List Watched) (new : Sitting M)
    (after : List Watched) (e : Option Event) : Type 0 where
  pub is : step_of (script_of p new.trace.n) (seen_trace new.trace) s.run ≡ e
  pub stands : IsSessionOf new p (with_next s e)
  pub told : IsTold e before after

-- the event of a turn, if it made one
abbrev pub event_of : turns.Turned → Option Event
event_of (turns.Stays why) = None
event_of (turns.Went e) = Some e

-- a turn of process q with pick 0, of which the watchers were told
pub record HasNotedTurn {M : Type 0} (p : Program) (s : Session) (q : ℕ) (before : List Watched) (new : Sitting M)
    (after : List Watched) (what : Turned) : Type 0 where
  pub is : turned_by (script_of p new.trace.n) (seen_trace new.trace) s.run q ≡ outcome what
  pub stands : IsSessionOf new p (with_next s (event_of (outcome what)))
  pub told : IsTold (event_of (outcome what)) before after

-- the run is longer by this event, of one of the processes, and there was room for it
pub record IsLonger {M : Type 0} (old new : Sitting M) (e : Event) : Type 0 where
  pub more : length new.replay.events ≡ length old.replay.events + 1
  pub room : length old.replay.events < MAX_EVENTS
  pub of : e.proc.no < new.trace.n

-- what is printed of a step and of a turn
abbrev pub step_text : Program → Content → List Event → Option Event → List ℕ
step_text p t R None = end_line p (seen_trace t) R
step_text p t R (Some e) = event_line e

abbrev pub turn_text : turns.Turned → List ℕ
turn_text (turns.Stays why) = idle_line why
turn_text (turns.Went e) = event_line e

-- the session with these places for breakpoints
abbrev pub with_breaks : Session → List (Option Break) → Session
with_breaks s breaks = record { run = s.run; breaks = breaks; made = s.made }

-- the places with a breakpoint more, and with one freed
abbrev pub with_break : Break → List (Option Break) → List (Option Break)
with_break b breaks = set_in breaks b (position is_free breaks)

abbrev pub without_break : ℕ → List (Option Break) → List (Option Break)
without_break k breaks = cleared_in breaks k (slice_get breaks k)

-- what is printed of a breakpoint that takes this place, if there is one
abbrev pub set_text : Break → Option ℕ → List ℕ
set_text b None = notice_line notice.Full
set_text b (Some k) = set_line k b.proc.no b.at

-- what is printed of a place that was taken, or wasn't
abbrev pub cleared_text : ℕ → Bool → List ℕ
cleared_text k taken = if taken then cleared_line k else notice_line notice.NoBreak

-- what a watcher of this number says
abbrev pub said_line : ℕ → Watched → List ℕ
said_line k w = watch_line k (w.kind.said w.notes)

-- what is printed of the watcher that is to be dropped, and the watchers without it
abbrev pub detach_text : ℕ → Option Watched → List ℕ
detach_text k (Some w) = detached_line k
detach_text k None = notice_line notice.NoWatcher

abbrev pub detached_from : List Watched → ℕ → Option Watched → List Watched
detached_from watch k (Some w) = take k watch ++ drop (k + 1) watch
detached_from watch k None = watch

-- what is printed where a run came to a halt: at its end, at a breakpoint or at a watcher
abbrev pub halt_text : Program → Content → List Event → Halt → List ℕ
halt_text p t R halt.Over = end_line p (seen_trace t) R
halt_text p t R (halt.Broke k e) = broke_line k e
halt_text p t R (halt.Watched k e) = watcher_line k e

-- steps, until the run came to a halt
pub record HasRun {M : Type 0} (p : Program) (s : Session) (before : List Watched) (new : Sitting M)
    (after : List Watched) (end : Halt) : Type 0 where
  pub next : Session
  pub stands : IsSessionOf new p next
  pub runs : Runs p (seen_trace new.trace) s before (halt_text p new.trace next.run end) next after
