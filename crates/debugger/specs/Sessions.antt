-- A session of the debugger: a replay that goes forwards and back, and what each line replies and does. Nothing here
-- knows of worlds that are kept, or of how a run is made again.
use Rattle.std.specs.Prelude.{◌≡◌, ℕ, ◌+◌, ◌-◌, ◌&&◌, nat_le, Bool, List, [], ◌∷◌, ◌++◌, length, take, drop, replicate, Option, Some, None, slice_get, position, if◌then◌else◌}
use Rattle.nm_base.specs.Scripts.{Script}
use Rattle.c_tree.specs.declared.program.Program.{Program}
use Rattle.c_tree.specs.Play.{script_of}
use Rattle.causal_stop.specs.declared.standing.Order.{Order}
use Rattle.causal_stop.specs.declared.standing.Order.TheVariants as order
use Rattle.causal_stop.specs.Stops.{Holds, Lacks, IsEntry, StandsIn}
use Rattle.event_list.specs.declared.Event.{Event}
use Rattle.event_list.specs.Events.{count, messages}
use Rattle.event_list.specs.Cuts.{cut_list, IsLeastCut, IsGreatestCut}
use Rattle.event_list.specs.Order.{Cut}
use Rattle.event_list.specs.Traces.{Trace}
use Rattle.event_list.specs.Turns.{Stays, Went, Idle, IsOver, AtCount, NoLetter, all_reached}
use Rattle.c_process.specs.Values.{next_line_after}
use Rattle.report.specs.declared.replies.Notice.{Notice}
use Rattle.report.specs.declared.replies.Notice.TheVariants as notice
use Rattle.report.specs.Replies.{event_line, set_line, cleared_line, broke_line, watcher_line, at_line, watch_line, detached_line, notice_line}
use Rattle.watchers.specs.Watched.{Watched, Told}
use Rattle.debugger.specs.declared.breakpoints.Break.{Break}
use Rattle.replay_core.specs.Stepping.{turned_by, step_of, full_run}
use Rattle.debugger.specs.declared.breakpoints.TheConstants.{MAX_BREAKS}
use Rattle.debugger.specs.Breaks.{is_free, set_in, cleared_in, fits_after}
use Rattle.debugger.specs.Latest.{latest_of}
use Rattle.debugger.specs.Looks.{last_text, frames_in, value_of, places_of, output_of, mail_of, clock_of}
use Rattle.debugger.specs.Lines.{Asked, Nothing, NotALine, NotAProcess, SetBreak, Clear, Step, StepOf, Run, Back, Print, Frames, Where, Output, Mail, Clock, Last, Watch, Detach, Stop, Avoid, Compare, Quit}

-- ---- what a session is

-- the run so far, the places for breakpoints, and all events that were made, those undone since included
pub record Session : Type 0 where
  pub run : List Event
  pub breaks : List (Option Break)
  pub made : List Event

-- before the first line
abbrev pub first_session : Session
first_session = record { run = []; breaks = replicate MAX_BREAKS None; made = [] }

-- with the event made last
abbrev pub with_event : Session → Event → Session
with_event s e = record { run = s.run ++ e ∷ []; breaks = s.breaks; made = s.made ++ e ∷ [] }

-- a reply, and the session after it
pub record Reply : Type 0 where
  pub text : List ℕ
  pub session : Session

-- a reply that changes nothing
abbrev pub says : Session → List ℕ → Reply
says s text = record { text = text; session = s }

abbrev pub notices : Session → Notice → Reply
notices s what = says s (notice_line what)

-- ---- breakpoints

abbrev pub set_at : Session → Break → Option ℕ → Reply
set_at s b None = notices s notice.Full
set_at s b (Some k) = record {
  text = set_line k b.proc.no b.at;
  session = record { run = s.run; breaks = set_in s.breaks b (Some k); made = s.made };
}

-- takes the lowest free place
abbrev pub set_break : Session → Break → Reply
set_break s b = set_at s b (position is_free s.breaks)

abbrev pub clear_at : Session → ℕ → Option (Option Break) → Reply
clear_at s k (Some (Some b)) = record {
  text = cleared_line k;
  session = record { run = s.run; breaks = cleared_in s.breaks k (Some (Some b)); made = s.made };
}
clear_at s k free = notices s notice.NoBreak

-- frees a place
abbrev pub clear_break : Session → ℕ → Reply
clear_break s k = clear_at s k (slice_get s.breaks k)

-- ---- going back

-- K events fewer
abbrev pub back_by : Session → ℕ → Reply
back_by s k =
    if nat_le k (length s.run) then record {
      text = at_line (length s.run - k);
      session = record { run = take (length s.run - k) s.run; breaks = s.breaks; made = s.made };
    } else notices s notice.NoEvent

-- what watchers say, from number k on
abbrev pub watch_lines : ℕ → List Watched → List ℕ
watch_lines k [] = []
watch_lines k (w ∷ watch) = watch_line k (w.kind.said w.notes) ++ watch_lines (k + 1) watch

abbrev pub watch_text : List Watched → List ℕ
watch_text [] = notice_line notice.NoWatcher
watch_text (w ∷ watch) = watch_lines 0 (w ∷ watch)

-- how two events stand to each other
abbrev pub order_notice : Order → Notice
order_notice order.Same = notice.Same
order_notice order.Before = notice.Before
order_notice order.After = notice.After
order_notice order.Unordered = notice.Unordered

-- whether a watcher stops after what it noted
abbrev pub is_stopping : Watched → Bool
is_stopping w = w.kind.stops w.notes

-- what is replied at a breakpoint of this place, or else at a watcher of this number
abbrev pub halt_by : Event → Option ℕ → Option ℕ → Option (List ℕ)
halt_by e (Some k) watcher = Some (broke_line k e)
halt_by e None (Some k) = Some (watcher_line k e)
halt_by e None None = None

abbrev pub idle_line : Idle → List ℕ
idle_line IsOver = notice_line notice.IdleOver
idle_line AtCount = notice_line notice.IdleCount
idle_line NoLetter = notice_line notice.IdleLetter

-- where no step makes an event any more: all recorded counts are reached, or no process can go on
abbrev pub end_text : Bool → List ℕ
end_text finished = notice_line (if finished then notice.Finished else notice.Stuck)

module _ (p : Program) (T : Trace) where
  abbrev pub scripts : ℕ → Script
  scripts = script_of p T.n

  -- where a step makes no event
  abbrev pub end_line : List Event → List ℕ
  end_line R = end_text (all_reached T R)

  -- ---- where a run stops

  -- whether a breakpoint fits after the last event of R
  abbrev pub fits : List Event → Event → Option Break → Bool
  fits R e place =
      fits_after e.proc.no e.kind (next_line_after p T.n e.proc.no (messages R e.proc.no) (count R e.proc.no)) place

  -- what is replied where a run stops after its last event: the lowest breakpoint that fits, or else the lowest watcher
  -- that stops
  abbrev pub halt : Session → List Watched → Event → Option (List ℕ)
  halt s watch e = halt_by e (position (fits s.run e) s.breaks) (position is_stopping watch)

  -- ---- what is replied to lines that make no event and speak of no watcher

  abbrev pub quiet : Session → Asked → Option Reply
  quiet s Nothing = Some (says s [])
  quiet s Quit = Some (says s [])
  quiet s NotALine = Some (notices s notice.Unknown)
  quiet s NotAProcess = Some (notices s notice.NoProcess)
  quiet s (SetBreak q at) = Some (set_break s (record { proc = record { no = q }; at = at }))
  quiet s (Clear k) = Some (clear_break s k)
  quiet s (Back k) = Some (back_by s k)
  quiet s (Print q name index) = Some (says s (value_of p T.n s.run q name index))
  quiet s (Frames q) = Some (says s (frames_in p T.n s.run q))
  quiet s Where = Some (says s (places_of p T.n s.run T.counts))
  quiet s (Output q) = Some (says s (output_of p T.n s.run q))
  quiet s (Mail q) = Some (says s (mail_of p T.n s.run q))
  quiet s (Clock q) = Some (says s (clock_of p T.n s.run q))
  quiet s Last = Some (says s (last_text (latest_of s.made)))
  quiet s other = None

  -- ---- lines that make events, each of which the watchers are told

  -- one event is made and told
  pub record Makes (s : Session) (watch : List Watched) (e : Event) (s' : Session) (watch' : List Watched)
      : Type 0 where
    pub dropped : ℕ
    pub told : Told (e ∷ []) watch watch' dropped
    pub is : s' ≡ with_event s e

  -- events are made and told, one by one
  pub data MakesAll : List Event → Session → List Watched → Session → List Watched → Type 0 where
    nothing : {s : Session} {watch : List Watched} → MakesAll [] s watch s watch
    more : {e : Event} {events : List Event} {s s' s'' : Session} {watch watch' watch'' : List Watched}
        → Makes s watch e s' watch' → MakesAll events s' watch' s'' watch'' → MakesAll (e ∷ events) s watch s'' watch''

  -- as a step again and again, until a breakpoint fits or a watcher stops
  pub data Runs : Session → List Watched → List ℕ → Session → List Watched → Type 0 where
    ends : {s : Session} {watch : List Watched} → step_of scripts T s.run ≡ None → Runs s watch (end_line s.run) s watch
    halts : {s s' : Session} {watch watch' : List Watched} {text : List ℕ} (e : Event)
        → step_of scripts T s.run ≡ Some e
        → Makes s watch e s' watch' → halt s' watch' e ≡ Some text → Runs s watch text s' watch'
    goes_on : {s s' s'' : Session} {watch watch' watch'' : List Watched} {text : List ℕ} (e : Event)
        → step_of scripts T s.run ≡ Some e → Makes s watch e s' watch' → halt s' watch' e ≡ None
        → Runs s' watch' text s'' watch'' → Runs s watch text s'' watch''

  -- process q has an event of this number in the recording
  abbrev pub is_recorded : ℕ → ℕ → Bool
  is_recorded q k = nat_le 1 k && nat_le k (T.counts q)

  -- why an event of the recording can't be gone to
  abbrev pub refused_at : Bool → Option Notice
  refused_at recorded =
      if recorded then (if all_reached T (full_run scripts T) then None else Some notice.Stuck) else Some notice.NoEvent

  -- the run becomes the entries of the finished replay in a cut, made anew
  pub record GoesTo (c : Cut) (s : Session) (watch : List Watched) (text : List ℕ) (s' : Session)
      (watch' : List Watched) : Type 0 where
    pub makes : MakesAll (cut_list c (full_run scripts T))
        (record { run = []; breaks = s.breaks; made = s.made }) watch s' watch'
    pub is : text ≡ at_line (length (cut_list c (full_run scripts T)))

  -- ---- the replies

  -- what a line that asks so replies, and the session and the watchers after it
  pub data Answers : Asked → Session → List Watched → List ℕ → Session → List Watched → Type 0 where
    quietly : {asked : Asked} {s : Session} {watch : List Watched} {r : Reply} → quiet s asked ≡ Some r
        → Answers asked s watch r.text r.session watch
    step_ends : {s : Session} {watch : List Watched} → step_of scripts T s.run ≡ None
        → Answers Step s watch (end_line s.run) s watch
    steps : {s s' : Session} {watch watch' : List Watched} (e : Event) → step_of scripts T s.run ≡ Some e
        → Makes s watch e s' watch' → Answers Step s watch (event_line e) s' watch'
    idles : {s : Session} {watch : List Watched} (q : ℕ) (why : Idle) → turned_by scripts T s.run q ≡ Stays why
        → Answers (StepOf q) s watch (idle_line why) s watch
    steps_one : {s s' : Session} {watch watch' : List Watched} (q : ℕ) (e : Event)
        → turned_by scripts T s.run q ≡ Went e
        → Makes s watch e s' watch' → Answers (StepOf q) s watch (event_line e) s' watch'
    runs : {s s' : Session} {watch watch' : List Watched} {text : List ℕ} → Runs s watch text s' watch'
        → Answers Run s watch text s' watch'
    watches : {s : Session} {watch : List Watched} → Answers Watch s watch (watch_text watch) s watch
    detaches : {s : Session} {watch : List Watched} (k : ℕ) (w : Watched) → slice_get watch k ≡ Some w
        → Answers (Detach k) s watch (detached_line k) s (take k watch ++ drop (k + 1) watch)
    has_none : {s : Session} {watch : List Watched} (k : ℕ) → slice_get watch k ≡ None
        → Answers (Detach k) s watch (notice_line notice.NoWatcher) s watch
    stops : {s s' : Session} {watch watch' : List Watched} {text : List ℕ} (q k : ℕ) (c : Cut)
        → refused_at (is_recorded q k) ≡ None → IsLeastCut (full_run scripts T) (Holds q k) c
        → GoesTo c s watch text s' watch' → Answers (Stop q k) s watch text s' watch'
    avoids : {s s' : Session} {watch watch' : List Watched} {text : List ℕ} (q k : ℕ) (c : Cut)
        → refused_at (is_recorded q k) ≡ None → IsGreatestCut (full_run scripts T) (Lacks q k) c
        → GoesTo c s watch text s' watch' → Answers (Avoid q k) s watch text s' watch'
    stop_refused : {s : Session} {watch : List Watched} (q k : ℕ) (why : Notice)
        → refused_at (is_recorded q k) ≡ Some why → Answers (Stop q k) s watch (notice_line why) s watch
    avoid_refused : {s : Session} {watch : List Watched} (q k : ℕ) (why : Notice)
        → refused_at (is_recorded q k) ≡ Some why → Answers (Avoid q k) s watch (notice_line why) s watch
    compares : {s : Session} {watch : List Watched} (q k r j : ℕ) (a b : Event) (o : Order)
        → refused_at (is_recorded q k && is_recorded r j) ≡ None → IsEntry (full_run scripts T) q k a
        → IsEntry (full_run scripts T) r j b
        → StandsIn (full_run scripts T) a b o → Answers (Compare q k r j) s watch (notice_line (order_notice o)) s watch
    compare_refused : {s : Session} {watch : List Watched} (q k r j : ℕ) (why : Notice)
        → refused_at (is_recorded q k && is_recorded r j) ≡ Some why
        → Answers (Compare q k r j) s watch (notice_line why) s watch
