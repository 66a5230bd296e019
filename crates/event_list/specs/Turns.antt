-- Turns: how a schedule makes a run, a replay, and the finishing of a replay.
use Rattle.std.specs.Prelude.{◌≡◌, ℕ, zero, suc, ◌<◌, ◌+◌, ◌*◌, ◌%◌, ◌==◌, ◌&&◌, ◌||◌, nat_lt, nat_le, Bool, true, false, not, List, [], ◌∷◌, ◌++◌, length, Option, Some, None, filter, fold, slice_get, if◌then◌else◌}
use Rattle.std.specs.List.{list_any}
use Rattle.nm_base.specs.declared.letter.LetterId.{LetterId}
use Rattle.nm_base.specs.declared.kind.Kind.{Kind}
use Rattle.nm_base.specs.declared.kind.Kind.TheVariants.{Accepted}
use Rattle.nm_base.specs.Message.{Message}
use Rattle.nm_base.specs.Channels.{has_channel}
use Rattle.nm_base.specs.Scripts.{Script, Next, Goes, Wants, Over}
use Rattle.event_list.specs.declared.Event.{Event}
use Rattle.event_list.specs.Events.{count, messages, receives}
use Rattle.event_list.specs.Traces.{waiting, Trace, permits}

-- why a turn changes nothing
pub data Idle : Type 0 where
  IsOver : Idle
  AtCount : Idle
  NoLetter : Idle

-- what a turn does
pub data Turned : Type 0 where
  Stays : Idle → Turned
  Went : Event → Turned

-- a turn names a process and a pick
pub record Turn : Type 0 where
  pub proc : ℕ
  pub pick : ℕ

-- whether l is an earlier letter of m's sender, to the same process on the same channel
abbrev pub precedes : Message → Message → Bool
precedes l m =
    (l.id.sender.no == m.id.sender.no)
    && (nat_lt l.id.number m.id.number && ((l.dest.no == m.dest.no) && (l.chan == m.chan)))

-- whether no such letter waits
abbrev pub is_first : List Event → Message → Bool
is_first E m = not (list_any (λ l. precedes l m) (waiting E))

-- l and m are letters of one sender to one process on one channel
pub record IsRival (l m : Message) : Type 0 where
  pub sender : l.id.sender.no ≡ m.id.sender.no
  pub dest : l.dest.no ≡ m.dest.no
  pub chan : l.chan ≡ m.chan

-- without a trace each letter is permitted
abbrev pub permits_if : Option Trace → ℕ → ℕ → LetterId → Bool
permits_if None p j id = true
permits_if (Some T) p j id = permits T p j id

-- whether p may accept the waiting letter at a receive with this set
abbrev pub may_take : ℕ → Option Trace → List Event → ℕ → ℕ → Message → Bool
may_take M T E p set m =
    (m.dest.no == p)
    && (has_channel set m.chan
    && (permits_if T p (receives E p) m.id && (not (has_channel M m.chan) || is_first E m)))

-- the letters that it may accept, in the order of their sends
abbrev pub allowed : ℕ → Option Trace → List Event → ℕ → ℕ → List Message
allowed M T E p set = filter (may_take M T E p set) (waiting E)

-- whether p has the number of events that the trace gives it
abbrev pub is_at_count : Option Trace → List Event → ℕ → Bool
is_at_count None E p = false
is_at_count (Some T) E p = nat_le (T.counts p) (count E p)

-- p's next entry, of this kind
abbrev pub next_event : List Event → ℕ → Kind → Event
next_event E p kind = record { proc = record { no = p }; number = count E p + 1; kind = kind }

-- p accepts the letter, if there is one
abbrev pub taking : List Event → ℕ → ℕ → Option Message → Turned
taking E p set None = Stays NoLetter
taking E p set (Some m) = Went (next_event E p (Accepted set m.id))

-- a turn of p, by what its script does next: of a allowed letters it accepts the one at place pick mod a
abbrev pub by_next : ℕ → Option Trace → List Event → ℕ → ℕ → Next → Turned
by_next M T E p pick Over = Stays IsOver
by_next M T E p pick (Goes kind) = if is_at_count T E p then Stays AtCount else Went (next_event E p kind)
by_next M T E p pick (Wants set) =
    if is_at_count T E p then Stays AtCount
    else taking E p set (slice_get (allowed M T E p set) (pick % length (allowed M T E p set)))

-- one turn, under the mask M and a trace or none
abbrev pub go : (ℕ → Script) → ℕ → Option Trace → List Event → Turn → Turned
go s M T E t = by_next M T E t.proc t.pick ((s t.proc).next (messages E t.proc) (count E t.proc))

-- the list of events after it
abbrev pub after : List Event → Turned → List Event
after E (Stays why) = E
after E (Went e) = E ++ e ∷ []

-- the run of a schedule
abbrev pub run_of : (ℕ → Script) → ℕ → List Turn → List Event
run_of s M turns = fold (λ E t. after E (go s M None E t)) [] turns

-- the replay of a trace by a schedule
abbrev pub replay_of : (ℕ → Script) → Trace → List Turn → List Event
replay_of s T turns = fold (λ R t. after R (go s T.mask (Some T) R t)) [] turns

-- round robin: the replay so far, the process whose turn is next, how many turns in succession were idle, and how many
-- turns and idle turns were made
pub record Finishing : Type 0 where
  pub events : List Event
  pub next : ℕ
  pub idle_now : ℕ
  pub turns : ℕ
  pub idle : ℕ

-- whether the test holds of all numbers below n
abbrev pub all_below : ℕ → (ℕ → Bool) → Bool
all_below zero test = true
all_below (suc n) test = test n && all_below n test

-- the sum of f over the numbers below n
abbrev pub sum_below : ℕ → (ℕ → ℕ) → ℕ
sum_below zero f = 0
sum_below (suc n) f = f n + sum_below n f

-- whether each process has its recorded count
abbrev pub all_reached : Trace → List Event → Bool
all_reached T R = all_below T.n (λ p. nat_le (T.counts p) (count R p))

-- finishing ends there, or after n turns in succession were idle
abbrev pub is_finished : Trace → Finishing → Bool
is_finished T f = all_reached T f.events || nat_le T.n f.idle_now

-- 0, 1, .., n - 1, 0, ..
abbrev pub next_of : ℕ → ℕ → ℕ
next_of n p = if p + 1 == n then 0 else p + 1

abbrev pub finish_by : Trace → Finishing → Turned → Finishing
finish_by T f (Stays why) =
    record {
      events = f.events;
      next = next_of T.n f.next;
      idle_now = f.idle_now + 1;
      turns = f.turns + 1;
      idle = f.idle + 1;
    }
finish_by T f (Went e) =
    record {
      events = f.events ++ e ∷ [];
      next = next_of T.n f.next;
      idle_now = 0;
      turns = f.turns + 1;
      idle = f.idle;
    }

-- one turn of the round robin, with pick 0
abbrev pub finish_turn : (ℕ → Script) → Trace → Finishing → Finishing
finish_turn s T f = finish_by T f (go s T.mask (Some T) f.events (record { proc = f.next; pick = 0 }))

-- at most so many turns
abbrev pub finish_within : ℕ → (ℕ → Script) → Trace → Finishing → Finishing
finish_within zero s T f = f
finish_within (suc k) s T f = if is_finished T f then f else finish_within k s T (finish_turn s T f)

abbrev pub to_finish : List Event → Finishing
to_finish R = record { events = R; next = 0; idle_now = 0; turns = 0; idle = 0 }

-- n * (C + 1) turns are enough, C the sum of the recorded counts
abbrev pub enough_turns : Trace → ℕ
enough_turns T = T.n * (sum_below T.n T.counts + 1)

-- the replay R, finished by the round robin
abbrev pub finish_of : (ℕ → Script) → Trace → List Event → Finishing
finish_of s T R = finish_within (enough_turns T) s T (to_finish R)

-- a process whose turn makes an event, whatever the pick
pub record CanGo (s : ℕ → Script) (T : Trace) (R : List Event) : Type 0 where
  pub proc : ℕ
  pub below : proc < T.n
  pub goes : (pick : ℕ) → (e : Event) × (go s T.mask (Some T) R (record { proc = proc; pick = pick }) ≡ Went e)
