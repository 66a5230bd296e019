-- Which scripts and which events a world stands for.
use Rattle.std.specs.Prelude.{◌≡◌, ℕ, ◌<◌, ◌≤◌, List, length, map, Some, slice_get, slice_index, Contains}
use Rattle.nm_base.specs.declared.letter.ProcNo.{ProcNo}
use Rattle.nm_base.specs.declared.letter.Stamp.{Stamp}
use Rattle.nm_base.specs.declared.letter.Letter.{Letter}
use Rattle.nm_base.specs.declared.limits.TheConstants.{MAX_EVENTS}
use Rattle.nm_base.specs.Message.{message_of}
use Rattle.nm_base.specs.Scripts.{Script, letter_made}
use Rattle.processes.specs.Standing.{Standing}
use Rattle.vector_clocks.specs.Parts.{part, part_of}
use Rattle.event_list.specs.declared.Event.{Event}
use Rattle.event_list.specs.Events.{count, messages, receives, letters, taken}
use Rattle.event_list.specs.Runs.{IsRun}
use Rattle.event_list.specs.Traces.{waiting}
use Rattle.event_list.specs.Clocks.{clocks}
use Rattle.event_list.specs.Laws.{AreLawful}
use Rattle.world.specs.Moves.{stamped}

-- what a contract sees of a world: its processes by number, its mail with the waiting letters and the mask of
-- ordered channels,
-- the clocks, how many letters each process accepted, and how many letters were sent and accepted and events happened
pub record Parts (P M : Type 0) : Type 0 where
  pub processes : List P
  pub mail : M
  pub letters : List Letter
  pub mask : ℕ
  pub clocks : List Stamp
  pub receives : List ℕ
  pub sent : ℕ
  pub accepted : ℕ
  pub events : ℕ

-- the letter was sent in E as that of its number of posting, and its timestamp is that of its send
pub record IsPosted (E : List Event) (l : Letter) : Type 0 where
  pub place : slice_get (letters E) l.posted ≡ Some (message_of l)
  pub stamp : (q : ℕ) → part l.stamp q ≡ (clocks E).stamp l.id q
  -- but for the two it is the letter that its send made, unused words included
  pub send : Event
  pub in_list : Contains E send
  pub unposted : Letter
  pub made : letter_made send.proc send.kind ≡ Some unposted
  pub is : l ≡ stamped l.posted l.stamp unposted

-- the world stands for the scripts s, one for each process, after the events E
pub record IsWorldOf {P M : Type 0} (stands_for : P → Standing) (w : Parts P M) (s : ℕ → Script) (E : List Event)
    : Type 0 where
  pub lawful : AreLawful s
  pub run : IsRun s w.mask E
  pub below : (e : Event) → Contains E e → e.proc.no < length w.processes
  -- each process stands for its script, with the letters that it accepted and its number of events
  pub stands : (p : ℕ) (x : P) → slice_get w.processes p ≡ Some x → stands_for x (s p) (messages E p) (count E p)
  -- the mail has the waiting letters, with their timestamps and numbers of posting
  pub mail : map message_of w.letters ≡ waiting E
  pub posted : (l : Letter) → Contains w.letters l → IsPosted E l
  pub clock : (p q : ℕ) → part_of w.clocks p q ≡ (clocks E).clock p q
  pub receives : (p : ℕ) → slice_index w.receives p ≡ receives E p
  pub sent : w.sent ≡ length (letters E)
  pub accepted : w.accepted ≡ length (taken E)
  pub events : w.events ≡ length E

-- whatever the first world stands for, the second stands for it, too
abbrev pub StandsForAll : {P M : Type 0} → (P → Standing) → Parts P M → Parts P M → Type 0
StandsForAll stands_for w v = (s : ℕ → Script) (E : List Event) → IsWorldOf stands_for w s E
    → IsWorldOf stands_for v s E

-- the i-th process has number i
abbrev pub AreNumbered : {P : Type 0} → (P → ProcNo) → List P → Type 0
AreNumbered {P} name_of ps = (p : ℕ) (x : P) → slice_get ps p ≡ Some x → name_of x ≡ record { no = p }

-- what holds of every world: it has 1 to 32 processes, at most 1,000,000 events happened, and it stands for some
-- scripts and events
pub record IsWorld {P M : Type 0} (stands_for : P → Standing) (name_of : P → ProcNo) (w : Parts P M) : Type 0 where
  pub some : 0 < length w.processes
  pub few : length w.processes ≤ 32
  pub room : w.events ≤ MAX_EVENTS
  pub each : length w.receives ≡ 32
  pub names : AreNumbered name_of w.processes
  pub run : (s : ℕ → Script) × (E : List Event) × IsWorldOf stands_for w s E
