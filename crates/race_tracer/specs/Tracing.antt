-- Which events a tracer stands for, and what it is told.
use Rattle.std.specs.Prelude.{◌≡◌, ℕ, ◌+◌, ◌*◌, ◌<◌, ◌≤◌, ◌⊎◌, true, List, [], ◌∷◌, ◌++◌, None, Contains, slice_index, slice_index_or}
use Rattle.nm_base.specs.declared.letter.ProcNo.{ProcNo}
use Rattle.nm_base.specs.declared.letter.LetterId.{LetterId}
use Rattle.nm_base.specs.declared.letter.Letter.{Letter}
use Rattle.nm_base.specs.declared.kind.Kind.TheVariants.{Accepted}
use Rattle.nm_base.specs.declared.limits.TheConstants.{MAX_PROCESSES}
use Rattle.nm_base.specs.Channels.{has_channel}
use Rattle.nm_base.specs.Message.{Message, message_of}
use Rattle.nm_base.specs.Scripts.{Script}
use Rattle.vector_clocks.specs.Parts.{part}
use Rattle.event_list.specs.declared.Event.{Event}
use Rattle.event_list.specs.Events.{IsSent, IsTaken, Sends, receives, taken_of}
use Rattle.event_list.specs.Runs.{IsRun, Sound}
use Rattle.event_list.specs.Clocks.{IsCounts}
use Rattle.event_list.specs.Laws.{AreLawful}

-- what a tracer keeps: the ordered channels, and three tables
pub record Tables : Type 0 where
  -- the ordered channels
  pub mask : ℕ
  -- by process and channel: the number of the last receive whose set names the channel
  pub naming : List (List ℕ)
  -- by sender, process and channel: the number of the last receive of a letter of the sender on the channel
  pub taking : List ℕ
  -- by process: how many letters it received
  pub receives : List ℕ

abbrev pub named_at : Tables → ℕ → ℕ → ℕ
named_at t p chan = slice_index (slice_index_or t.naming p []) chan

-- where the number of a sender, a process and a channel stands
abbrev pub place : ℕ → ℕ → ℕ → ℕ
place sender p chan = (sender * 32 + p) * 32 + chan

abbrev pub taken_at : Tables → ℕ → ℕ → ℕ → ℕ
taken_at t sender p chan = slice_index t.taking (place sender p chan)

-- the number is that of the last entry of which P holds, or 0 where there is none
pub record IsLast (E : List Event) (P : Event → Type 0) (number : ℕ) : Type 0 where
  pub is : (number ≡ 0) ⊎ ((q : Event) × Contains E q × P q × (q.number ≡ number))
  pub last : (q : Event) → Contains E q → P q → q.number ≤ number

-- a receive of p whose set names the channel
pub record Names (p chan : ℕ) (q : Event) : Type 0 where
  pub of_p : q.proc.no ≡ p
  pub set : ℕ
  pub id : LetterId
  pub kind : q.kind ≡ Accepted set id
  pub in_set : has_channel set chan ≡ true

-- a receive of p, of a letter of the sender on the channel
pub record Takes (E : List Event) (sender p chan : ℕ) (q : Event) : Type 0 where
  pub of_p : q.proc.no ≡ p
  pub set : ℕ
  pub letter : Message
  pub sent : IsSent E letter
  pub kind : q.kind ≡ Accepted set letter.id
  pub sender_is : letter.id.sender.no ≡ sender
  pub chan_is : letter.chan ≡ chan

-- the tracer was told of the receives in E
pub record IsTracerOf (t : Tables) (E : List Event) : Type 0 where
  pub naming : (p chan : ℕ) → chan < 32 → IsLast E (Names p chan) (named_at t p chan)
  pub taking : (sender p chan : ℕ) → sender < MAX_PROCESSES → p < MAX_PROCESSES → chan < 32
      → IsLast E (Takes E sender p chan) (taken_at t sender p chan)
  pub receives_is : (p : ℕ) → slice_index t.receives p ≡ receives E p

-- the letter was sent in E, and its timestamp counts the past of its send
pub record HasStamp (E : List Event) (l : Letter) : Type 0 where
  pub send : Event
  pub sends : Sends E send (message_of l)
  pub counts : IsCounts E send (part l.stamp)

-- a run of lawful scripts under the mask, of at most 32 processes
pub record IsLawfulRun (M : ℕ) (E : List Event) : Type 0 where
  pub scripts : ℕ → Script
  pub lawful : AreLawful scripts
  pub run : IsRun scripts M E
  pub below : (e : Event) → Contains E e → e.proc.no < MAX_PROCESSES

abbrev pub receive_of : ProcNo → ℕ → ℕ → Letter → Event
receive_of p number set l = record { proc = p; number = number; kind = Accepted set l.id }

-- E and then this receive
abbrev pub received : List Event → ProcNo → ℕ → ℕ → Letter → List Event
received E p number set l = E ++ receive_of p number set l ∷ []

-- what is told is the run's next event, and the letter has the timestamp of its send
pub record IsNext (M : ℕ) (E : List Event) (p : ProcNo) (number set : ℕ) (l : Letter) : Type 0 where
  pub run : IsLawfulRun M (received E p number set l)
  pub stamp : HasStamp (received E p number set l) l

-- l waits at the end of a run, with the timestamp of its send
pub record IsLeft (M : ℕ) (E : List Event) (l : Letter) : Type 0 where
  pub run : IsLawfulRun M E
  pub stamp : HasStamp E l
  pub waits : IsTaken E l.id → ⊥

-- in a sound list an event that is no receive need not be told
abbrev pub OtherEventsLaw : Type 0
OtherEventsLaw = (t : Tables) (E : List Event) (e : Event) → Sound t.mask (E ++ e ∷ []) → taken_of e ≡ None
    → IsTracerOf t E → IsTracerOf t (E ++ e ∷ [])
