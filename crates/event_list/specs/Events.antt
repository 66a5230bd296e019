-- What is read off a list of events.
use Rattle.std.specs.Prelude.{◌≡◌, ℕ, ◌<◌, ◌==◌, Bool, List, length, Option, Some, None, filter, filter_map, find, Contains}
use Rattle.nm_base.specs.declared.letter.LetterId.{LetterId}
use Rattle.nm_base.specs.declared.kind.Kind.{Kind}
use Rattle.nm_base.specs.declared.kind.Kind.TheVariants.{Accepted}
use Rattle.nm_base.specs.Message.{Message, same_name}
use Rattle.nm_base.specs.Scripts.{message_sent}
use Rattle.event_list.specs.declared.Event.{Event}

-- whether the event is one of process p
abbrev pub is_of : ℕ → Event → Bool
is_of p e = e.proc.no == p

-- p's entries, and how many there are
abbrev pub entries : List Event → ℕ → List Event
entries E p = filter (is_of p) E

abbrev pub count : List Event → ℕ → ℕ
count E p = length (entries E p)

-- the letter that an event sends, if it sends one
abbrev pub letter_of : Event → Option Message
letter_of e = message_sent e.proc e.kind

-- the name of the letter that an event accepts, if it accepts one
abbrev pub taken_in : Kind → Option LetterId
taken_in (Accepted set id) = Some id
taken_in _ = None

abbrev pub taken_of : Event → Option LetterId
taken_of e = taken_in e.kind

-- the letters sent, in order
abbrev pub letters : List Event → List Message
letters E = filter_map letter_of E

-- the names of the letters accepted, in order
abbrev pub taken : List Event → List LetterId
taken E = filter_map taken_of E

-- the letter of this name, if it was sent
abbrev pub letter_named : List Event → LetterId → Option Message
letter_named E id = find (λ m. same_name m.id id) (letters E)

-- the letters that p accepted, in order
abbrev pub messages : List Event → ℕ → List Message
messages E p = filter_map (letter_named E) (taken (entries E p))

-- how many letters p accepted, and how many it sent
abbrev pub receives : List Event → ℕ → ℕ
receives E p = length (taken (entries E p))

abbrev pub sends : List Event → ℕ → ℕ
sends E p = length (letters (entries E p))

-- the entry a of E sends the letter
pub record Sends (E : List Event) (a : Event) (m : Message) : Type 0 where
  pub in_list : Contains E a
  pub letter : letter_of a ≡ Some m

-- the entry b of E is a receive with this set, and accepts the letter of this name
pub record Accepts (E : List Event) (b : Event) (set : ℕ) (id : LetterId) : Type 0 where
  pub in_list : Contains E b
  pub kind : b.kind ≡ Accepted set id

-- the letter was sent in E
abbrev pub IsSent : List Event → Message → Type 0
IsSent E m = (a : Event) × Sends E a m

-- the letter of this name was accepted in E
abbrev pub IsTaken : List Event → LetterId → Type 0
IsTaken E id = (b : Event) × (set : ℕ) × Accepts E b set id

-- l is an earlier letter of m's sender, to the same process on the same channel
pub record Precedes (l m : Message) : Type 0 where
  pub sender : l.id.sender.no ≡ m.id.sender.no
  pub earlier : l.id.number < m.id.number
  pub dest : l.dest.no ≡ m.dest.no
  pub chan : l.chan ≡ m.chan
