-- What the steps to a certificate find.
use Rattle.std.specs.Prelude.{◌≡◌, ℕ, ◌==◌, ◌&&◌, ◌||◌, Bool, true, false, not, is_some, nat_le, nat_lt, List, Option, Some, None}
use Rattle.nm_base.specs.declared.letter.LetterId.{LetterId}
use Rattle.nm_base.specs.declared.kind.Kind.{Kind}
use Rattle.nm_base.specs.declared.kind.Kind.TheVariants.{Accepted}
use Rattle.nm_base.specs.Channels.{has_channel}
use Rattle.nm_base.specs.Message.{Message}
use Rattle.event_list.specs.declared.Event.{Event}
use Rattle.event_list.specs.Events.{taken_of, IsSent, IsTaken, Sends, Accepts, Precedes}
use Rattle.event_list.specs.Order.{Before}
use Rattle.event_list.specs.Clocks.{IsCounts}
use Rattle.event_list.specs.Races.{CouldTake, IsEarlier}
use Rattle.event_list.specs.Predecessors.{AreReceivedBy}
use Rattle.causal_stop.specs.Stops.{cut_of}
use Rattle.cut_witness.specs.declared.earlier.Posted.{Posted}
use Rattle.cut_witness.specs.declared.kept.Kept.{Kept}

-- the send a of the letter m is told
pub record IsPosted (E : List Event) (a : Event) (m : Message) (p : Posted) : Type 0 where
  pub sends : Sends E a m
  pub named : m.id ≡ p.id
  pub to : m.dest ≡ p.dest
  pub on : m.chan ≡ p.chan
  pub numbered : a.number ≡ p.event

-- the letter of this name, if it was sent
abbrev pub TellsPosted : List Event → LetterId → Option Posted → Type 0
TellsPosted E id None = (m : Message) → IsSent E m → m.id ≡ id → ⊥
TellsPosted E id (Some p) = (p.id ≡ id) × (a : Event) × (m : Message) × IsPosted E a m p

-- what an event tells, if it is a send
abbrev pub posted_by : Event → LetterId → Option Message → Option Posted
posted_by e id None = None
posted_by e id (Some m) = Some record { id = id; event = e.number; dest = m.dest; chan = m.chan }

-- the name of a letter, if there is one
abbrev pub name_in : Option Message → Option LetterId
name_in None = None
name_in (Some m) = Some m.id

-- the set of a receive
abbrev pub set_in : Kind → ℕ
set_in (Accepted set id) = set
set_in _ = 0

-- where m's channel is ordered, the number is that of the last receive of a predecessor, or one waits
abbrev pub IsSince : ℕ → List Event → Message → Option ℕ → Type 0
IsSince M E m None = (has_channel M m.chan ≡ true) × (l : Message) × IsSent E l × Precedes l m × (IsTaken E l.id → ⊥)
IsSince M E m (Some k) = (has_channel M m.chan ≡ true → AreReceivedBy E m k) × (has_channel M m.chan ≡ false → k ≡ 0)

-- the number of the event that receives the letter, if one does
abbrev pub IsReceiveOf : List Event → LetterId → Option ℕ → Type 0
IsReceiveOf E id None = IsTaken E id → ⊥
IsReceiveOf E id (Some k) = (b : Event) × (set : ℕ) × Accepts E b set id × (b.number ≡ k)

-- the event that receives the letter, if one does
abbrev pub IsOwn : List Event → LetterId → Option Event → Type 0
IsOwn E id None = IsTaken E id → ⊥
IsOwn E id (Some b) = (set : ℕ) × Accepts E b set id

-- the number of an event, if there is one
abbrev pub number_in : Option Event → Option ℕ
number_in None = None
number_in (Some e) = Some e.number

-- the last receive that could have taken the letter, if one could
abbrev pub TellsEarlier : ℕ → List Event → Message → Option Event → Type 0
TellsEarlier M E m None = (q : Event) → CouldTake M E q m → ⊥
TellsEarlier M E m (Some q) = IsEarlier M E m q

-- the pasts of the send a and of the receive q, unless q happened before a
abbrev pub TellsKept : List Event → Event → Event → Option Kept → Type 0
TellsKept E a q None = Before E q a
TellsKept E a q (Some k) = (Before E q a → ⊥) × IsCounts E a (cut_of k.send) × IsCounts E q (cut_of k.receive)
    × (k.without.no ≡ q.proc.no) × (k.number ≡ q.number)

-- whether the event is kept
abbrev pub is_kept : Kept → Event → Bool
is_kept k e =
    (nat_le e.number (cut_of k.send e.proc.no) || nat_le e.number (cut_of k.receive e.proc.no))
    && not ((e.proc.no == k.without.no) && (e.number == k.number))

-- whether the event is a receive of p before its event of this number
abbrev pub is_receive_below : ℕ → ℕ → Event → Bool
is_receive_below p number e = is_some (taken_of e) && ((e.proc.no == p) && nat_lt e.number number)
