-- Which receives could have taken a letter, which race, and which letters are logged.
use Rattle.std.specs.Prelude.{◌≡◌, ℕ, ◌+◌, ◌<◌, ◌≤◌, true, List}
use Rattle.nm_base.specs.declared.letter.LetterId.{LetterId}
use Rattle.nm_base.specs.Message.{Message}
use Rattle.nm_base.specs.Channels.{has_channel}
use Rattle.event_list.specs.declared.Event.{Event}
use Rattle.event_list.specs.Events.{IsSent, Sends, Accepts, Precedes}
use Rattle.event_list.specs.Order.{Cut, Within, IsConsistent}

-- the receive q could have taken the letter m
pub record CouldTake (M : ℕ) (E : List Event) (q : Event) (m : Message) : Type 0 where
  pub sent : IsSent E m
  -- q is a receive of m's destination, and its set names m's channel
  pub set : ℕ
  pub took : LetterId
  pub receive : Accepts E q set took
  pub at_dest : q.proc.no ≡ m.dest.no
  pub in_set : has_channel set m.chan ≡ true
  -- q comes before m's own receive, if m is received
  pub before_own : (r : Event) (set : ℕ) → Accepts E r set m.id → q.number < r.number
  -- on an ordered channel, each earlier letter of m's sender there was received before q
  pub in_order : has_channel M m.chan ≡ true → (l : Message) → IsSent E l → Precedes l m
      → (r : Event) × (set : ℕ) × Accepts E r set l.id × (r.number < q.number)

-- m could have been at q: a consistent cut holds m's send, and of q's process exactly the entries before q
pub record Race (M : ℕ) (E : List Event) (q : Event) (m : Message) : Type 0 where
  pub could : CouldTake M E q m
  pub cut : Cut
  pub consistent : IsConsistent E cut
  pub send : Event
  pub sends : Sends E send m
  pub holds_send : Within cut send
  pub up_to : cut q.proc.no + 1 ≡ q.number

-- q is the last receive that could have taken m
pub record IsEarlier (M : ℕ) (E : List Event) (m : Message) (q : Event) : Type 0 where
  pub could : CouldTake M E q m
  pub last : (r : Event) → CouldTake M E r m → r.number ≤ q.number

-- m is logged: there is such a receive, and the last of them races with m
abbrev pub IsLogged : ℕ → List Event → Message → Type 0
IsLogged M E m = (q : Event) × IsEarlier M E m q × Race M E q m
