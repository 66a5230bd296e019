-- Letters that are told not to be logged.
use Rattle.std.specs.Prelude.{◌≡◌, ℕ, ◌<◌, ◌≤◌, ◌==◌, ◌&&◌, max, nat_lt, Bool, true, List, Option, None, Some, IfSome, Contains, if◌then◌else◌}
use Rattle.nm_base.specs.declared.letter.LetterId.{LetterId}
use Rattle.nm_base.specs.Channels.{has_channel}
use Rattle.nm_base.specs.Message.{Message}
use Rattle.vector_clocks.specs.Parts.{part}
use Rattle.event_list.specs.declared.Event.{Event}
use Rattle.event_list.specs.Events.{IsSent, Accepts}
use Rattle.event_list.specs.Traces.{IsLoggedName}
use Rattle.cut_witness.specs.declared.posts.Post.{Post}
use Rattle.cut_witness.specs.declared.quiet.Lane.{Lane}
use Rattle.cut_witness.specs.declared.quiet.Taken.{Taken}
use Rattle.cut_witness.specs.private.Queries.{is_naming}

-- none of the letters is logged
pub record AreQuiet (M : ℕ) (E : List Event) (quiet : LetterId → Bool) : Type 0 where
  pub each : (id : LetterId) → quiet id ≡ true → IsLoggedName M E id → ⊥

-- no receive of a process that names the channel has a number above `last`
pub record AreLast (done : List Event) (last : ℕ → ℕ → ℕ) : Type 0 where
  pub each : (q : Event) (chan : ℕ) → Contains done q → chan < 32 → is_naming q.kind chan ≡ true
      → q.number ≤ last q.proc.no chan

abbrev pub same_lane : Lane → Lane → Bool
same_lane a b = (a.sender.no == b.sender.no) && ((a.dest.no == b.dest.no) && (a.chan == b.chan))

abbrev pub lane_of : LetterId → Post → Lane
lane_of id p = record { sender = id.sender; dest = p.dest; chan = p.chan }

-- a letter on the lane was received at its process's event of this number
pub record IsTakenOn (E : List Event) (lane : Lane) (t : Taken) : Type 0 where
  pub letter : Message
  pub sent : IsSent E letter
  pub event : Event
  pub set : ℕ
  pub accepts : Accepts E event set letter.id
  pub sender : letter.id.sender.no ≡ lane.sender.no
  pub dest : letter.dest.no ≡ lane.dest.no
  pub chan : letter.chan ≡ lane.chan
  pub number : letter.id.number ≡ t.letter
  pub at : event.number ≡ t.event

-- what is looked up by a lane was received on it
pub record AreTaken (E : List Event) (lanes : Lane → Option Taken) : Type 0 where
  pub each : (lane : Lane) (t : Taken) → lanes lane ≡ Some t → IsTakenOn E lane t

-- the event's number, where the letter that it took comes before one of this number
abbrev pub if_before : ℕ → Option Taken → ℕ
if_before number None = 0
if_before number (Some t) = if nat_lt t.letter number then t.event else 0

-- after which receive one could have taken the letter
abbrev pub behind : ℕ → (Lane → Option Taken) → LetterId → Post → ℕ
behind M lanes id p = if has_channel M p.chan then if_before id.number (lanes (lane_of id p)) else 0

-- no receive comes late enough to race with the letter
pub record IsLow (M : ℕ) (last : ℕ → ℕ → ℕ) (lanes : Lane → Option Taken) (id : LetterId) (p : Post) : Type 0 where
  pub channel : p.chan < 32
  pub low : last p.dest.no p.chan ≤ max (part p.past p.dest.no) (behind M lanes id p)

-- the letter, if one is given, isn't logged
abbrev pub TellsQuiet : ℕ → List Event → Option LetterId → Type 0
TellsQuiet M E found = IfSome found (λ id. IsLoggedName M E id → ⊥)
