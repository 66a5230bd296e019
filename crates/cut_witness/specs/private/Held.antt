-- Letters that wait on an ordered channel behind another that waits.
use Rattle.std.specs.Prelude.{◌≡◌, ℕ, ◌<◌, Bool, true, List, Option, Some, Contains}
use Rattle.nm_base.specs.declared.letter.LetterId.{LetterId}
use Rattle.nm_base.specs.Channels.{has_channel}
use Rattle.nm_base.specs.Message.{Message}
use Rattle.event_list.specs.declared.Event.{Event}
use Rattle.event_list.specs.Events.{taken_of, IsSent, IsTaken}
use Rattle.cut_witness.specs.declared.posts.Post.{Post}
use Rattle.cut_witness.specs.declared.quiet.Lane.{Lane}
use Rattle.cut_witness.specs.private.Quiet.{lane_of}

-- the names have what the events accept
pub record AreReceived (done : List Event) (received : LetterId → Bool) : Type 0 where
  pub each : (b : Event) (id : LetterId) → Contains done b → taken_of b ≡ Some id → received id ≡ true

-- the letter of this number on the lane was never received
pub record IsHeld (E : List Event) (lane : Lane) (number : ℕ) : Type 0 where
  pub letter : Message
  pub sent : IsSent E letter
  pub sender : letter.id.sender.no ≡ lane.sender.no
  pub dest : letter.dest.no ≡ lane.dest.no
  pub chan : letter.chan ≡ lane.chan
  pub number_is : letter.id.number ≡ number
  pub waits : IsTaken E letter.id → ⊥

-- what is looked up by a lane waits on it
pub record AreHeld (E : List Event) (held : Lane → Option ℕ) : Type 0 where
  pub each : (lane : Lane) (number : ℕ) → held lane ≡ Some number → IsHeld E lane number

-- the letter's channel is ordered, and a letter with a lower number waits on its lane
pub record IsBehind (M : ℕ) (held : Lane → Option ℕ) (id : LetterId) (p : Post) : Type 0 where
  pub ordered : has_channel M p.chan ≡ true
  pub first : ℕ
  pub waits : held (lane_of id p) ≡ Some first
  pub lower : first < id.number
