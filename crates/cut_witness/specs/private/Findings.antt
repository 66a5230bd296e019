-- What is found of a logged letter.
use Rattle.std.specs.Prelude.{◌≡◌, ℕ, List, Option, Some, None}
use Rattle.nm_base.specs.declared.letter.LetterId.{LetterId}
use Rattle.nm_base.specs.Message.{Message}
use Rattle.event_list.specs.declared.Event.{Event}
use Rattle.event_list.specs.Races.{IsEarlier}
use Rattle.event_list.specs.Traces.{IsLoggedName}
use Rattle.cut_witness.specs.declared.making.Found.{Found}
use Rattle.cut_witness.specs.private.Steps.{IsPosted, IsOwn, TellsKept}

-- it is the send and the receive of the letter of this name, the last receive that could have taken it, and both pasts
pub record IsFound (M : ℕ) (E : List Event) (id : LetterId) (f : Found) : Type 0 where
  pub send : Event
  pub letter : Message
  pub posted : IsPosted E send letter f.letter
  pub named : f.letter.id ≡ id
  pub own : IsOwn E letter.id f.own
  pub earlier : IsEarlier M E letter f.receive
  pub kept : TellsKept E send f.receive (Some f.kept)

abbrev pub TellsFound : ℕ → List Event → LetterId → Option Found → Type 0
TellsFound M E id None = IsLoggedName M E id → ⊥
TellsFound M E id (Some f) = IsFound M E id f
