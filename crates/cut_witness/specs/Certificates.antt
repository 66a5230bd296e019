-- What a certificate tells, and the run that its turns make.
use Rattle.std.specs.Prelude.{◌≡◌, ℕ, List, [], ◌∷◌, ◌++◌, Option, Some, None, map}
use Rattle.nm_base.specs.declared.letter.LetterId.{LetterId}
use Rattle.nm_base.specs.declared.kind.Kind.TheVariants.{Accepted}
use Rattle.nm_base.specs.Message.{Message}
use Rattle.nm_base.specs.Scripts.{Script}
use Rattle.event_list.specs.declared.Event.{Event}
use Rattle.event_list.specs.Events.{IsTaken, Sends, Accepts}
use Rattle.event_list.specs.Races.{IsEarlier}
use Rattle.event_list.specs.Traces.{Keeps, receive_number}
use Rattle.event_list.specs.Witnesses.{IsKept, taking_instead, IsWitnessOf}
use Rattle.event_list.specs.Carrying.{Move, moves_of, carried_out}
use Rattle.cut_witness.specs.declared.certificates.Witness.{Witness}
use Rattle.cut_witness.specs.declared.certificates.WitnessTurn.{WitnessTurn}

-- the move that a turn says
abbrev pub move_at : WitnessTurn → Move
move_at t = record { proc = t.proc.no; takes = t.took }

-- the letter was received at its process's receive of this number, or wasn't
abbrev pub IsReceivedAt : List Event → LetterId → Option ℕ → Type 0
IsReceivedAt E id None = IsTaken E id → ⊥
IsReceivedAt E id (Some number) = (b : Event) × (set : ℕ) × Accepts E b set id × (receive_number E b ≡ number)

-- w tells of its letter where it went and where it was received, which receive was the last that could have taken it,
-- and the turns: those of the two pasts without that receive, in the list's order, and last the receive with this
-- letter
pub record IsCertificate (M : ℕ) (E : List Event) (w : Witness) : Type 0 where
  pub letter : Message
  pub named : letter.id ≡ w.id
  pub goes_to : letter.dest ≡ w.dest
  pub goes_on : letter.chan ≡ w.chan
  pub received : IsReceivedAt E w.id w.received
  pub send : Event
  pub sends : Sends E send letter
  pub earlier : Event
  pub is_earlier : IsEarlier M E letter earlier
  pub took : LetterId
  pub receive : earlier.kind ≡ Accepted w.set took
  pub receive_is : receive_number E earlier ≡ w.earlier_receive
  pub event_is : earlier.number ≡ w.earlier_event
  pub front : List Event
  pub kept : Keeps (IsKept E send earlier) E front
  pub turns : map move_at w.turns ≡ moves_of (front ++ taking_instead earlier w.set letter.id ∷ [])

-- the turns, carried out from the start, are the witness of the letter
pub record IsCarriedOut (s : ℕ → Script) (M : ℕ) (E : List Event) (w : Witness) : Type 0 where
  pub letter : Message
  pub named : letter.id ≡ w.id
  pub run : List Event
  pub made : carried_out s M (map move_at w.turns) ≡ Some run
  pub witness : IsWitnessOf s M E letter run
