-- A worked example: two senders and a receiver. The letter that comes second raced with the one that came first.
use Rattle.std.specs.Prelude.{◌≡◌, ℕ, zero, suc, List, [], ◌∷◌}
use Rattle.nm_base.specs.declared.letter.LetterId.{LetterId}
use Rattle.nm_base.specs.declared.kind.Kind.TheVariants.{Sent, Accepted}
use Rattle.nm_base.specs.Message.{Message}
use Rattle.nm_base.specs.Scripts.{Script, Next, Goes, Wants, Over, IsLawful}
use Rattle.event_list.specs.declared.Event.{Event}
use Rattle.event_list.specs.Races.{IsLogged}
use Rattle.event_list.specs.Turns.{Turn, run_of}

-- process 0 wants two letters on channel 0; processes 1 and 2 send it one each
abbrev pub receiver_next : ℕ → Next
receiver_next zero = Wants 1
receiver_next (suc zero) = Wants 1
receiver_next (suc (suc k)) = Over

abbrev pub sender_next : ℕ → Next
sender_next zero = Goes (Sent 0 (record { no = 0 }) 0 1 (7 ∷ []))
sender_next (suc k) = Over

abbrev pub three : ℕ → Script
three zero = record { next = λ letters k. receiver_next k }
three (suc zero) = record { next = λ letters k. sender_next k }
three (suc (suc zero)) = record { next = λ letters k. sender_next k }
three (suc (suc (suc p))) = record { next = λ letters k. Over }

-- the first letter of process p
abbrev pub name_of : ℕ → LetterId
name_of p = record { sender = record { no = p }; number = 0 }

abbrev pub letter_from : ℕ → Message
letter_from p = record { id = name_of p; dest = record { no = 0 }; chan = 0; words = 7 ∷ [] }

abbrev pub turn_of : ℕ → Turn
turn_of p = record { proc = p; pick = 0 }

-- both senders go, then the receiver takes the letter of 1 and that of 2
abbrev pub schedule : List Turn
schedule = turn_of 1 ∷ turn_of 2 ∷ turn_of 0 ∷ turn_of 0 ∷ []

abbrev pub sending : ℕ → Event
sending p = record { proc = record { no = p }; number = 1; kind = Sent 0 (record { no = 0 }) 0 1 (7 ∷ []) }

abbrev pub taking_from : ℕ → ℕ → Event
taking_from number p = record { proc = record { no = 0 }; number = number; kind = Accepted 1 (name_of p) }

abbrev pub events : List Event
events = sending 1 ∷ sending 2 ∷ taking_from 1 1 ∷ taking_from 2 2 ∷ []

-- the scripts are lawful, the schedule makes these events, and of the two letters that of process 2 is logged
pub record ExampleLaw : Type 0 where
  pub lawful : (p : ℕ) → IsLawful (three p)
  pub run : run_of three 0 schedule ≡ events
  pub logged : IsLogged 0 events (letter_from 2)
  pub not_logged : IsLogged 0 events (letter_from 1) → ⊥
