-- Happened-before, and cuts.
use Rattle.std.specs.Prelude.{◌≡◌, ℕ, ◌<◌, ◌≤◌, ◌⊎◌, List, Some, Contains}
use Rattle.nm_base.specs.Message.{Message}
use Rattle.event_list.specs.declared.Event.{Event}
use Rattle.event_list.specs.Events.{count, letter_of, taken_of}

-- b is a later entry of a's process
pub record Follows (a b : Event) : Type 0 where
  pub same : a.proc.no ≡ b.proc.no
  pub later : a.number < b.number

-- a sends the letter that b accepts
pub record Delivers (a b : Event) : Type 0 where
  pub letter : Message
  pub sent : letter_of a ≡ Some letter
  pub taken : taken_of b ≡ Some letter.id

-- a link goes from an entry to a later entry of the same process, or from a send to the receive of its letter
pub record Link (E : List Event) (a b : Event) : Type 0 where
  pub first : Contains E a
  pub second : Contains E b
  pub how : Follows a b ⊎ Delivers a b

-- a happened before b: there is a chain of at least one link from a to b
pub data Before (E : List Event) (a : Event) : Event → Type 0 where
  one : {b : Event} → Link E a b → Before E a b
  further : {b c : Event} → Before E a b → Link E b c → Before E a c

-- x is in the past of a: it is a, or happened before a
abbrev pub IsPast : List Event → Event → Event → Type 0
IsPast E a x = Contains E x × ((x ≡ a) ⊎ Before E x a)

-- a cut gives each process a number of its first entries
abbrev pub Cut : Type 0
Cut = ℕ → ℕ

-- the event is in the cut
abbrev pub Within : Cut → Event → Type 0
Within c e = e.number ≤ c e.proc.no

-- a cut of E, which holds the send of every receive in it
pub record IsConsistent (E : List Event) (c : Cut) : Type 0 where
  pub is_cut : (p : ℕ) → c p ≤ count E p
  pub closed : (a b : Event) → Contains E a → Contains E b → Delivers a b → Within c b → Within c a
