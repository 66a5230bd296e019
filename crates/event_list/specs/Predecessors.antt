-- The letters that come before a letter on its channel, and the order in which they are received.
use Rattle.std.specs.Prelude.{◌≡◌, ℕ, ◌≤◌, ◌⊎◌, List}
use Rattle.nm_base.specs.Message.{Message}
use Rattle.event_list.specs.declared.Event.{Event}
use Rattle.event_list.specs.Events.{IsSent, Accepts, Precedes}

-- the letter is received in E at an entry of which P holds
abbrev pub IsReceived : List Event → Message → (Event → Type 0) → Type 0
IsReceived E l P = (r : Event) × (set : ℕ) × Accepts E r set l.id × P r

-- l is the last of m's predecessors: the earlier letters of its sender, to the same process on the same channel
pub record IsLastPredecessor (E : List Event) (l m : Message) : Type 0 where
  pub sent : IsSent E l
  pub precedes : Precedes l m
  pub last : (k : Message) → IsSent E k → Precedes k m → k.id.number ≤ l.id.number

-- each of m's predecessors is received, and k is the greatest number of these receives, or 0 if m has no predecessor
pub record AreReceivedBy (E : List Event) (m : Message) (k : ℕ) : Type 0 where
  pub all : (l : Message) → IsSent E l → Precedes l m → IsReceived E l (λ r. r.number ≤ k)
  pub greatest : (k ≡ 0) ⊎ ((l : Message) × IsSent E l × Precedes l m × IsReceived E l (λ r. r.number ≡ k))
