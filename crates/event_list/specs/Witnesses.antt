-- Witnesses: runs in which the last earlier receive that could have taken a logged letter takes it.
use Rattle.std.specs.Prelude.{◌≡◌, ◌≢◌, ℕ, ◌-◌, ◌==◌, max, if◌then◌else◌, ◌⊎◌, ◌↔◌, List, [], ◌∷◌, ◌++◌, Contains}
use Rattle.nm_base.specs.declared.letter.LetterId.{LetterId}
use Rattle.nm_base.specs.declared.kind.Kind.TheVariants.{Accepted}
use Rattle.nm_base.specs.Message.{Message}
use Rattle.nm_base.specs.Scripts.{Script}
use Rattle.event_list.specs.declared.Event.{Event}
use Rattle.event_list.specs.Events.{Sends}
use Rattle.event_list.specs.Order.{IsPast, Cut, Within, IsConsistent}
use Rattle.event_list.specs.Runs.{IsRun}
use Rattle.event_list.specs.Races.{IsEarlier}
use Rattle.event_list.specs.Traces.{Keeps}

-- x is in the past of the send s or of the receive q, and is not q
abbrev pub IsKept : List Event → Event → Event → Event → Type 0
IsKept E s q x = (IsPast E s x ⊎ IsPast E q x) × (x ≢ q)

-- these entries are a consistent cut
pub record KeptCut (E : List Event) (s q : Event) : Type 0 where
  pub cut : Cut
  pub consistent : IsConsistent E cut
  pub holds : (x : Event) → Contains E x → Within cut x ↔ IsKept E s q x

-- how many entries of each process these are, where v and w count the two pasts
abbrev pub kept_counts : Event → (ℕ → ℕ) → (ℕ → ℕ) → Cut
kept_counts q v w p = if p == q.proc.no then q.number - 1 else max (v p) (w p)

-- the receive q with another letter
abbrev pub taking_instead : Event → ℕ → LetterId → Event
taking_instead q set id = record { proc = q.proc; number = q.number; kind = Accepted set id }

-- W is a run that keeps the pasts of m's send and of the last receive that could have taken m, and in which that
-- receive takes m
pub record IsWitness (s : ℕ → Script) (M : ℕ) (E : List Event) (m : Message) (W : List Event) : Type 0 where
  pub send : Event
  pub sends : Sends E send m
  pub earlier : Event
  pub is_earlier : IsEarlier M E m earlier
  pub set : ℕ
  pub took : LetterId
  pub receive : earlier.kind ≡ Accepted set took
  pub front : List Event
  pub whole : W ≡ front ++ taking_instead earlier set m.id ∷ []
  pub run : IsRun s M W
  pub holds : (x : Event) → Contains front x ↔ IsKept E send earlier x

-- W is the one witness whose entries before the last stand in E's order
pub record IsWitnessOf (s : ℕ → Script) (M : ℕ) (E : List Event) (m : Message) (W : List Event) : Type 0 where
  pub witness : IsWitness s M E m W
  pub in_order : Keeps (IsKept E witness.send witness.earlier) E witness.front
