-- Runs of scripts, and sound lists of events. M is the mask: the set of the ordered channels.
use Rattle.std.specs.Prelude.{◌≡◌, ℕ, ◌+◌, true, false, List, Some, Contains}
use Rattle.nm_base.specs.declared.kind.Kind.TheVariants.{Accepted}
use Rattle.nm_base.specs.declared.letter.LetterId.{LetterId}
use Rattle.nm_base.specs.Fitting.{EachFits}
use Rattle.nm_base.specs.Message.{Message}
use Rattle.nm_base.specs.Channels.{has_channel}
use Rattle.nm_base.specs.Scripts.{Next, Goes, Wants, Over, Script, is_last}
use Rattle.event_list.specs.declared.Event.{Event}
use Rattle.event_list.specs.Events.{count, messages, sends, letter_of, IsSent, IsTaken, Precedes}

-- after E, process p may accept the letter at a receive with this set
pub record MayTake (M : ℕ) (E : List Event) (p set : ℕ) (m : Message) : Type 0 where
  -- it was sent, to p, on a channel in the set, and was not accepted
  pub sent : IsSent E m
  pub to_it : m.dest.no ≡ p
  pub in_set : has_channel set m.chan ≡ true
  pub waits : IsTaken E m.id → ⊥
  -- on an ordered channel, each earlier letter of its sender to p on that channel was accepted
  pub in_order : has_channel M m.chan ≡ true → (l : Message) → IsSent E l → Precedes l m → IsTaken E l.id

-- the event is what the script does next
abbrev pub KindFits : ℕ → List Event → Event → Next → Type 0
KindFits M E e (Goes kind) = e.kind ≡ kind
KindFits M E e (Wants set) = (m : Message) × (e.kind ≡ Accepted set m.id) × MayTake M E e.proc.no set m
KindFits M E e Over = ⊥

-- the event is its process's next, and its kind is the script's next for the letters accepted so far
pub record Fits (s : ℕ → Script) (M : ℕ) (E : List Event) (e : Event) : Type 0 where
  pub next_number : e.number ≡ count E e.proc.no + 1
  pub next_kind : KindFits M E e ((s e.proc.no).next (messages E e.proc.no) (count E e.proc.no))

-- a run of the scripts s, one for each process
abbrev pub IsRun : (ℕ → Script) → ℕ → List Event → Type 0
IsRun s M E = EachFits (Fits s M) E

-- the same without scripts: sends are numbered from 0 in order, and nothing follows Ended or Faulted
pub record FitsSoundly (M : ℕ) (E : List Event) (e : Event) : Type 0 where
  pub next_number : e.number ≡ count E e.proc.no + 1
  pub sends_next : (m : Message) → letter_of e ≡ Some m → m.id.number ≡ sends E e.proc.no
  pub takes : (set : ℕ) (id : LetterId) → e.kind ≡ Accepted set id
      → (m : Message) × (m.id ≡ id) × MayTake M E e.proc.no set m
  pub goes_on : (a : Event) → Contains E a → a.proc.no ≡ e.proc.no → is_last a.kind ≡ false

-- a sound list of events
abbrev pub Sound : ℕ → List Event → Type 0
Sound M E = EachFits (FitsSoundly M) E
