-- Vector clocks and timestamps.
use Rattle.std.specs.Prelude.{◌≡◌, ℕ, ◌+◌, ◌≤◌, ◌==◌, ◌⊎◌, ◌↔◌, Bool, false, max, List, Option, Some, None, Contains, fold, if◌then◌else◌}
use Rattle.nm_base.specs.declared.letter.LetterId.{LetterId}
use Rattle.nm_base.specs.declared.kind.Kind.{Kind}
use Rattle.nm_base.specs.declared.kind.Kind.TheVariants.{Accepted}
use Rattle.nm_base.specs.Message.{Message, same_name}
use Rattle.event_list.specs.declared.Event.{Event}
use Rattle.event_list.specs.Events.{count, letter_of}
use Rattle.event_list.specs.Order.{Before}

-- v counts the past of a: of each process q, the entries that are a or happened before a are its first v q entries
pub record IsCounts (E : List Event) (a : Event) (v : ℕ → ℕ) : Type 0 where
  pub at_most : (q : ℕ) → v q ≤ count E q
  pub tells : (x : Event) → Contains E x → (x.number ≤ v x.proc.no) ↔ ((x ≡ a) ⊎ Before E x a)

-- part q of the clock of process p, and part q of a letter's timestamp
pub record Clocks : Type 0 where
  pub clock : ℕ → ℕ → ℕ
  pub stamp : LetterId → ℕ → ℕ

abbrev pub no_clocks : Clocks
no_clocks = record { clock = λ p q. 0; stamp = λ id q. 0 }

-- what an event brings to its process's clock: a receive brings the letter's timestamp
abbrev pub brought : Clocks → Kind → ℕ → ℕ
brought c (Accepted set id) q = c.stamp id q
brought c _ q = 0

-- the clock of the event's process at the event: its own part is one more, and what the event brings is merged
abbrev pub ticked : Clocks → Event → ℕ → ℕ
ticked c e q = max (if q == e.proc.no then c.clock e.proc.no q + 1 else c.clock e.proc.no q) (brought c e.kind q)

-- whether this is the letter of that name
abbrev pub is_named : Option Message → LetterId → Bool
is_named None id = false
is_named (Some m) id = same_name m.id id

-- the clocks after the event. A letter that it sends is stamped with the sender's clock after its tick
abbrev pub clocks_after : Clocks → Event → Clocks
clocks_after c e =
    record {
      clock = λ p q. if p == e.proc.no then ticked c e q else c.clock p q;
      stamp = λ id q. if is_named (letter_of e) id then ticked c e q else c.stamp id q;
    }

-- the clocks and timestamps after all events
abbrev pub clocks : List Event → Clocks
clocks E = fold clocks_after no_clocks E
