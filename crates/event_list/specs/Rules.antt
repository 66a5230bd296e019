-- Turns under a gate: what a gate lets through, in the place of a trace.
use Rattle.std.specs.Prelude.{ℕ, ◌%◌, ◌==◌, ◌&&◌, ◌||◌, nat_le, Bool, true, not, List, length, Option, Some, None, filter, slice_get, if◌then◌else◌}
use Rattle.nm_base.specs.declared.letter.LetterId.{LetterId}
use Rattle.nm_base.specs.Message.{Message}
use Rattle.nm_base.specs.Channels.{has_channel}
use Rattle.nm_base.specs.Scripts.{Script, Next, Goes, Wants, Over}
use Rattle.event_list.specs.declared.Event.{Event}
use Rattle.event_list.specs.Events.{count, messages, receives}
use Rattle.event_list.specs.Traces.{waiting, Trace, permits}
use Rattle.event_list.specs.Turns.{IsOver, AtCount, Turned, Stays, Went, Turn, is_first, next_event, taking}

-- lets p j id: p may accept the letter at its j-th receive. lets_go p k: p may make one more event after k
pub record Rule : Type 0 where
  pub lets : ℕ → ℕ → LetterId → Bool
  pub lets_go : ℕ → ℕ → Bool

-- the rule of a trace, and without one all is let through
abbrev pub rule_of : Option Trace → Rule
rule_of None = record { lets = λ p j id. true; lets_go = λ p k. true }
rule_of (Some T) = record { lets = permits T; lets_go = λ p k. not (nat_le (T.counts p) k) }

-- whether p may accept the waiting letter at a receive with this set
abbrev pub may_take_under : ℕ → Rule → List Event → ℕ → ℕ → Message → Bool
may_take_under M rule E p set m =
    (m.dest.no == p)
    && (has_channel set m.chan
    && (rule.lets p (receives E p) m.id && (not (has_channel M m.chan) || is_first E m)))

abbrev pub allowed_under : ℕ → Rule → List Event → ℕ → ℕ → List Message
allowed_under M rule E p set = filter (may_take_under M rule E p set) (waiting E)

abbrev pub next_under : ℕ → Rule → List Event → ℕ → ℕ → Next → Turned
next_under M rule E p pick Over = Stays IsOver
next_under M rule E p pick (Goes kind) =
    if rule.lets_go p (count E p) then Went (next_event E p kind) else Stays AtCount
next_under M rule E p pick (Wants set) =
    if rule.lets_go p (count E p)
    then taking E p set (slice_get (allowed_under M rule E p set) (pick % length (allowed_under M rule E p set)))
    else Stays AtCount

-- one turn under the mask M and a rule
abbrev pub go_under : (ℕ → Script) → ℕ → Rule → List Event → Turn → Turned
go_under s M rule E t = next_under M rule E t.proc t.pick ((s t.proc).next (messages E t.proc) (count E t.proc))
