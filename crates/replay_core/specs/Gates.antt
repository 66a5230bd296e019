-- A trace of a file as runs see it, and the gate of a trace.
use Rattle.std.specs.Prelude.{◌≡◌, ℕ, ◌==◌, ◌&&◌, nat_le, Bool, not, List, Option, Some, None, slice_index}
use Rattle.std.specs.List.{list_any}
use Rattle.std.specs.Map.{lookup}
use Rattle.nm_base.specs.declared.letter.LetterId.{LetterId}
use Rattle.nm_base.specs.Message.{same_name}
use Rattle.trace_file.specs.Content.{Content, count_of}
use Rattle.event_list.specs.Traces.{Trace, permits}
use Rattle.event_list.specs.Turns.{sum_below}
use Rattle.replay_core.specs.declared.gate.Receive.{Receive}

-- what a contract sees of a gate: the receives with their noted letters, the named letters, the recorded counts and
-- their sum
pub record Gating : Type 0 where
  pub noted : List (Receive × LetterId)
  pub named : List LetterId
  pub counts : List ℕ
  pub total : ℕ

-- what a trace file says, as runs see it: processes that there aren't make no events
abbrev pub seen_trace : Content → Trace
seen_trace t =
    record { version = t.version; mask = t.mask; n = t.n; notes = t.notes; lost = t.lost; counts = count_of t }

abbrev pub same_receive : Receive → Receive → Bool
same_receive a b = (a.receiver.no == b.receiver.no) && (a.number == b.number)

-- p's j-th receive
abbrev pub receive_at : ℕ → ℕ → Receive
receive_at p j = record { receiver = record { no = p }; number = j }

-- whether a receive may accept the letter, by the letter noted for it, if there is one, and by whether the letter is
-- named
abbrev pub lets_by : Option LetterId → Bool → LetterId → Bool
lets_by (Some noted) is_named id = same_name noted id
lets_by None is_named id = not is_named

-- whether the gate lets p's j-th receive accept the letter
abbrev pub gate_lets : Gating → ℕ → ℕ → LetterId → Bool
gate_lets gate p j id =
    lets_by (lookup (same_receive (receive_at p j)) gate.noted) (list_any (same_name id) gate.named) id

-- whether the gate lets p go on after k events
abbrev pub gate_lets_go : Gating → ℕ → ℕ → Bool
gate_lets_go gate p k = not (nat_le (slice_index gate.counts p) k)

-- the gate lets through what the trace permits, up to the recorded counts
pub record IsGateOf (gate : Gating) (T : Trace) : Type 0 where
  pub lets : (p j : ℕ) (id : LetterId) → gate_lets gate p j id ≡ permits T p j id
  pub lets_go : (p k : ℕ) → gate_lets_go gate p k ≡ not (nat_le (T.counts p) k)
  pub counts : (p : ℕ) → slice_index gate.counts p ≡ T.counts p
  pub total : gate.total ≡ sum_below T.n T.counts
