-- A turn of a replay, and when it is complete.
use Rattle.std.proofs.Common.{◌≡◌, ℕ, zero, suc, ◌<◌, ◌≤◌, Bool, true, false, not, ◌&&◌, List, [], length, Some, refl, sym, ap, ◌∙◌, subst, inl, inr, arith, true≢false}
use Rattle.std.specs.Prelude.{◌==◌, nat_le}
use Rattle.std.proofs.lemmas.Bool.{and_parts, cases_eq, cases_lt, eq-eqb, ne_eqb, le-leb, leb-true, leb-false}
use Rattle.nm_base.specs.declared.limits.TheConstants.{MAX_EVENTS, MAX_PROCESSES}
use Rattle.nm_base.specs.Fitting.{none}
use Rattle.nm_base.specs.Scripts.{Script}
use Rattle.processes.specs.Standing.{Standing}
use Rattle.event_list.specs.declared.Event.{Event}
use Rattle.event_list.specs.Events.{count, messages}
use Rattle.event_list.specs.Traces.{Trace, IsReplay}
use Rattle.event_list.specs.Turns as turns
use Rattle.event_list.specs.Turns.{Went, go, after, all_below, all_reached, sum_below}
use Rattle.event_list.specs.Rules.{Rule, rule_of, go_under}
use Rattle.event_list.proofs.RuleFacts.{turn_rule}
use Rattle.event_list.proofs.TurnFacts.{turn_replays}
use Rattle.event_list.proofs.FinishFacts.{came, sum_same}
use Rattle.event_list.proofs.OrderlyFacts.{all_counted}
use Rattle.event_list.proofs.PrintFacts.{replay_room}
use Rattle.world.specs.declared.world.Turned.{Turned}
use Rattle.world.specs.Worlds.{Parts, IsWorldOf}
use Rattle.world.specs.Outcomes.{HasTurned, outcome}
use Rattle.replay_core.specs.Gates.{Gating, IsGateOf, seen_trace, gate_lets, gate_lets_go}
use Rattle.trace_file.specs.Content.{Content}
use Rattle.trace_file.specs.Rules.{IsTrace}
use Rattle.replay_core.proofs.GateLaws.{small}
use Rattle.replay_core.specs.Replaying.{Replaying, IsReplayOf, IsSameRun, HasGone}

-- the gate as a rule
abbrev pub rule : Gating → Rule
rule gate = record { lets = gate_lets gate; lets_go = gate_lets_go gate }

rule_is : (gate : Gating) (T : Trace) → IsGateOf gate T → rule gate ≡ rule_of (Some T)
rule_is gate T g = λ i. record { lets = λ p j id. g.lets p j id i; lets_go = λ p k. g.lets_go p k i }

pub all_from : (n : ℕ) (test : ℕ → Bool) → ((p : ℕ) → test p ≡ true) → all_below n test ≡ true
all_from zero test f = refl
all_from (suc n) test f = ap (λ b. b && all_below n test) (f n) ∙ all_from n test f

-- a replay before its first event
pub begun : {P M : Type 0} (stands_for : P → Standing) (r : Replaying P M) (t : Content) (s : ℕ → Script) → IsTrace t → IsWorldOf stands_for r.world s [] → IsGateOf r.gate (seen_trace t)
    → r.events ≡ [] → r.world.mask ≡ t.mask → length r.world.processes ≡ t.n → IsReplayOf stands_for r s (seen_trace t) []
begun stands_for r t s is world gate events mask size = record {
  world = world;
  replay = record { run = none; permitted = none; within = λ p. omega arith };
  events = events;
  gate = gate;
  mask = mask;
  size = size;
  small = small t is;
}

module _ {P M : Type 0} (stands_for : P → Standing) (r : Replaying P M) (s : ℕ → Script) (T : Trace) (R : List Event) (h : IsReplayOf stands_for r s T R) where
  -- another world for the same run
  pub kept : (v : Replaying P M) → IsWorldOf stands_for v.world s R → v.gate ≡ r.gate → v.events ≡ r.events → v.world.mask ≡ r.world.mask → length v.world.processes ≡ length r.world.processes
      → IsReplayOf stands_for v s T R
  kept v world gate events mask size = record {
    world = world;
    replay = h.replay;
    events = events ∙ h.events;
    gate = subst (λ g. IsGateOf g T) (sym gate) h.gate;
    mask = mask ∙ h.mask;
    size = size ∙ h.size;
    small = h.small;
  }

  pub turn_is : (v : Parts P M) (t : turns.Turn) (what : Turned) → HasTurned stands_for r.world.mask (rule r.gate) v s R t what → go s T.mask (Some T) R t ≡ outcome what
  turn_is v t what k = turn_rule s T.mask (Some T) R t ∙ sym (λ i. go_under s (h.mask i) (rule_is r.gate T h.gate i) R t) ∙ k.is

  -- a turn of the world under the gate is one under the trace
  pub gone : (v : Replaying P M) (t : turns.Turn) (what : Turned) → HasTurned stands_for r.world.mask (rule r.gate) v.world s R t what
      → v.gate ≡ r.gate → v.events ≡ after r.events (outcome what) → v.world.mask ≡ r.world.mask → length v.world.processes ≡ length r.world.processes
      → HasGone stands_for v s T R t what
  gone v t what k gate events mask size =
      let is = turn_is v.world t what k in
      record {
        is = is;
        stands = record {
          world = k.stands;
          replay = subst (λ w. IsReplay s T (after R w)) is (turn_replays s h.world.lawful T R t h.replay);
          events = events ∙ ap (λ E. after E (outcome what)) h.events;
          gate = subst (λ g. IsGateOf g T) (sym gate) h.gate;
          mask = mask ∙ h.mask;
          size = size ∙ h.size;
          small = h.small;
        };
        carries = k.carries;
      }

  -- where a process is below its count there is room for an event
  pub room : (p : ℕ) → count R p < T.counts p → length R < MAX_EVENTS
  room p l = omega (arith, replay_room s h.world.lawful T R p h.replay h.small.none l, h.small.sum)

  -- where the gate lets a process go on there is room
  pub goes_room : (p k : ℕ) → count R p ≡ k → gate_lets_go r.gate p k ≡ true → r.world.events < MAX_EVENTS
  goes_room p k is goes =
      let below : k < T.counts p = leb-false (T.counts p) k (not_true (nat_le (T.counts p) k) (sym (h.gate.lets_go p k) ∙ goes)) in
      omega (arith, room p (omega (arith, is, below)), h.world.events)
    where
      not_true : (b : Bool) → not b ≡ true → b ≡ false
      not_true true e = absurd (true≢false (sym e))
      not_true false e = refl

  -- an event that comes had room, and is of the turn's process
  pub came_room : (t : turns.Turn) (what : turns.Turned) (e : Event) → go s T.mask (Some T) R t ≡ what → what ≡ Went e → length r.events < MAX_EVENTS
  came_room t what e is went =
      let c = came T.mask T R t.proc t.pick e ((s t.proc).next (messages R t.proc) (count R t.proc)) (is ∙ went) in
      omega (arith, room t.proc c.room, ap length h.events)

  pub came_of : (t : turns.Turn) (what : turns.Turned) (e : Event) → go s T.mask (Some T) R t ≡ what → what ≡ Went e → t.proc < length r.world.processes → e.proc.no < MAX_PROCESSES
  came_of t what e is went below =
      let c = came T.mask T R t.proc t.pick e ((s t.proc).next (messages R t.proc) (count R t.proc)) (is ∙ went) in
      omega (arith, c.of_p, below, h.size, h.small.few)

  -- processes that there aren't make no events
  pub none_past : (p : ℕ) → length r.world.processes ≤ p → count R p ≡ 0
  none_past p l = omega (arith, h.small.none p (omega (arith, l, h.size)), h.replay.within p)

  each_of : (n : ℕ) (test : ℕ → Bool) → all_below n test ≡ true → (p : ℕ) → p < n → test p ≡ true
  each_of zero test e p l = absurd (omega (arith, l))
  each_of (suc n) test e p l =
      let both = and_parts (test n) (all_below n test) e in
      elim (cases_eq p n) [ inl z ↦ ap test z ∙ both.0 | inr z ↦ each_of n test both.1 p (omega (arith, l, z)) ]

  counted : sum_below T.n (count R) ≡ length R
  counted = all_counted T.n R (λ a c. omega (arith, h.world.below a c, h.size))

  -- each count is reached exactly where there are as many events as were recorded
  pub complete : (r.world.events == r.gate.total) ≡ all_reached T R
  complete = by (all_reached T R) refl
    where
      by : (b : Bool) → all_reached T R ≡ b → (r.world.events == r.gate.total) ≡ b
      by true e = eq-eqb r.world.events r.gate.total (
          let same = sum_same T.n T.counts (count R) (λ p l. omega (arith, leb-true (T.counts p) (count R p) (each_of T.n (λ q. nat_le (T.counts q) (count R q)) e p l), h.replay.within p)) in
          omega (arith, h.world.events, h.gate.total, counted, same))
      by false e = ne_eqb r.world.events r.gate.total (λ z. true≢false (sym (all_from T.n (λ q. nat_le (T.counts q) (count R q)) (λ p. elim (cases_lt (count R p) (T.counts p)) [
        | inl l ↦ absurd (omega (arith, replay_room s h.world.lawful T R p h.replay h.small.none l, h.world.events, h.gate.total, z))
        | inr l ↦ le-leb (T.counts p) (count R p) l
      ])) ∙ e))

module _ {P M O : Type 0} (origin_of : P → O) where
  pub same_run : (r : Replaying P M) → IsSameRun origin_of r r
  same_run r = record { size = refl; origins = refl; mask = refl }

  pub same_runs : (r v w : Replaying P M) → IsSameRun origin_of r v → IsSameRun origin_of v w → IsSameRun origin_of r w
  same_runs r v w a b = record { size = b.size ∙ a.size; origins = b.origins ∙ a.origins; mask = b.mask ∙ a.mask }
