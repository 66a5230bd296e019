-- A world that makes the events of a replay again, one by one.
use Rattle.std.proofs.Common.{◌≡◌, true, ℕ, ◌+◌, ◌<◌, ◌≤◌, List, [], ◌∷◌, ◌++◌, length, take, drop, Some, refl, sym, ap, ◌∙◌, subst, arith, add-one}
use Rattle.std.specs.Prelude.{slice_get}
use Rattle.std.proofs.lemmas.List.{take-append-drop}
use Rattle.std.proofs.lemmas.Option.{slice_get_within, get_or_from_slice_get}
use Rattle.std.proofs.Math.Seq.{take-suc}
use Rattle.nm_base.specs.Scripts.{Script}
use Rattle.processes.specs.Standing.{Standing}
use Rattle.nm_base.specs.declared.limits.TheConstants.{MAX_EVENTS}
use Rattle.event_list.specs.declared.Event.{Event}
use Rattle.event_list.specs.Events.{count}
use Rattle.event_list.specs.FirstPicks.{IsFirstPicked, first_turn}
use Rattle.event_list.specs.Traces.{Trace}
use Rattle.event_list.specs.Turns as turns
use Rattle.event_list.specs.Turns.{Went, go, after}
use Rattle.event_list.proofs.Splits.{prefix, last}
use Rattle.world.specs.declared.world.Turned.{Turned}
use Rattle.world.specs.Worlds.{Parts}
use Rattle.world.specs.Outcomes.{HasTurned}
use Rattle.replay_core.specs.Replaying.{Replaying, IsReplayOf}
use Rattle.replay_core.specs.Backwards.{with_world}
use Rattle.replay_core.specs.Gates.{Gating, gate_lets_go}
use Rattle.replay_core.proofs.ReplayLaws.{gone, turn_is, rule, goes_room}

pub taken_more : {X : Type 0} (xs : List X) (i : ℕ) (x : X) → slice_get xs i ≡ Some x → take (i + 1) xs ≡ take i xs ++ x ∷ []
taken_more xs i x h = ap (λ k. take k xs) (add-one i) ∙ take-suc xs i x (slice_get_within xs i x h) ∙ ap (λ y. take i xs ++ y ∷ []) (get_or_from_slice_get xs i x x h)

-- the event at a place was made by a turn of its process after those before it
pub picked_at : (s : ℕ → Script) (T : Trace) (R : List Event) → IsFirstPicked s T R → (i : ℕ) (e : Event) → slice_get R i ≡ Some e
    → go s T.mask (Some T) (take i R) (first_turn e) ≡ Went e
picked_at s T R h i e at =
    let whole = subst (IsFirstPicked s T) (sym (take-append-drop (i + 1) R)) h in
    let upto = prefix (take (i + 1) R) (drop (i + 1) R) whole in
    (last (take i R) e (subst (IsFirstPicked s T) (taken_more R i e at) upto)).made

-- a replay seen with another world and fewer events
pub cut_view : {P M : Type 0} (r v : Replaying P M) (w : Parts P M) (to : ℕ) (E : List Event) → v ≡ r → E ≡ take to v.events
    → record { world = w; gate = v.gate; events = E } ≡ with_world r w to
cut_view r v w to E view is = ap (λ F. record { world = w; gate = v.gate; events = F }) is ∙ ap (λ u. with_world u w to) view

module _ {P M : Type 0} (stands_for : P → Standing) (r : Replaying P M) (s : ℕ → Script) (T : Trace) (R : List Event) (h : IsReplayOf stands_for r s T R) where
  module _ (w : Parts P M) (i : ℕ) (now : IsReplayOf stands_for (with_world r w i) s T (take i R)) where
    -- there is room for the event
    pub made_room : (gate : Gating) → gate ≡ r.gate → (p k : ℕ) → count (take i R) p ≡ k → gate_lets_go gate p k ≡ true → w.events < MAX_EVENTS
    made_room gate same p k told goes =
        goes_room stands_for (with_world r w i) s T (take i R) now p k told (ap (λ g. gate_lets_go g p k) (sym same) ∙ goes)

    -- it is of one of the world's processes
    pub made_process : (e : Event) → slice_get r.events i ≡ Some e → e.proc.no < length w.processes
    made_process e at =
        let here = ap (λ E. slice_get E i) (sym h.events) ∙ at in
        let below = h.world.below e (i, slice_get_within R i e here, get_or_from_slice_get R i e e here) in
        omega (arith, below, h.size, now.size)

    -- and the world stands for the events with it, from one before it
    pub made_next : IsFirstPicked s T R → (v : Parts P M) (e : Event) → slice_get r.events i ≡ Some e → (gate : Gating) → gate ≡ r.gate
        → (what : Turned) → HasTurned stands_for w.mask (rule gate) v s (take i R) (first_turn e) what → v.mask ≡ w.mask → length v.processes ≡ length w.processes
        → IsReplayOf stands_for (with_world r v (i + 1)) s T (take (i + 1) R)
    made_next picked v e at gate same what turned mask size =
        let here = ap (λ E. slice_get E i) (sym h.events) ∙ at in
        let told = subst (λ g. HasTurned stands_for w.mask (rule g) v s (take i R) (first_turn e) what) same turned in
        let went = sym (turn_is stands_for (with_world r w i) s T (take i R) now v (first_turn e) what told) ∙ picked_at s T R picked i e here in
        let events = taken_more r.events i e at ∙ ap (λ t. after (take i r.events) t) (sym went) in
        let next = (gone stands_for (with_world r w i) s T (take i R) now (with_world r v (i + 1)) (first_turn e) what told refl events mask size).stands in
        subst (IsReplayOf stands_for (with_world r v (i + 1)) s T) (ap (λ t. after (take i R) t) went ∙ sym (taken_more R i e here)) next
