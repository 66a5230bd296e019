-- What a tracer decides of a letter that waits.
use Rattle.std.proofs.Common.{◌≡◌, ℕ, ◌<◌, max, Bool, true, false, List, sym, ap, ◌∙◌, subst, inl, inr}
use Rattle.std.specs.Prelude.{◌↔◌, ◌&&◌, not, nat_lt}
use Rattle.std.proofs.lemmas.Bool.{cases_Bool, false≢true, not-true, not-false, and_parts}
use Rattle.nm_base.specs.declared.letter.Letter.{Letter}
use Rattle.nm_base.specs.declared.limits.TheConstants.{MAX_PROCESSES}
use Rattle.nm_base.specs.Message.{Message, message_of}
use Rattle.nm_base.specs.Channels.{has_channel}
use Rattle.vector_clocks.specs.Parts.{part}
use Rattle.event_list.specs.declared.Event.{Event}
use Rattle.event_list.specs.Events.{IsSent, IsTaken}
use Rattle.event_list.specs.Runs.{Sound}
use Rattle.event_list.specs.Races.{IsLogged}
use Rattle.event_list.specs.Traces.{waiting, is_taken}
use Rattle.event_list.specs.Turns.{precedes, is_first}
use Rattle.event_list.proofs.Members.{any_in, in_any}
use Rattle.event_list.proofs.TurnFacts.{precedes_from, precedes_is}
use Rattle.event_list.proofs.TraceFacts.{taken_is, is_taken_from, waits_in, in_waiting}
use Rattle.event_list.proofs.Parts.{taker_is}
use Rattle.race_tracer.specs.Tracing.{Tables, IsLast, Names, Takes, IsTracerOf, HasStamp, IsLawfulRun, named_at, taken_at}
use Rattle.race_tracer.specs.private.Deciding.{since_of}
use Rattle.race_tracer.proofs.RaceFacts.{Since, since_free, since_ordered, logged_by, could_name, could_names}
use Rattle.race_tracer.proofs.TracerFacts.{sound_of, channel_of, sender_of, decided}

-- a letter that waits
module _ (M : ℕ) (E : List Event) (l : Letter) (run : IsLawfulRun M E) (stamp : HasStamp E l) (waits : IsTaken E l.id → ⊥) where
  abbrev m : Message
  m = message_of l

  g : Sound M E
  g = sound_of run

  sent : IsSent E m
  sent = (stamp.send, stamp.sends)

  since_waiting : (k : ℕ) → (has_channel M l.chan ≡ true → is_first E m ≡ true) → IsLast E (Takes E l.id.sender.no l.dest.no l.chan) k → Since g m (since_of M l.chan k)
  since_waiting k first kept = elim (cases_Bool (has_channel M l.chan)) [
    | inr free ↦ since_free g m k free
    | inl ordered ↦ since_ordered g m k ordered sent
        (λ r t x a s before. kept.last r a.in_list record { of_p = sym (taker_is g r t x a s) ∙ before.dest; set = t; letter = x; sent = s; kind = a.kind; sender_is = before.sender; chan_is = before.chan })
        (λ x s before. elim (cases_Bool (is_taken E x.id)) [
          | inl y ↦ taken_is E x.id y
          | inr n ↦ absurd (false≢true (sym (not-true _ (first ordered)) ∙ in_any (λ x. precedes x m) (waiting E) x (waits_in E x s (λ z. false≢true (sym n ∙ is_taken_from E z.0 z.1 x.id z.2))) (precedes_from x m before)))
        ])
        kept.is
        (λ q b t n a. absurd (waits (b, t, a)))
  ]

  pub waiting_logged : (top k : ℕ) → (has_channel M l.chan ≡ true → is_first E m ≡ true) → IsLast E (Names l.dest.no l.chan) top → IsLast E (Takes E l.id.sender.no l.dest.no l.chan) k → IsLogged M E m ↔ (max (since_of M l.chan k) (part l.stamp l.dest.no) < top)
  waiting_logged top k first named kept =
      logged_by g l stamp top (since_of M l.chan k) (since_waiting k first kept)
      (elim named.is [ inl z ↦ inl z | inr q ↦ inr (q.0, could_name g l stamp q.0 q.1 q.2 (λ r t a. absurd (waits (r, t, a))), q.3) ])
      (λ r c. named.last r c.receive.in_list (could_names g l stamp r c))

  -- none could have taken it while a predecessor waits
  pub not_first : has_channel M l.chan ≡ true → is_first E m ≡ false → IsLogged M E m → ⊥
  not_first ordered other logged =
      let x = any_in (λ x. precedes x m) (waiting E) (not-false _ other) in
      let w = in_waiting E x.0 x.1 in
      let r = logged.1.could.in_order ordered x.0 w.0 (precedes_is x.0 m x.2) in
      w.1 (r.0, r.1, r.2)

-- what the tables v of the tracer t decide of a letter that waits
pub waiting_test : (v t : Tables) → v ≡ t → (E : List Event) (l : Letter) → IsTracerOf t E → IsLawfulRun t.mask E → HasStamp E l → (IsTaken E l.id → ⊥)
    → l.dest.no < MAX_PROCESSES → (first : Bool) → first ≡ is_first E (message_of l) → (has_channel v.mask l.chan && not first) ≡ false
    → (since : ℕ) → since ≡ since_of v.mask l.chan (taken_at v l.id.sender.no l.dest.no l.chan)
    → (b : Bool) → b ≡ nat_lt (max since (part l.stamp l.dest.no)) (named_at v l.dest.no l.chan)
    → (b ≡ true) ↔ IsLogged t.mask E (message_of l)
waiting_test v t same E l told run stamp waits process first is free since s b e =
    let chan = channel_of run stamp in
    decided b (max since (part l.stamp l.dest.no)) (named_at v l.dest.no l.chan) e
    (subst (λ k. IsLogged t.mask E (message_of l) ↔ (max k (part l.stamp l.dest.no) < named_at v l.dest.no l.chan)) (sym (s ∙ ap (λ u. since_of u.mask l.chan (taken_at u l.id.sender.no l.dest.no l.chan)) same))
    (subst (λ k. IsLogged t.mask E (message_of l) ↔ (max (since_of t.mask l.chan (taken_at t l.id.sender.no l.dest.no l.chan)) (part l.stamp l.dest.no) < k)) (sym (ap (λ u. named_at u l.dest.no l.chan) same))
    (waiting_logged t.mask E l run stamp waits (named_at t l.dest.no l.chan) (taken_at t l.id.sender.no l.dest.no l.chan)
    (λ ordered. by first (sym is) (sym (ap (λ c. c && not first) (ap (λ u. has_channel u.mask l.chan) same ∙ ordered)) ∙ free))
    (told.naming l.dest.no l.chan chan) (told.taking l.id.sender.no l.dest.no l.chan (sender_of run stamp) process chan))))
  where
    by : (first : Bool) → is_first E (message_of l) ≡ first → (true && not first) ≡ false → is_first E (message_of l) ≡ true
    by true h k = h
    by false h k = absurd (false≢true (sym k))

-- a letter that is held is not logged
pub held_test : (v t : Tables) → v ≡ t → (E : List Event) (l : Letter) → IsTracerOf t E → IsLawfulRun t.mask E → HasStamp E l → (IsTaken E l.id → ⊥)
    → (first : Bool) → first ≡ is_first E (message_of l) → (has_channel v.mask l.chan && not first) ≡ true → IsLogged t.mask E (message_of l) → ⊥
held_test v t same E l told run stamp waits first is held =
    let k = and_parts _ _ held in
    not_first t.mask E l run stamp waits (sym (ap (λ u. has_channel u.mask l.chan) same) ∙ k.0) (sym is ∙ not-true first k.1)
