-- The trace of a run is well formed.
use Rattle.std.proofs.Common.{◌≡◌, ℕ, ◌-◌, ◌<◌, ◌≤◌, Bool, true, false, cond, List, [], ◌∷◌, length, take, None, refl, ap, ◌∙◌, inl, inr, arith}
use Rattle.std.specs.Prelude.{Contains, fold}
use Rattle.std.proofs.lemmas.Bool.{eqb-true}
use Rattle.std.proofs.lemmas.List.{length-take}
use Rattle.std.proofs.lemmas.List.Elements.{Contains-push_cases}
use Rattle.nm_base.specs.declared.limits.TheConstants.{MAX_EVENTS}
use Rattle.nm_base.specs.Message.{Message}
use Rattle.nm_base.specs.Scripts.{Script, IsLawful}
use Rattle.event_list.specs.declared.Event.{Event}
use Rattle.event_list.specs.Events.{is_of, entries, count, IsSent}
use Rattle.event_list.specs.Runs.{IsRun, Sound}
use Rattle.event_list.specs.Traces.{Trace, IsTraceOf, waiting, receive_number}
use Rattle.event_list.specs.TraceRules.{IsFormed}
use Rattle.event_list.specs.Turns.{Turn, Turned, Stays, Went, go, after, run_of}
use Rattle.nm_base.specs.Fitting.{none}
use Rattle.event_list.proofs.Members.{cons_here, cons_there, in_filter}
use Rattle.event_list.proofs.Entries.{nothing_in}
use Rattle.event_list.proofs.Soundness.{numbers, send_number}
use Rattle.event_list.proofs.Links.{accept_sent}
use Rattle.event_list.proofs.RunsSound.{no_receive}
use Rattle.event_list.proofs.TraceFacts.{keeps_in, in_map, note_receive, in_waiting}
use Rattle.event_list.proofs.TurnFacts.{going, turn_runs}
use Rattle.event_list.proofs.OrderlyFacts.{orderly, few_letters, trace_sum}

-- a process has no more entries than the list
few_entries : (E : List Event) (p : ℕ) → count E p ≤ length E
few_entries [] p = omega arith
few_entries (x ∷ xs) p = by (is_of p x) (few_entries xs p)
  where
    by : (b : Bool) → count xs p ≤ length xs → length (cond b (x ∷ entries xs p) (entries xs p)) ≤ length (x ∷ xs)
    by true h = omega (arith, h)
    by false h = omega (arith, h)

-- a letter's number is below the number of entries
few_sends : {M : ℕ} {E : List Event} → Sound M E → (m : Message) → IsSent E m → m.id.number < length E
few_sends {E = E} g m s = omega (arith, send_number g s.0 m s.1, few_letters (entries E s.0.proc.no), few_entries E s.0.proc.no)

-- and so is a receive's number
few_receives : {M : ℕ} {E : List Event} → Sound M E → (b : Event) → Contains E b → receive_number E b < length E
few_receives {E = E} g b c =
    let n = numbers g b c in
    omega (arith, n.0, n.1, few_entries E b.proc.no, few_letters (take (b.number - 1) (entries E b.proc.no)), length-take (b.number - 1) (entries E b.proc.no))

-- a process that there isn't has no entries
pub no_entries : (n : ℕ) (E : List Event) → ((a : Event) → Contains E a → a.proc.no < n) → (p : ℕ) → n ≤ p → count E p ≡ 0
no_entries n E below p l = by (entries E p) (λ a c. in_filter (is_of p) E a c)
  where
    by : (es : List Event) → ((a : Event) → Contains es a → Contains E a × (is_of p a ≡ true)) → length es ≡ 0
    by [] h = refl
    by (x ∷ xs) h = let i = h x (cons_here x xs) in absurd (omega (arith, below x i.0, l, eqb-true x.proc.no p i.1))

pub formed : (E : List Event) (T : Trace) → Sound T.mask E → IsTraceOf E T → length E ≤ MAX_EVENTS → IsFormed T
formed E T g t few = record {
  orderly = orderly E T g t;
  sum = omega (arith, trace_sum E T t, few);
  no_more = λ p l. t.counts p ∙ no_entries T.n E t.processes p l;
  receives = λ note c.
      let n = note_receive E note (keeps_in t.notes note c).0 in
      omega (arith, few_receives g n.receive n.accepts.in_list, n.number, few);
  sends = λ note c.
      let n = note_receive E note (keeps_in t.notes note c).0 in
      let k = accept_sent g n.receive n.set note.id n.accepts in
      omega (arith, few_sends g k.letter k.sent, ap (λ z. z.number) k.named, few);
  lost_sends = λ id c.
      let m = in_map (λ m. m.id) (waiting E) id (keeps_in t.lost id c).0 in
      omega (arith, few_sends g m.0 (in_waiting E m.0 m.1).0, ap (λ z. z.number) m.2, few);
}

-- a run's events are of the processes that its turns name
pub named_processes : (s : ℕ → Script) → ((p : ℕ) → IsLawful (s p)) → (M n : ℕ) (turns : List Turn) (e : Event) → ((t : Turn) → Contains turns t → t.proc < n) → Contains (run_of s M turns) e → e.proc.no < n
named_processes s law M n turns e below c = by turns [] none below (λ a k. absurd (nothing_in a k)) e c
  where
    turned : (E : List Event) (t : Turn) → t.proc < n → IsRun s M E → ((a : Event) → Contains E a → a.proc.no < n) → (w : Turned) → go s M None E t ≡ w → (a : Event) → Contains (after E w) a → a.proc.no < n
    turned E t l run h (Stays why) w a c = h a c
    turned E t l run h (Went x) w a c = elim (Contains-push_cases E x a c) [
      | inl o ↦ h a o
      | inr q ↦ omega (arith, l, (going s M None E t.proc t.pick x (no_receive s law run t.proc) w).of_p, ap (λ z. z.proc.no) q)
    ]

    by : (turns : List Turn) (E : List Event) → IsRun s M E → ((t : Turn) → Contains turns t → t.proc < n) → ((a : Event) → Contains E a → a.proc.no < n) → (a : Event) → Contains (fold (λ E t. after E (go s M None E t)) E turns) a → a.proc.no < n
    by [] E run below h a c = h a c
    by (t ∷ turns) E run below h a c =
        by turns (after E (go s M None E t)) (turn_runs s law M None E t run) (λ u k. below u (cons_there t turns u k))
        (turned E t (below t (cons_here t turns)) run h (go s M None E t) refl) a c
