-- The last entry of which something holds, in a list that grew by one.
use Rattle.std.proofs.Common.{◌≡◌, ℕ, ◌≤◌, List, [], ◌∷◌, ◌++◌, sym, ap, subst, inl, inr, arith}
use Rattle.std.specs.Prelude.{Contains}
use Rattle.std.proofs.lemmas.List.Elements.{Contains-push_cases}
use Rattle.event_list.specs.declared.Event.{Event}
use Rattle.event_list.specs.Events.{IsSent}
use Rattle.event_list.specs.Runs.{Sound}
use Rattle.event_list.proofs.Soundness.{old, new, letter_same}
use Rattle.event_list.proofs.Splits.{prefix}
use Rattle.event_list.proofs.Links.{accept_sent}
use Rattle.event_list.proofs.Projections.{sent_part}
use Rattle.race_tracer.specs.Tracing.{IsLast, Takes}

module _ (E : List Event) (e : Event) where
  -- the new entry is not one of them
  pub last_stays : (P Q : Event → Type 0) (k : ℕ) → ((q : Event) → Contains E q → P q → Q q) → ((q : Event) → Contains E q → Q q → P q) → (Q e → ⊥) → IsLast E P k → IsLast (E ++ e ∷ []) Q k
  last_stays P Q k over back other h = record {
    is = elim h.is [ inl z ↦ inl z | inr q ↦ inr (q.0, old E e q.0 q.1, over q.0 q.1 q.2, q.3) ];
    last = λ q c y. elim (Contains-push_cases E e q c) [
      | inl o ↦ h.last q o (back q o y)
      | inr n ↦ absurd (other (subst Q (sym n) y))
    ];
  }

  -- the new entry is the last
  pub last_new : (Q : Event → Type 0) (k : ℕ) → Q e → e.number ≡ k → ((q : Event) → Contains E q → Q q → q.number ≤ k) → IsLast (E ++ e ∷ []) Q k
  last_new Q k y n below = record {
    is = inr (e, new E e, y, n);
    last = λ q c z. elim (Contains-push_cases E e q c) [
      | inl o ↦ below q o z
      | inr w ↦ omega (arith, n, ap (λ z. z.number) w)
    ];
  }

  -- an old entry's letter was sent before
  pub takes_over : (s p chan : ℕ) (q : Event) → Takes E s p chan q → Takes (E ++ e ∷ []) s p chan q
  takes_over s p chan q y = record {
    of_p = y.of_p;
    set = y.set;
    letter = y.letter;
    sent = sent_part (old E e) y.letter y.sent;
    kind = y.kind;
    sender_is = y.sender_is;
    chan_is = y.chan_is;
  }

  pub takes_back : {M : ℕ} → Sound M (E ++ e ∷ []) → (s p chan : ℕ) (q : Event) → Contains E q → Takes (E ++ e ∷ []) s p chan q → Takes E s p chan q
  takes_back g s p chan q c y =
      let t = accept_sent (prefix E (e ∷ []) g) q y.set y.letter.id record { in_list = c; kind = y.kind } in
      let same = letter_same g t.letter y.letter (sent_part (old E e) t.letter t.sent) y.sent t.named in
      record {
        of_p = y.of_p;
        set = y.set;
        letter = y.letter;
        sent = subst (IsSent E) same t.sent;
        kind = y.kind;
        sender_is = y.sender_is;
        chan_is = y.chan_is;
      }
