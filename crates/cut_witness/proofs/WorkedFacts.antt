-- A worked list of events: two senders and a receiver.
use Rattle.std.proofs.Common.{◌≡◌, ℕ, ◌+◌, true, false, List, [], ◌∷◌, ◌++◌, Some, refl, sym, ap, subst, inl, inr, arith}
use Rattle.std.specs.Prelude.{Contains}
use Rattle.std.proofs.lemmas.List.Elements.{Contains-push_cases}
use Rattle.nm_base.specs.declared.letter.LetterId.{LetterId}
use Rattle.nm_base.specs.declared.kind.Kind.TheVariants.{Sent, Accepted}
use Rattle.nm_base.specs.Channels.{has_channel}
use Rattle.nm_base.specs.Fitting.{none, more}
use Rattle.nm_base.specs.Message.{Message}
use Rattle.nm_base.specs.Scripts.{is_last}
use Rattle.event_list.specs.declared.Event.{Event}
use Rattle.event_list.specs.Events.{count, sends, letter_of, IsTaken}
use Rattle.event_list.specs.Runs.{FitsSoundly, Sound}
use Rattle.event_list.proofs.Entries.{nothing_in}
use Rattle.event_list.proofs.MaskFacts.{none_ordered}
use Rattle.event_list.proofs.RunsSound.{accepted_parts}

abbrev pub sending : ℕ → Event
sending p = record { proc = record { no = p }; number = 1; kind = Sent 0 (record { no = 0 }) 0 1 (7 ∷ 0 ∷ 0 ∷ 0 ∷ 0 ∷ 0 ∷ 0 ∷ 0 ∷ []) }

abbrev pub name : ℕ → LetterId
name p = record { sender = record { no = p }; number = 0 }

abbrev pub taking : ℕ → ℕ → Event
taking number p = record { proc = record { no = 0 }; number = number; kind = Accepted 1 (name p) }

abbrev letter : ℕ → Message
letter p = record { id = name p; dest = record { no = 0 }; chan = 0; words = 7 ∷ [] }

one_has : has_channel 1 0 ≡ true
unfolding has_channel
one_has = refl

abbrev GoOn : List Event → Type 0
GoOn E = (a : Event) → Contains E a → is_last a.kind ≡ false

go_on_more : (E : List Event) (e : Event) → GoOn E → is_last e.kind ≡ false → GoOn (E ++ e ∷ [])
go_on_more E e h l a c = elim (Contains-push_cases E e a c) [ inl o ↦ h a o | inr n ↦ subst (λ x. is_last x.kind ≡ false) n l ]

some_same : (m l : Message) → Some m ≡ Some l → m ≡ l
some_same m l h = cc

sends_fit : (E : List Event) (p : ℕ) → count E p ≡ 0 → sends E p ≡ 0 → GoOn E → FitsSoundly 0 E (sending p)
sends_fit E p n s h = record {
  next_number = omega (arith, n);
  sends_next = λ m e. omega (arith, s, ap (λ x. x.id.number) (some_same (letter p) m e));
  takes = λ set id e. absurd (differ set id e);
  goes_on = λ a c same. h a c;
}
  where
    differ : (set : ℕ) (id : LetterId) → (sending p).kind ≡ Accepted set id → ⊥
    differ set id e = cc

takes_fit : (E : List Event) (number p : ℕ) → number ≡ count E 0 + 1 → Contains E (sending p) → (IsTaken E (name p) → ⊥) → GoOn E → FitsSoundly 0 E (taking number p)
takes_fit E number p n c free h = record {
  next_number = n;
  sends_next = λ m e. absurd (differ m e);
  takes = λ set id e.
      let parts = accepted_parts 1 set (name p) id e in (
        letter p,
        parts.1,
        record {
          sent = (sending p, record { in_list = c; letter = refl });
          to_it = refl;
          in_set = subst (λ s. has_channel s 0 ≡ true) parts.0 one_has;
          waits = free;
          in_order = λ o. absurd (none_ordered 0 o);
        },
      );
  goes_on = λ a c same. h a c;
}
  where
    differ : (m : Message) → letter_of (taking number p) ≡ Some m → ⊥
    differ m e = cc

abbrev both : List Event
both = sending 1 ∷ sending 2 ∷ []

sent_only : (p q : ℕ) (set : ℕ) (id : LetterId) → (sending p).kind ≡ Accepted set id → ⊥
sent_only p q set id e = cc

none_taken : (id : LetterId) → IsTaken both id → ⊥
none_taken id t = elim (Contains-push_cases (sending 1 ∷ []) (sending 2) t.0 t.2.in_list) [
  | inl o ↦ elim (Contains-push_cases [] (sending 1) t.0 o) [
    | inl z ↦ nothing_in t.0 z
    | inr n ↦ sent_only 1 0 t.1 id (subst (λ x. x.kind ≡ Accepted t.1 id) (sym n) t.2.kind)
  ]
  | inr n ↦ sent_only 2 0 t.1 id (subst (λ x. x.kind ≡ Accepted t.1 id) (sym n) t.2.kind)
]

pub run_sound : Sound 0 (sending 1 ∷ sending 2 ∷ taking 1 1 ∷ taking 2 2 ∷ [])
run_sound =
    let none_go : GoOn [] = λ a c. absurd (nothing_in a c) in
    let first_go = go_on_more [] (sending 1) none_go refl in
    let both_go = go_on_more (sending 1 ∷ []) (sending 2) first_go refl in
    let third_go = go_on_more both (taking 1 1) both_go refl in
    more {xs = sending 1 ∷ sending 2 ∷ taking 1 1 ∷ []} (more {xs = both} (more {xs = sending 1 ∷ []} (more none (sends_fit [] 1 refl refl none_go)) (sends_fit (sending 1 ∷ []) 2 refl refl first_go))
    (takes_fit both 1 1 refl (0, omega arith, refl) (none_taken (name 1)) both_go))
    (takes_fit (sending 1 ∷ sending 2 ∷ taking 1 1 ∷ []) 2 2 refl (1, omega arith, refl) waits third_go)
  where
    waits : IsTaken (sending 1 ∷ sending 2 ∷ taking 1 1 ∷ []) (name 2) → ⊥
    waits t = elim (Contains-push_cases both (taking 1 1) t.0 t.2.in_list) [
      | inl o ↦ none_taken (name 2) (t.0, t.1, record { in_list = o; kind = t.2.kind })
      | inr n ↦ omega (arith, ap (λ i. i.sender.no) (accepted_parts 1 t.1 (name 1) (name 2) (subst (λ x. x.kind ≡ Accepted t.1 (name 2)) (sym n) t.2.kind)).1)
    ]
