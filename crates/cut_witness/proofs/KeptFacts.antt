-- The entries that a witness keeps, and the numbers of receives.
use Rattle.std.proofs.Common.{◌≡◌, ℕ, zero, suc, ◌+◌, ◌-◌, ◌<◌, ◌≤◌, Bool, true, false, cond, List, [], ◌∷◌, ◌++◌, length, take, Option, Some, None, refl, sym, ap, ◌∙◌, inl, inr, arith, length-append}
use Rattle.std.specs.Prelude.{Contains, filter, map, slice_get, is_some, not, nat_le, nat_lt, ◌==◌, ◌&&◌, ◌||◌}
use Rattle.std.proofs.lemmas.Bool.{cases_eq, cases_lt, eq-eqb, eqb-true, ne_eqb, lt-ltb, le-ltb, leb-true, le-leb, and_parts, and_from, and_right, or_cases, or_left, or_right, not-true, not_from_false, false_from_ne_true, false≢true}
use Rattle.std.proofs.lemmas.List.{take_all, take-append-le, append-nil, map-append}
use Rattle.std.specs.List.{cons_option}
use Rattle.std.proofs.lemmas.List.Filters.{length-filter_both}
use Rattle.std.proofs.lemmas.List.Elements.{filter-append}
use Rattle.nm_base.specs.Fitting.{none, more}
use Rattle.nm_base.specs.declared.letter.LetterId.{LetterId}
use Rattle.nm_base.specs.Message.{Message}
use Rattle.event_list.specs.declared.Event.{Event}
use Rattle.event_list.specs.Events.{entries, count, letter_of, taken_of, taken}
use Rattle.event_list.specs.Order.{Before, Cut}
use Rattle.event_list.specs.Runs.{Sound}
use Rattle.event_list.specs.Clocks.{IsCounts}
use Rattle.event_list.specs.Cuts.{IsLeastCut}
use Rattle.event_list.specs.Traces.{Keeps, receive_number}
use Rattle.event_list.specs.Witnesses.{IsKept}
use Rattle.event_list.specs.Carrying.{moves_of, move_of}
use Rattle.event_list.proofs.Entries.{entries_here, entries_there, taken_grows}
use Rattle.event_list.proofs.Links.{accepts_from}
use Rattle.event_list.proofs.RaceLaw.{no_letter}
use Rattle.event_list.proofs.Soundness.{numbers, sender_is, same_place}
use Rattle.event_list.proofs.WitnessFacts.{keeps_filter}
use Rattle.causal_stop.specs.Stops.{IsEntry, Holds, cut_of}
use Rattle.causal_stop.proofs.PastFacts.{entry_counts}
use Rattle.causal_stop.proofs.PlaceFacts.{taken_more}
use Rattle.cut_witness.specs.declared.certificates.WitnessTurn.{WitnessTurn}
use Rattle.cut_witness.specs.declared.earlier.Posted.{Posted}
use Rattle.cut_witness.specs.declared.kept.Kept.{Kept}
use Rattle.cut_witness.specs.Certificates.{move_at}
use Rattle.cut_witness.specs.private.Steps.{IsPosted, TellsKept, is_kept, is_receive_below}

-- no event sends and receives
no_both : (E : List Event) (e : Event) (m : Message) (id : LetterId) → Contains E e → letter_of e ≡ Some m → taken_of e ≡ Some id → ⊥
no_both E e m id h s t = let acc = accepts_from e id h t in no_letter e acc.0 id m acc.1.kind s

pub posted_entry : {E : List Event} {a : Event} {m : Message} {p : Posted} → IsPosted E a m p → IsEntry E p.id.sender.no p.event a
posted_entry h = record { in_list = h.sends.in_list; of_p = sender_is h.sends ∙ ap (λ i. i.sender.no) h.named; numbered = h.numbered }

pub own_entry : {E : List Event} (q : Event) → Contains E q → IsEntry E q.proc.no q.number q
own_entry q h = record { in_list = h; of_p = refl; numbered = refl }

module _ (M : ℕ) (E : List Event) (g : Sound M E) (a : Event) (m : Message) (p : Posted) (h : IsPosted E a m p) (q : Event) (hq : Contains E q) (id : LetterId) (t : taken_of q ≡ Some id) (v : Cut) (l : IsLeastCut E (Holds p.id.sender.no p.event) v) where
  counts : IsCounts E a v
  counts = entry_counts g a p.id.sender.no p.event (posted_entry h) v l

  -- the receive happened before the send where the send's past counts it
  pub counted : q.number ≤ v q.proc.no → Before E q a
  counted n = elim ((counts.tells q hq).0 n) [
    | inl e ↦ absurd (no_both E a m id h.sends.in_list h.sends.letter (ap taken_of (sym e) ∙ t))
    | inr b ↦ b
  ]

  pub both_counted : (k : Kept) → v q.proc.no < q.number → IsLeastCut E (Holds q.proc.no q.number) (cut_of k.receive) → ((x : ℕ) → v x ≡ cut_of k.send x) → k.without ≡ q.proc → k.number ≡ q.number → TellsKept E a q (Some k)
  both_counted k n r same w o = (
    (λ b. let c = (counts.tells q hq).1 (inr b) in omega (arith, c, n)),
    record {
      at_most = λ x. omega (arith, counts.at_most x, same x);
      tells = λ x hx. (
        (λ c. (counts.tells x hx).0 (omega (arith, c, same x.proc.no))),
        (λ c. let d = (counts.tells x hx).1 c in omega (arith, d, same x.proc.no)),
      );
    },
    entry_counts g q q.proc.no q.number (own_entry q hq) (cut_of k.receive) r,
    ap (λ x. x.no) w,
    o,
  )

-- what the test keeps is what a witness keeps
pub kept_front : {M : ℕ} {E : List Event} → Sound M E → (a q : Event) (k : Kept) → Contains E q → TellsKept E a q (Some k) → Keeps (IsKept E a q) E (filter (is_kept k) E)
kept_front {E = E} g a q k hq t = keeps_filter (IsKept E a q) (is_kept k) E (λ x hx. (in_past x hx, passes x hx))
  where
    in_past : (x : Event) → Contains E x → is_kept k x ≡ true → IsKept E a q x
    in_past x hx r =
        let parts = and_parts (nat_le x.number (cut_of k.send x.proc.no) || nat_le x.number (cut_of k.receive x.proc.no)) (not ((x.proc.no == k.without.no) && (x.number == k.number))) r in (
          elim (or_cases (nat_le x.number (cut_of k.send x.proc.no)) (nat_le x.number (cut_of k.receive x.proc.no)) parts.0) [
            | inl n ↦ inl (hx, (t.1.tells x hx).0 (leb-true x.number (cut_of k.send x.proc.no) n))
            | inr n ↦ inr (hx, (t.2.tells x hx).0 (leb-true x.number (cut_of k.receive x.proc.no) n))
          ],
          (λ e. false≢true (sym (not-true ((x.proc.no == k.without.no) && (x.number == k.number)) parts.1) ∙ and_from (x.proc.no == k.without.no) (x.number == k.number) (eq-eqb x.proc.no k.without.no (ap (λ y. y.proc.no) e ∙ sym t.3)) (eq-eqb x.number k.number (ap (λ y. y.number) e ∙ sym t.4)))),
        )

    passes : (x : Event) → Contains E x → IsKept E a q x → is_kept k x ≡ true
    passes x hx r =
        and_from (nat_le x.number (cut_of k.send x.proc.no) || nat_le x.number (cut_of k.receive x.proc.no)) (not ((x.proc.no == k.without.no) && (x.number == k.number)))
        (elim r.0 [
          | inl n ↦ or_left (nat_le x.number (cut_of k.send x.proc.no)) (nat_le x.number (cut_of k.receive x.proc.no)) (le-leb x.number (cut_of k.send x.proc.no) ((t.1.tells x hx).1 n.1))
          | inr n ↦ or_right (nat_le x.number (cut_of k.send x.proc.no)) (nat_le x.number (cut_of k.receive x.proc.no)) (le-leb x.number (cut_of k.receive x.proc.no) ((t.2.tells x hx).1 n.1))
        ])
        (not_from_false ((x.proc.no == k.without.no) && (x.number == k.number)) (false_from_ne_true ((x.proc.no == k.without.no) && (x.number == k.number)) (λ y.
        let parts = and_parts (x.proc.no == k.without.no) (x.number == k.number) y in
        r.1 (same_place g x q hx hq (eqb-true x.proc.no k.without.no parts.0 ∙ t.3) (eqb-true x.number k.number parts.1 ∙ t.4)))))

-- a turn says the move of its event
move_same : (turn : WitnessTurn) (e : Event) → turn.proc ≡ e.proc → turn.took ≡ taken_of e → move_at turn ≡ move_of e
move_same turn e p t = λ j. record { proc = (p j).no; takes = t j }

-- the turns of the first entries, with one entry more
module _ (test : Event → Bool) (E : List Event) (i : ℕ) (e : Event) (h : slice_get E i ≡ Some e) where
  filtered : filter test (take (i + 1) E) ≡ filter test (take i E) ++ cond (test e) (e ∷ []) []
  filtered = ap (filter test) (taken_more E i e h) ∙ filter-append test (take i E) (e ∷ [])

  pub passing_more : (b : Bool) → b ≡ test e → b ≡ true → filter test (take (i + 1) E) ≡ filter test (take i E) ++ e ∷ []
  passing_more b is sure = filtered ∙ ap (λ t. filter test (take i E) ++ cond t (e ∷ []) []) (sym is ∙ sure)

  pub failing_more : (b : Bool) → b ≡ test e → b ≡ false → filter test (take (i + 1) E) ≡ filter test (take i E)
  failing_more b is fails = filtered ∙ ap (λ t. filter test (take i E) ++ cond t (e ∷ []) []) (sym is ∙ fails) ∙ append-nil (filter test (take i E))

  pub turns_more : (b : Bool) → b ≡ test e → b ≡ true → (turns : List WitnessTurn) (turn : WitnessTurn) → turn.proc ≡ e.proc → turn.took ≡ taken_of e → map move_at turns ≡ moves_of (filter test (take i E)) → map move_at (turns ++ turn ∷ []) ≡ moves_of (filter test (take (i + 1) E))
  turns_more b is sure turns turn p t so_far =
      map-append move_at turns (turn ∷ []) ∙ ap (λ ms. ms ++ move_at turn ∷ []) so_far
      ∙ ap (λ m. moves_of (filter test (take i E)) ++ m ∷ []) (move_same turn e p t)
      ∙ sym (map-append move_of (filter test (take i E)) (e ∷ [])) ∙ ap moves_of (sym (passing_more b is sure))

  pub turns_same : (b : Bool) → b ≡ test e → b ≡ false → (turns : List WitnessTurn) → map move_at turns ≡ moves_of (filter test (take i E)) → map move_at turns ≡ moves_of (filter test (take (i + 1) E))
  turns_same b is fails turns so_far = so_far ∙ ap moves_of (sym (failing_more b is fails))

pub turns_all : (test : Event → Bool) (E : List Event) (i : ℕ) → length E ≤ i → (turns : List WitnessTurn) → map move_at turns ≡ moves_of (filter test (take i E)) → map move_at turns ≡ moves_of (filter test E)
turns_all test E i n turns so_far = so_far ∙ ap (λ xs. moves_of (filter test xs)) (take_all i E n)

pub turns_last : (turns : List WitnessTurn) (turn : WitnessTurn) → map move_at (turns ++ turn ∷ []) ≡ map move_at turns ++ move_at turn ∷ []
turns_last turns turn = map-append move_at turns (turn ∷ [])

-- a process's receives before an entry, counted in the whole list
nothing_taken : (n : ℕ) → length (taken (take n [])) ≡ 0
nothing_taken zero = refl
nothing_taken (suc n) = refl

one_taken : (o : Option LetterId) (e : Event) → taken_of e ≡ o → (b : Bool) → b ≡ true → length (cond (is_some o && b) (e ∷ []) []) ≡ length (taken (e ∷ []))
one_taken None e t b sure = ap (λ x. length (cons_option x [])) (sym t)
one_taken (Some id) e t b sure = ap (λ x. length (cond x (e ∷ []) [])) sure ∙ ap (λ x. length (cons_option x [])) (sym t)

pub receives_below : {M : ℕ} {E : List Event} → Sound M E → (p k : ℕ) → 0 < k → length (filter (is_receive_below p k) E) ≡ length (taken (take (k - 1) (entries E p)))
receives_below none p k pos = sym (nothing_taken (k - 1))
receives_below (more {xs = E} {x = e} g f) p k pos =
    let ih = receives_below g p k pos in
    let grown : length (filter (is_receive_below p k) (E ++ e ∷ [])) ≡ length (filter (is_receive_below p k) E) + length (cond (is_receive_below p k e) (e ∷ []) []) =
    ap length (filter-append (is_receive_below p k) E (e ∷ [])) ∙ length-append (filter (is_receive_below p k) E) (cond (is_receive_below p k e) (e ∷ []) []) in
    let left_out : is_receive_below p k e ≡ false → length (filter (is_receive_below p k) (E ++ e ∷ [])) ≡ length (filter (is_receive_below p k) E) = λ fails. omega (arith, grown, ap (λ b. length (cond b (e ∷ []) [])) fails) in
    elim (cases_eq e.proc.no p) [
      | inr there ↦
          left_out (and_right (is_some (taken_of e)) ((e.proc.no == p) && nat_lt e.number k) (ap (λ b. b && nat_lt e.number k) (ne_eqb e.proc.no p there))) ∙ ih ∙ ap (λ xs. length (taken (take (k - 1) xs))) (sym (entries_there E e p there))
      | inl here ↦
          let n : e.number ≡ length (entries E p) + 1 = f.next_number ∙ ap (λ q. count E q + 1) here in
          elim (cases_lt e.number k) [
            | inl l ↦
                let all : take (k - 1) (entries (E ++ e ∷ []) p) ≡ entries E p ++ e ∷ [] = ap (take (k - 1)) (entries_here E e p here) ∙ take_all (k - 1) (entries E p ++ e ∷ []) (omega (arith, length-append (entries E p) (e ∷ []), n, l)) in
                let old : take (k - 1) (entries E p) ≡ entries E p = take_all (k - 1) (entries E p) (omega (arith, n, l)) in
                let both : length (taken (entries E p ++ e ∷ [])) ≡ length (taken (entries E p)) + length (taken (e ∷ [])) = ap length (taken_grows (entries E p) e) ∙ length-append (taken (entries E p)) (taken (e ∷ [])) in
                let own = one_taken (taken_of e) e refl ((e.proc.no == p) && nat_lt e.number k) (and_from (e.proc.no == p) (nat_lt e.number k) (eq-eqb e.proc.no p here) (lt-ltb e.number k l)) in
                omega (arith, grown, ih, both, own, ap (λ xs. length (taken xs)) all, ap (λ xs. length (taken xs)) old)
            | inr l ↦
                left_out (and_right (is_some (taken_of e)) ((e.proc.no == p) && nat_lt e.number k) (and_right (e.proc.no == p) (nat_lt e.number k) (le-ltb e.number k l))) ∙ ih
                ∙ ap (λ xs. length (taken xs)) (sym (ap (take (k - 1)) (entries_here E e p here) ∙ take-append-le (k - 1) (entries E p) (e ∷ []) (omega (arith, n, l))))
          ]
    ]

pub number_is : {M : ℕ} {E : List Event} → Sound M E → (p number i n : ℕ) → length E ≤ i → n ≡ length (filter (is_receive_below p number) (take i E)) → (b : Event) → IsEntry E p number b → n ≡ receive_number E b
number_is {E = E} g p number i n l is b h =
    is ∙ ap (λ xs. length (filter (is_receive_below p number) xs)) (take_all i E l)
    ∙ receives_below g p number (omega (arith, (numbers g b h.in_list).0, h.numbered))
    ∙ ap (λ j. length (taken (take (j - 1) (entries E p)))) (sym h.numbered) ∙ ap (λ q. length (taken (take (b.number - 1) (entries E q)))) (sym h.of_p)

pub filter_few : (test : Event → Bool) (xs : List Event) → length (filter test xs) ≤ length xs
filter_few test xs = omega (arith, length-filter_both test (λ e. not (test e)) (λ x. refl) xs)
