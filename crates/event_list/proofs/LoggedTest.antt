-- A test for logged letters, and the trace that it gives: worked runs compute theirs.
use Rattle.std.proofs.Common.{◌≡◌, ℕ, ◌<◌, ◌≤◌, Bool, true, false, List, refl, sym, ap, ◌∙◌, subst, inl, inr, arith}
use Rattle.std.specs.Prelude.{Contains, ◌==◌, ◌&&◌, ◌||◌, not, nat_lt, nat_le, filter, map}
use Rattle.std.specs.List.{list_any}
use Rattle.std.proofs.lemmas.Bool.{cases_lt, cases_Bool, false≢true, eqb-true, eq-eqb, ltb-true, lt-ltb, and_parts, and_from, or_cases, or_left, or_right, not-true, not_from_false, false_from_ne_true, le-leb, leb-true}
use Rattle.nm_base.specs.declared.letter.LetterId.{LetterId}
use Rattle.nm_base.specs.declared.letter.AcceptNote.{AcceptNote}
use Rattle.nm_base.specs.declared.kind.Kind.{Kind}
use Rattle.nm_base.specs.declared.kind.Kind.TheVariants.{Line, Sent, Accepted, Printed, Ended, Faulted}
use Rattle.nm_base.specs.Message.{Message, same_name}
use Rattle.nm_base.specs.Channels.{has_channel}
use Rattle.event_list.specs.declared.Event.{Event}
use Rattle.event_list.specs.Events.{count, letters, letter_of, IsSent}
use Rattle.event_list.specs.Runs.{Sound}
use Rattle.event_list.specs.Races.{CouldTake, IsEarlier, IsLogged}
use Rattle.event_list.specs.Clocks.{clocks}
use Rattle.event_list.specs.Traces.{Keeps, waiting, all_notes, Trace, IsLoggedName, IsTraceOf}
use Rattle.event_list.specs.Turns.{precedes}
use Rattle.event_list.proofs.Members.{any_in, in_any, in_filter_map, filter_map_in}
use Rattle.event_list.proofs.Projections.{name_from, same_name_at}
use Rattle.event_list.proofs.TurnFacts.{precedes_from, precedes_is}
use Rattle.event_list.proofs.Decisions.{logged_stamp}
use Rattle.event_list.proofs.WitnessFacts.{keeps_filter}
use Rattle.event_list.proofs.FormedFacts.{no_entries}

-- whether the kind is a receive of this letter, and whether it is one whose set names the channel
abbrev is_receive_of : Kind → LetterId → Bool
is_receive_of (Accepted set taken) id = same_name taken id
is_receive_of _ id = false

abbrev is_naming : Kind → ℕ → Bool
is_naming (Accepted set taken) chan = has_channel set chan
is_naming _ chan = false

receive_is : (k : Kind) (id : LetterId) → is_receive_of k id ≡ true → (set : ℕ) × (k ≡ Accepted set id)
receive_is (Line x) id h = cc
receive_is (Sent number dest chan len words) id h = cc
receive_is (Accepted set taken) id h = (set, ap (Accepted set) (name_from taken id h))
receive_is (Printed x) id h = cc
receive_is (Ended x) id h = cc
receive_is (Faulted x) id h = cc

naming_is : (k : Kind) (chan : ℕ) → is_naming k chan ≡ true → (set : ℕ) × (id : LetterId) × (k ≡ Accepted set id) × (has_channel set chan ≡ true)
naming_is (Line x) chan h = cc
naming_is (Sent number dest c len words) chan h = cc
naming_is (Accepted set taken) chan h = (set, taken, refl, h)
naming_is (Printed x) chan h = cc
naming_is (Ended x) chan h = cc
naming_is (Faulted x) chan h = cc

-- whether no element passes the test
none_passes : {X : Type 0} (test : X → Bool) (xs : List X) → not (list_any test xs) ≡ true → (x : X) → Contains xs x → test x ≡ true → ⊥
none_passes test xs h x c t = false≢true (sym (not-true _ h) ∙ in_any test xs x c t)

passes_none : {X : Type 0} (test : X → Bool) (xs : List X) → ((x : X) → Contains xs x → test x ≡ true → ⊥) → not (list_any test xs) ≡ true
passes_none test xs h = not_from_false _ (false_from_ne_true _ (λ t. let x = any_in test xs t in h x.0 x.1 x.2))

module _ (M : ℕ) (E : List Event) where
  -- whether the letter was accepted before number k of its receiver
  abbrev taken_below : ℕ → LetterId → Bool
  taken_below k id = list_any (λ r. is_receive_of r.kind id && nat_lt r.number k) E

  -- whether the receive could have taken the letter
  abbrev could_test : Message → Event → Bool
  could_test m q =
      (q.proc.no == m.dest.no)
      && (is_naming q.kind m.chan
      && (not (list_any (λ r. is_receive_of r.kind m.id && nat_le r.number q.number) E)
      && (not (has_channel M m.chan) || not (list_any (λ l. precedes l m && not (taken_below q.number l.id)) (letters E)))))

  -- whether it is the last of them, and its number is above the timestamp's
  abbrev late_test : Message → Event → Bool
  late_test m q =
      could_test m q
      && (nat_lt ((clocks E).stamp m.id q.proc.no) q.number
      && not (list_any (λ r. nat_lt q.number r.number && could_test m r) E))

  abbrev logged_test : Message → Bool
  logged_test m = list_any (late_test m) E

  abbrev pub name_test : LetterId → Bool
  name_test id = list_any (λ m. same_name m.id id && logged_test m) (letters E)

  could_is : (m : Message) → IsSent E m → (q : Event) → Contains E q → could_test m q ≡ true → CouldTake M E q m
  could_is m sent q c h =
      let a = and_parts _ _ h in
      let b = and_parts _ _ a.1 in
      let d = and_parts _ _ b.1 in
      let k = naming_is q.kind m.chan b.0 in
      record {
        sent = sent;
        set = k.0;
        took = k.1;
        receive = record { in_list = c; kind = k.2 };
        at_dest = eqb-true q.proc.no m.dest.no a.0;
        in_set = k.3;
        before_own = λ r set w. elim (cases_lt q.number r.number) [
          | inl l ↦ l
          | inr l ↦ absurd (none_passes (λ r. is_receive_of r.kind m.id && nat_le r.number q.number) E d.0 r w.in_list
              (and_from _ _ (ap (λ z. is_receive_of z m.id) w.kind ∙ same_name_at m.id m.id refl) (le-leb r.number q.number l)))
        ];
        in_order = λ ordered l s before. elim (or_cases _ _ d.1) [
          | inl n ↦ absurd (false≢true (sym (not-true _ n) ∙ ordered))
          | inr n ↦ elim (cases_Bool (taken_below q.number l.id)) [
            | inl y ↦
                let r = any_in (λ r. is_receive_of r.kind l.id && nat_lt r.number q.number) E y in
                let w = and_parts _ _ r.2 in
                let i = receive_is r.0.kind l.id w.0 in
                (r.0, i.0, record { in_list = r.1; kind = i.1 }, ltb-true r.0.number q.number w.1)
            | inr f ↦ absurd (none_passes (λ l. precedes l m && not (taken_below q.number l.id)) (letters E) n l (filter_map_in letter_of E s.0 l s.1.in_list s.1.letter)
                (and_from _ _ (precedes_from l m before) (not_from_false _ f)))
          ]
        ];
      }

  could_from : (m : Message) (q : Event) → CouldTake M E q m → could_test m q ≡ true
  could_from m q c =
      and_from _ _ (eq-eqb q.proc.no m.dest.no c.at_dest) (and_from _ _ (ap (λ z. is_naming z m.chan) c.receive.kind ∙ c.in_set) (and_from _ _
      (passes_none (λ r. is_receive_of r.kind m.id && nat_le r.number q.number) E (λ r h t.
      let w = and_parts _ _ t in
      let i = receive_is r.kind m.id w.0 in
      omega (arith, c.before_own r i.0 record { in_list = h; kind = i.1 }, leb-true r.number q.number w.1)))
      (elim (cases_Bool (has_channel M m.chan)) [
        | inr n ↦ or_left (not (has_channel M m.chan)) _ (not_from_false _ n)
        | inl y ↦ or_right (not (has_channel M m.chan)) _ (passes_none (λ l. precedes l m && not (taken_below q.number l.id)) (letters E) (λ l h t.
            let w = and_parts _ _ t in
            let a = in_filter_map letter_of E l h in
            let r = c.in_order y l (a.0, record { in_list = a.1; letter = a.2 }) (precedes_is l m w.0) in
            false≢true (sym (not-true _ w.1) ∙ in_any (λ r. is_receive_of r.kind l.id && nat_lt r.number q.number) E r.0 r.2.in_list
            (and_from _ _ (ap (λ z. is_receive_of z l.id) r.2.kind ∙ same_name_at l.id l.id refl) (lt-ltb r.0.number q.number r.3)))))
      ])))

  module _ (g : Sound M E) where
    logged_is : (m : Message) → IsSent E m → logged_test m ≡ true → IsLogged M E m
    logged_is m sent h =
        let q = any_in (late_test m) E h in
        let a = and_parts _ _ q.2 in
        let b = and_parts _ _ a.1 in
        let could = could_is m sent q.0 q.1 a.0 in
        let earlier : IsEarlier M E m q.0 = record {
          could = could;
          last = λ r c. elim (cases_lt q.0.number r.number) [
            | inl l ↦ absurd (none_passes (λ r. nat_lt q.0.number r.number && could_test m r) E b.1 r c.receive.in_list (and_from _ _ (lt-ltb q.0.number r.number l) (could_from m r c)))
            | inr l ↦ l
          ];
        } in
        (logged_stamp M E g m q.0 earlier).1 (ltb-true _ q.0.number b.0)

    logged_from : (m : Message) → IsLogged M E m → logged_test m ≡ true
    logged_from m l =
        let could = l.1.could in
        in_any (late_test m) E l.0 could.receive.in_list (and_from _ _ (could_from m l.0 could)
        (and_from _ _ (lt-ltb _ l.0.number ((logged_stamp M E g m l.0 l.1).0 l)) (passes_none (λ r. nat_lt l.0.number r.number && could_test m r) E (λ r h t.
        let w = and_parts _ _ t in
        let n : r.number ≤ l.0.number = l.1.last r (could_is m could.sent r h w.1) in
        let k : l.0.number < r.number = ltb-true l.0.number r.number w.0 in
        omega (arith, n, k)))))

    name_is : (id : LetterId) → name_test id ≡ true → IsLoggedName M E id
    name_is id h =
        let m = any_in (λ m. same_name m.id id && logged_test m) (letters E) h in
        let w = and_parts _ _ m.2 in
        let a = in_filter_map letter_of E m.0 m.1 in
        (m.0, name_from m.0.id id w.0, logged_is m.0 (a.0, record { in_list = a.1; letter = a.2 }) w.1)

    name_by : (id : LetterId) → IsLoggedName M E id → name_test id ≡ true
    name_by id l =
        let s = l.2.1.could.sent in
        in_any (λ m. same_name m.id id && logged_test m) (letters E) l.0 (filter_map_in letter_of E s.0 l.0 s.1.in_list s.1.letter)
        (and_from _ _ (same_name_at l.0.id id l.1) (logged_from l.0 l.2))

-- a trace whose entries pass the test, with the list's counts
pub trace_by : (E : List Event) (T : Trace) → Sound T.mask E → not (list_any (λ a. nat_le T.n a.proc.no) E) ≡ true
    → filter (λ note. name_test T.mask E note.id) (all_notes E) ≡ T.notes
    → filter (name_test T.mask E) (map (λ m. m.id) (waiting E)) ≡ T.lost
    → ((p : ℕ) → p < T.n → T.counts p ≡ count E p) → ((p : ℕ) → T.n ≤ p → T.counts p ≡ 0) → IsTraceOf E T
trace_by E T g few notes lost counts no_more = record {
  processes = processes;
  notes = subst (Keeps (λ note. IsLoggedName T.mask E note.id) (all_notes E)) notes (keeps_filter (λ (note : AcceptNote). IsLoggedName T.mask E note.id) (λ note. name_test T.mask E note.id) (all_notes E) (λ note h. (name_is T.mask E g note.id, name_by T.mask E g note.id)));
  lost = subst (Keeps (IsLoggedName T.mask E) (map (λ m. m.id) (waiting E))) lost (keeps_filter (IsLoggedName T.mask E) (name_test T.mask E) (map (λ m. m.id) (waiting E)) (λ id h. (name_is T.mask E g id, name_by T.mask E g id)));
  counts = λ p. elim (cases_lt p T.n) [
    | inl l ↦ counts p l
    | inr l ↦ no_more p l ∙ sym (no_entries T.n E processes p l)
  ];
}
  where
    processes : (a : Event) → Contains E a → a.proc.no < T.n
    processes a c = elim (cases_lt a.proc.no T.n) [
      | inl l ↦ l
      | inr l ↦ absurd (none_passes (λ a. nat_le T.n a.proc.no) E few a c (le-leb T.n a.proc.no l))
    ]
