-- The trace of a sound list keeps the rules of a trace.
use Rattle.std.proofs.Common.{◌≡◌, ℕ, zero, suc, ◌+◌, ◌*◌, ◌<◌, ◌≤◌, cond, List, [], ◌∷◌, ◌++◌, length, Option, Some, None, refl, sym, ap, ◌∙◌, subst, inl, inr, arith, length-append}
use Rattle.std.specs.Prelude.{Contains, ◌⊎◌, map, filter_map, option_map}
use Rattle.std.specs.List.{cons_option}
use Rattle.std.proofs.lemmas.Bool.{eq-eqb, ne_eqb}
use Rattle.std.proofs.lemmas.List.{append-nil, map-append, length-map}
use Rattle.std.proofs.lemmas.List.Elements.{filter_map-append}
use Rattle.nm_base.specs.declared.letter.LetterId.{LetterId}
use Rattle.nm_base.specs.declared.letter.ProcNo.{ProcNo}
use Rattle.nm_base.specs.declared.letter.AcceptNote.{AcceptNote}
use Rattle.nm_base.specs.declared.kind.Kind.{Kind}
use Rattle.nm_base.specs.declared.kind.Kind.TheVariants.{Line, Sent, Accepted, Printed, Ended, Faulted}
use Rattle.nm_base.specs.Fitting.{EachFits, none, more}
use Rattle.nm_base.specs.Message.{Message}
use Rattle.nm_base.specs.Scripts.{message_sent}
use Rattle.event_list.specs.declared.Event.{Event}
use Rattle.event_list.specs.Events.{Accepts, entries, count, letters, letter_of, taken, taken_of, taken_in}
use Rattle.event_list.specs.Runs.{Sound}
use Rattle.event_list.specs.Traces.{Keeps, nothing, kept, left_out, waiting, receive_number, note_of, Trace, IsTraceOf}
use Rattle.event_list.specs.TraceRules.{NoteFits, LostFits, IsOrderly}
use Rattle.event_list.specs.Turns.{sum_below}
use Rattle.event_list.proofs.Members.{cons_here, cons_there, in_filter_map}
use Rattle.event_list.proofs.Entries.{letters_grow, taken_grows}
use Rattle.event_list.proofs.Splits.{contains_split}
use Rattle.event_list.proofs.Soundness.{old, new, numbers, sender_is, accept_same}
use Rattle.event_list.proofs.Links.{accept_sent, accepts_from}
use Rattle.event_list.proofs.Projections.{IsPart}
use Rattle.event_list.proofs.Parts.{receive_order}
use Rattle.event_list.proofs.TraceFacts.{keeps_in, in_map, NoteOf, note_receive, in_waiting, waits_in}
use Rattle.event_list.proofs.Growth.{waiting_made, waiting_taken}
use Rattle.event_list.proofs.SendOrder.{InOrder, waiting_in_order}
use Rattle.event_list.proofs.FinishFacts.{sum_same, sum_less}

-- what is kept of a list that grew by one
keeps_last : {X : Type 0} {P : X → Type 0} (xs : List X) (x : X) (ys : List X) → Keeps P (xs ++ x ∷ []) ys → Keeps P xs ys ⊎ ((zs : List X) × (ys ≡ zs ++ x ∷ []) × Keeps P xs zs)
keeps_last [] x _ (kept p nothing) = inr ([], refl, nothing)
keeps_last [] x _ (left_out q nothing) = inl nothing
keeps_last (y ∷ xs) x _ (kept {ys = ys} p k) = elim (keeps_last xs x ys k) [
  | inl h ↦ inl (kept p h)
  | inr r ↦ inr (y ∷ r.0, ap (λ l. y ∷ l) r.1, kept p r.2)
]
keeps_last (y ∷ xs) x _ (left_out {ys = ys} q k) = elim (keeps_last xs x ys k) [
  | inl h ↦ inl (left_out q h)
  | inr r ↦ inr (r.0, r.1, left_out q r.2)
]

-- what fits after more elements fits after fewer
abbrev IsHereditary : {X : Type 0} → (List X → X → Type 0) → Type 0
IsHereditary {X = X} Fits = (xs ys : List X) (x : X) → ((y : X) → Contains ys y → Contains xs y) → Fits xs x → Fits ys x

-- and then each element that is kept fits those that are kept before it
keeps_fits : {X : Type 0} {P : X → Type 0} {Fits : List X → X → Type 0} → IsHereditary Fits → {xs : List X} → EachFits Fits xs → (ys : List X) → Keeps P xs ys → EachFits Fits ys
keeps_fits h none _ nothing = none
keeps_fits {Fits = Fits} h (more {xs = xs} {x = x} g f) ys k = elim (keeps_last xs x ys k) [
  | inl k ↦ keeps_fits h g ys k
  | inr r ↦ subst (EachFits Fits) (sym r.1) (more (keeps_fits h g r.0 r.2) (h xs r.0 x (λ y c. (keeps_in r.2 y c).0) f))
]

note_fits_fewer : IsHereditary NoteFits
note_fits_fewer xs ys x sub f = record { later = λ a c p. f.later a (sub a c) p; other = λ a c e. f.other a (sub a c) e }

lost_fits_fewer : IsHereditary LostFits
lost_fits_fewer xs ys x sub f = record { later = λ a c p. f.later a (sub a c) p }

-- the receive of a note
record Noted (E : List Event) (b : Event) (note : AcceptNote) : Type 0 where
  pub receiver : note.receiver ≡ b.proc
  pub receive : note.receive ≡ receive_number E b
  pub takes : taken_of b ≡ Some note.id

is_noted : (E : List Event) (b : Event) (note : AcceptNote) → note_of E b ≡ Some note → Noted E b note
is_noted E b note h = go (taken_of b) refl h
  where
    some_same : (a c : AcceptNote) → Some a ≡ Some c → a ≡ c
    some_same a c e = cc

    none_some : (c : AcceptNote) → None ≡ Some c → ⊥
    none_some c e = cc

    go : (o : Option LetterId) → taken_of b ≡ o → option_map (λ id. record { receiver = b.proc; receive = receive_number E b; id = id }) o ≡ Some note → Noted E b note
    go None t e = absurd (none_some note e)
    go (Some id) t e =
        let q = some_same (record { receiver = b.proc; receive = receive_number E b; id = id }) note e in
        record { receiver = ap (λ n. n.receiver) (sym q); receive = ap (λ n. n.receive) (sym q); takes = t ∙ ap (λ n. Some n.id) q }

-- the notes of all receives of the list are in order
module _ {M : ℕ} {E : List Event} (g : Sound M E) where
  next_fits : {P : List Event} (e : Event) → Sound M (P ++ e ∷ []) → Sound M P → e.number ≡ count P e.proc.no + 1 → IsPart (P ++ e ∷ []) E → (note : AcceptNote) → note_of E e ≡ Some note → NoteFits (filter_map (note_of E) P) note
  next_fits {P = P} e r p at part note h =
      record {
        later = λ a c same.
            let b = in_filter_map (note_of E) P a c in
            let x = is_noted E b.0 a b.2 in
            let q : b.0.proc.no ≡ e.proc.no = ap (λ z. z.no) (sym x.receiver) ∙ same ∙ ap (λ z. z.no) n.receiver in
            let k : (set : ℕ) × Accepts E b.0 set a.id = accepts_from b.0 a.id (here b.0 b.1) x.takes in
            let later : receive_number E b.0 < receive_number E e = receive_order g b.0 e k.0 a.id k.1 (part e (new P e)) q (below b.0 b.1 q) in
            omega (arith, later, x.receive, n.receive);
        other = λ a c same.
            let b = in_filter_map (note_of E) P a c in
            let x = is_noted E b.0 a b.2 in
            let k = accepts_from b.0 note.id (here b.0 b.1) (x.takes ∙ ap Some same) in
            let l = accepts_from e note.id (part e (new P e)) n.takes in
            let z = accept_same g b.0 e k.0 l.0 note.id k.1 l.1 in
            omega (arith, below b.0 b.1 (ap (λ y. y.proc.no) z), ap (λ y. y.number) z);
      }
    where
      n : Noted E e note
      n = is_noted E e note h

      here : (b : Event) → Contains P b → Contains E b
      here b c = part b (old P e b c)

      below : (b : Event) → Contains P b → b.proc.no ≡ e.proc.no → b.number < e.number
      below b c q = omega (arith, (numbers p b c).1, at, ap (count P) q)

  notes_fit : {P : List Event} → Sound M P → IsPart P E → EachFits NoteFits (filter_map (note_of E) P)
  notes_fit none part = none
  notes_fit (more {xs = P} {x = e} p f) part = subst (EachFits NoteFits) (sym (filter_map-append (note_of E) P (e ∷ []))) (by (note_of E e) refl (notes_fit p (λ a c. part a (old P e a c))))
    where
      by : (o : Option AcceptNote) → note_of E e ≡ o → EachFits NoteFits (filter_map (note_of E) P) → EachFits NoteFits (filter_map (note_of E) P ++ cons_option o [])
      by None h k = subst (EachFits NoteFits) (sym (append-nil (filter_map (note_of E) P))) k
      by (Some note) h k = more k (next_fits e (more p f) p f.next_number part note h)

-- the names of letters in order
names_fit : {ls : List Message} → EachFits InOrder ls → EachFits LostFits (map (λ m. m.id) ls)
names_fit none = none
names_fit (more {xs = ls} {x = m} g f) =
    subst (EachFits LostFits) (sym (map-append (λ m. m.id) ls (m ∷ []))) (more (names_fit g) record {
      later = λ a c same. let l = in_map (λ m. m.id) ls a c in
          omega (arith, f l.0 l.1 (ap (λ z. z.sender.no) l.2 ∙ same), ap (λ z. z.number) l.2);
    })

pub orderly : (E : List Event) (T : Trace) → Sound T.mask E → IsTraceOf E T → IsOrderly T
orderly E T g t =
    record {
      receivers = λ note c. let k = receive note c in omega (arith, t.processes k.receive k.accepts.in_list, ap (λ z. z.no) k.receiver);
      senders = λ note c.
          let k = receive note c in
          let s = accept_sent g k.receive k.set note.id k.accepts in
          omega (arith, t.processes s.sent.0 s.sent.1.in_list, sender_is s.sent.1, ap (λ z. z.sender.no) s.named);
      lost_senders = λ id c.
          let m = waits id c in
          let s = (in_waiting E m.0 m.1).0 in
          omega (arith, t.processes s.0 s.1.in_list, sender_is s.1, ap (λ z. z.sender.no) m.2);
      notes = keeps_fits note_fits_fewer (notes_fit g g (λ a h. h)) T.notes t.notes;
      lost = keeps_fits lost_fits_fewer (names_fit (waiting_in_order g)) T.lost t.lost;
      apart = λ note id c d same.
          let k = receive note c in
          let m = waits id d in
          (in_waiting E m.0 m.1).1 (k.receive, k.set, record { in_list = k.accepts.in_list; kind = k.accepts.kind ∙ ap (Accepted k.set) (same ∙ sym m.2) });
    }
  where
    receive : (note : AcceptNote) → Contains T.notes note → NoteOf E note
    receive note c = note_receive E note (keeps_in t.notes note c).0

    waits : (id : LetterId) → Contains T.lost id → (m : Message) × Contains (waiting E) m × (m.id ≡ id)
    waits id c = in_map (λ m. m.id) (waiting E) id (keeps_in t.lost id c).0

keeps_fewer : {X : Type 0} {P : X → Type 0} {xs ys : List X} → Keeps P xs ys → length ys ≤ length xs
keeps_fewer nothing = omega arith
keeps_fewer (kept p k) = omega (arith, keeps_fewer k)
keeps_fewer (left_out q k) = omega (arith, keeps_fewer k)

-- as many notes as receives
many_notes : (E xs : List Event) → length (filter_map (note_of E) xs) ≡ length (taken xs)
many_notes E [] = refl
many_notes E (x ∷ xs) = by (taken_of x) (many_notes E xs)
  where
    by : (o : Option LetterId) → length (filter_map (note_of E) xs) ≡ length (taken xs) → length (cons_option (option_map (λ id. record { receiver = x.proc; receive = receive_number E x; id = id }) o) (filter_map (note_of E) xs)) ≡ length (cons_option o (taken xs))
    by None h = h
    by (Some id) h = omega (arith, h)

-- an event sends a letter, or accepts one, or neither
one_letter : (e : Event) → length (letters (e ∷ [])) + length (taken (e ∷ [])) ≤ 1
one_letter e = by e.proc e.kind
  where
    by : (p : ProcNo) (k : Kind) → length (cons_option (message_sent p k) []) + length (cons_option (taken_in k) []) ≤ 1
    by p (Line x) = omega arith
    by p (Sent number dest chan len words) = omega arith
    by p (Accepted set id) = omega arith
    by p (Printed x) = omega arith
    by p (Ended x) = omega arith
    by p (Faulted x) = omega arith

-- each letter that was sent waits or was accepted
pub letters_wait : {M : ℕ} {E : List Event} → Sound M E → length (waiting E) + length (taken E) ≡ length (letters E)
letters_wait none = refl
letters_wait (more {xs = E} {x = e} g f) = by (taken_of e) refl (letters_wait g)
  where
    sent : length (letters (E ++ e ∷ [])) ≡ length (letters E) + length (letters (e ∷ []))
    sent = ap length (letters_grow E e) ∙ length-append (letters E) (letters (e ∷ []))

    accepted : length (taken (E ++ e ∷ [])) ≡ length (taken E) + length (taken (e ∷ []))
    accepted = ap length (taken_grows E e) ∙ length-append (taken E) (taken (e ∷ []))

    by : (o : Option LetterId) → taken_of e ≡ o → length (waiting E) + length (taken E) ≡ length (letters E) → length (waiting (E ++ e ∷ [])) + length (taken (E ++ e ∷ [])) ≡ length (letters (E ++ e ∷ []))
    by None h ih =
        let none_now : length (taken (e ∷ [])) ≡ 0 = ap (λ o. length (cons_option o [])) h in
        omega (arith, ih, sent, accepted, none_now, ap length (waiting_made g f h), length-append (waiting E) (letters (e ∷ [])))
    by (Some id) h ih =
        let one_now : length (taken (e ∷ [])) ≡ 1 = ap (λ o. length (cons_option o [])) h in
        let k = accepts_from e id (new E e) h in
        let t = f.takes k.0 id k.1.kind in
        let c = contains_split (waiting E) t.0 (waits_in E t.0 t.2.sent t.2.waits) in
        let w = waiting_taken g e k.0 c.0 t.0 c.1 (k.1.kind ∙ ap (Accepted k.0) (sym t.1)) c.2 in
        omega (arith, ih, sent, accepted, one_now, one_letter e, ap length w, ap length c.2, length-append c.0 c.1, length-append c.0 (t.0 ∷ c.1))

pub few_letters : (E : List Event) → length (letters E) + length (taken E) ≤ length E
few_letters [] = omega arith
few_letters (x ∷ xs) = omega (arith, few_letters xs, one_letter x, ap length (filter_map-append letter_of (x ∷ []) xs), length-append (letters (x ∷ [])) (letters xs), ap length (filter_map-append taken_of (x ∷ []) xs), length-append (taken (x ∷ [])) (taken xs))

pub trace_size : (E : List Event) (T : Trace) → Sound T.mask E → IsTraceOf E T → 2 * length T.notes + length T.lost ≤ length E
trace_size E T g t = omega (arith, keeps_fewer t.notes, many_notes E E, keeps_fewer t.lost, length-map (waiting E) (λ m. m.id), letters_wait g, few_letters E)

-- the counts of all processes are of all events
pub all_counted : (n : ℕ) (E : List Event) → ((a : Event) → Contains E a → a.proc.no < n) → sum_below n (count E) ≡ length E
all_counted n [] h = sum_zero n
  where
    sum_zero : (n : ℕ) → sum_below n (λ p. 0) ≡ 0
    sum_zero zero = refl
    sum_zero (suc n) = omega (arith, sum_zero n)
all_counted n (x ∷ xs) h =
    omega (
      arith,
      all_counted n xs (λ a c. h a (cons_there x xs a c)),
      sum_less n x.proc.no (count (x ∷ xs)) (count xs) (h x (cons_here x xs))
          (omega (arith, ap (λ b. length (cond b (x ∷ entries xs x.proc.no) (entries xs x.proc.no))) (eq-eqb x.proc.no x.proc.no refl)))
          (λ q d. sym (ap (λ b. length (cond b (x ∷ entries xs q) (entries xs q))) (ne_eqb x.proc.no q (λ z. d (sym z))))),
    )

pub trace_sum : (E : List Event) (T : Trace) → IsTraceOf E T → sum_below T.n T.counts ≡ length E
trace_sum E T t = sum_same T.n (count E) T.counts (λ q l. t.counts q) ∙ all_counted T.n E t.processes
