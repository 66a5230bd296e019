-- What a trace's notes and lost entries say.
use Rattle.std.proofs.Common.{◌≡◌, ℕ, true, false, List, [], ◌∷◌, Option, Some, None, refl, sym, ap, ◌∙◌, subst, inl, inr}
use Rattle.std.specs.Prelude.{map, Contains, ◌⊎◌, ◌&&◌, not, option_map, ◌==◌}
use Rattle.std.specs.List.{list_any}
use Rattle.std.proofs.lemmas.Bool.{eqb-true, and_parts, or_left, or_right, not-true, not_from_false, false≢true, cases_Bool, false_from_ne_true}
use Rattle.nm_base.specs.declared.letter.LetterId.{LetterId}
use Rattle.nm_base.specs.declared.letter.AcceptNote.{AcceptNote}
use Rattle.nm_base.specs.Message.{Message, same_name}
use Rattle.event_list.specs.declared.Event.{Event}
use Rattle.event_list.specs.Events.{letters, taken, letter_of, taken_of, taken_in, Accepts, IsSent, IsTaken}
use Rattle.event_list.specs.Races.{IsLogged}
use Rattle.event_list.specs.Traces.{Keeps, nothing, kept, left_out, is_taken, waiting, receive_number, note_of, all_notes, Trace, IsLoggedName, IsTraceOf, note_for, names, permits_by, permits}
use Rattle.event_list.proofs.Members.{empty, cons_cases, cons_here, cons_there, in_filter, filter_in, find_some, any_in, in_any, in_filter_map, filter_map_in}
use Rattle.event_list.proofs.Links.{accepts_from}
use Rattle.event_list.proofs.Projections.{name_from, same_name_at}

pub keeps_in : {X : Type 0} {P : X → Type 0} {xs ys : List X} → Keeps P xs ys → (y : X) → Contains ys y → Contains xs y × P y
keeps_in nothing y h = absurd (empty y h)
keeps_in {P = P} (kept {x = x} {xs = xs} {ys = ys} p k) y h = elim (cons_cases x ys y h) [
  | inl e ↦ (subst (Contains (x ∷ xs)) e (cons_here x xs), subst P e p)
  | inr o ↦ let r = keeps_in k y o in (cons_there x xs y r.0, r.1)
]
keeps_in (left_out {x = x} {xs = xs} {ys = ys} q k) y h = let r = keeps_in k y h in (cons_there x xs y r.0, r.1)

pub in_keeps : {X : Type 0} {P : X → Type 0} {xs ys : List X} → Keeps P xs ys → (y : X) → Contains xs y → P y → Contains ys y
in_keeps nothing y h p = absurd (empty y h)
in_keeps (kept {x = x} {xs = xs} {ys = ys} q k) y h p = elim (cons_cases x xs y h) [
  | inl e ↦ subst (Contains (x ∷ ys)) e (cons_here x ys)
  | inr o ↦ cons_there x ys y (in_keeps k y o p)
]
in_keeps {P = P} (left_out {x = x} {xs = xs} {ys = ys} q k) y h p = elim (cons_cases x xs y h) [
  | inl e ↦ absurd (q (subst P (sym e) p))
  | inr o ↦ in_keeps k y o p
]

pub in_map : {X Y : Type 0} (f : X → Y) (xs : List X) (y : Y) → Contains (map f xs) y → (x : X) × Contains xs x × (f x ≡ y)
in_map f [] y h = absurd (empty y h)
in_map f (x ∷ xs) y h = elim (cons_cases (f x) (map f xs) y h) [
  | inl e ↦ (x, cons_here x xs, e)
  | inr o ↦ let r = in_map f xs y o in (r.0, cons_there x xs r.0 r.1, r.2)
]

pub map_in : {X Y : Type 0} (f : X → Y) (xs : List X) (x : X) → Contains xs x → Contains (map f xs) (f x)
map_in f [] x h = absurd (empty x h)
map_in f (z ∷ xs) x h = elim (cons_cases z xs x h) [
  | inl e ↦ subst (Contains (f z ∷ map f xs)) (ap f e) (cons_here (f z) (map f xs))
  | inr o ↦ cons_there (f z) (map f xs) (f x) (map_in f xs x o)
]

-- the receive that a note stands for
pub record NoteOf (E : List Event) (note : AcceptNote) : Type 0 where
  pub receive : Event
  pub set : ℕ
  pub accepts : Accepts E receive set note.id
  pub receiver : note.receiver ≡ receive.proc
  pub number : note.receive ≡ receive_number E receive

note_parts : (E : List Event) (b : Event) (note : AcceptNote) → Contains E b → note_of E b ≡ Some note → NoteOf E note
note_parts E b note hb h = go (taken_of b) refl h
  where
    some_same : (a c : AcceptNote) → Some a ≡ Some c → a ≡ c
    some_same a c e = cc

    none_some : (c : AcceptNote) → None ≡ Some c → ⊥
    none_some c e = cc

    go : (o : Option LetterId) → taken_of b ≡ o → option_map (λ id. record { receiver = b.proc; receive = receive_number E b; id = id }) o ≡ Some note → NoteOf E note
    go None t e = absurd (none_some note e)
    go (Some id) t e =
        let q = some_same (record { receiver = b.proc; receive = receive_number E b; id = id }) note e in
        let k = accepts_from b id hb t in
        record { receive = b; set = k.0; accepts = subst (Accepts E b k.0) (ap (λ n. n.id) q) k.1; receiver = ap (λ n. n.receiver) (sym q); number = ap (λ n. n.receive) (sym q) }

pub note_receive : (E : List Event) (note : AcceptNote) → Contains (all_notes E) note → NoteOf E note
note_receive E note h = let b = in_filter_map (note_of E) E note h in note_parts E b.0 note b.1 b.2

-- a logged letter that is received has its note
pub noted : {E : List Event} {T : Trace} → IsTraceOf E T → (b : Event) (set : ℕ) (id : LetterId) → Accepts E b set id → IsLoggedName T.mask E id → Contains T.notes (record { receiver = b.proc; receive = receive_number E b; id = id })
noted {E = E} t b set id h l =
    in_keeps t.notes _ (filter_map_in (note_of E) E b _ h.in_list (ap (λ k. option_map (λ id. record { receiver = b.proc; receive = receive_number E b; id = id }) (taken_in k)) h.kind)) l

-- whether a letter was taken
pub taken_is : (E : List Event) (id : LetterId) → is_taken E id ≡ true → IsTaken E id
taken_is E id h =
    let x = any_in (same_name id) (taken E) h in
    let b = in_filter_map taken_of E x.0 x.1 in
    let k = accepts_from b.0 x.0 b.1 b.2 in
    (b.0, k.0, subst (Accepts E b.0 k.0) (sym (name_from id x.0 x.2)) k.1)

pub is_taken_from : (E : List Event) (b : Event) (set : ℕ) (id : LetterId) → Accepts E b set id → is_taken E id ≡ true
is_taken_from E b set id h =
    in_any (same_name id) (taken E) id (filter_map_in taken_of E b id h.in_list (ap taken_in h.kind)) (same_name_at id id refl)

-- a letter that is sent and not taken waits
pub waits_in : (E : List Event) (m : Message) → IsSent E m → (IsTaken E m.id → ⊥) → Contains (waiting E) m
waits_in E m s w =
    filter_in (λ m. not (is_taken E m.id)) (letters E) m (filter_map_in letter_of E s.0 m s.1.in_list s.1.letter)
    (not_from_false (is_taken E m.id) (false_from_ne_true (is_taken E m.id) (λ t. w (taken_is E m.id t))))

pub in_waiting : (E : List Event) (m : Message) → Contains (waiting E) m → IsSent E m × (IsTaken E m.id → ⊥)
in_waiting E m h =
    let f = in_filter (λ m. not (is_taken E m.id)) (letters E) m h in
    let a = in_filter_map letter_of E m f.0 in
    ((a.0, record { in_list = a.1; letter = a.2 }), (λ t. false≢true (sym (not-true (is_taken E m.id) f.1) ∙ is_taken_from E t.0 t.1 m.id t.2)))

-- a letter that nothing names is not logged
pub unnamed : {E : List Event} {T : Trace} → IsTraceOf E T → (m : Message) → names T m.id ≡ false → IsLogged T.mask E m → ⊥
unnamed {E = E} {T = T} t m h l =
    elim (cases_Bool (is_taken E m.id)) [
      | inl y ↦
          let b = taken_is E m.id y in
          let n = noted t b.0 b.1 m.id b.2 (m, refl, l) in
          false≢true (sym h ∙ or_left (list_any (λ note. same_name note.id m.id) T.notes) (list_any (λ l. same_name l m.id) T.lost) (in_any (λ note. same_name note.id m.id) T.notes _ n (same_name_at m.id m.id refl)))
      | inr n ↦
          let w = waits_in E m (l.1.could.sent) (λ k. false≢true (sym n ∙ is_taken_from E k.0 k.1 m.id k.2)) in
          let c = in_keeps t.lost m.id (map_in (λ m. m.id) (waiting E) m w) (m, refl, l) in
          false≢true (sym h ∙ or_right (list_any (λ note. same_name note.id m.id) T.notes) (list_any (λ l. same_name l m.id) T.lost) (in_any (λ l. same_name l m.id) T.lost m.id c (same_name_at m.id m.id refl)))
    ]

-- what permission says: the letter of the receive's note, or no note and an unnamed letter
pub record Permission (E : List Event) (T : Trace) (p j : ℕ) (id : LetterId) : Type 0 where
  pub how : ((note : AcceptNote) × Contains T.notes note × (note.receiver.no ≡ p) × (note.receive ≡ j) × (note.id ≡ id)) ⊎ ((note_for T p j ≡ None) × (names T id ≡ false))

pub permission : (E : List Event) (T : Trace) (p j : ℕ) (id : LetterId) → permits T p j id ≡ true → Permission E T p j id
permission E T p j id h = go (note_for T p j) refl h
  where
    go : (o : Option AcceptNote) → note_for T p j ≡ o → permits_by o T id ≡ true → Permission E T p j id
    go (Some note) e h =
        let f = find_some (λ note. (note.receiver.no == p) && (note.receive == j)) T.notes note e in
        let k = and_parts (note.receiver.no == p) (note.receive == j) f.1 in
        record { how = inl (note, f.0, eqb-true note.receiver.no p k.0, eqb-true note.receive j k.1, name_from note.id id h) }
    go None e h = record { how = inr (e, not-true (names T id) h) }
