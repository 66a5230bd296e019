-- Entries in sets, and the first that a set lacks.
use Rattle.std.proofs.Common.{◌≡◌, ℕ, zero, suc, ◌+◌, ◌<◌, Bool, true, false, cond, not, List, [], ◌∷◌, ◌++◌, length, take, get_or, Option, Some, None, refl, sym, ap, ◌∙◌, subst, inl, inr, arith, append_assoc}
use Rattle.std.specs.Prelude.{map, Contains, find, option_map, ◌⊎◌, ◌==◌, ◌&&◌}
use Rattle.std.specs.List.{list_any}
use Rattle.std.proofs.lemmas.Bool.{and_parts, and_from, eqb-true, eq-eqb, false≢true, not-true}
use Rattle.std.proofs.lemmas.List.{take_more, map-append}
use Rattle.std.proofs.lemmas.List.Folds.{find-append}
use Rattle.std.specs.Option.{option_or}
use Rattle.std.proofs.lemmas.List.Elements.{Contains-append_left, Contains-append_cases, Contains-push, Contains-push_cases}
use Rattle.nm_base.specs.declared.letter.LetterId.{LetterId}
use Rattle.nm_base.specs.declared.letter.AcceptNote.{AcceptNote}
use Rattle.nm_base.specs.Message.{same_name}
use Rattle.event_list.proofs.Members.{empty, cons_cases, find_none}
use Rattle.event_list.proofs.Projections.{name_from, same_name_at}
use Rattle.event_list.proofs.TraceFacts.{in_map}
use Rattle.cut_witness.specs.declared.lookups.NoteKey.{NoteKey}
use Rattle.cut_witness.specs.Comparisons.{Entry, Noted, Missed, trace_entries, FirstNames}
use Rattle.cut_witness.specs.private.Lookups.{key_of, same_key, Sets, has_note, has_lost, has, Holds, FindsFirst}

-- notes with the same key are one
note_from : (a b : AcceptNote) → same_key (key_of a) (key_of b) ≡ true → a ≡ b
note_from a b h =
    let p = and_parts (a.receiver.no == b.receiver.no) ((a.receive == b.receive) && same_name a.id b.id) h in
    let q = and_parts (a.receive == b.receive) (same_name a.id b.id) p.1 in
    let receiver = eqb-true a.receiver.no b.receiver.no p.0 in
    let receive = eqb-true a.receive b.receive q.0 in
    let id = name_from a.id b.id q.1 in
    λ i. record { receiver = record { no = receiver i }; receive = receive i; id = id i }

note_at : (a : AcceptNote) → same_key (key_of a) (key_of a) ≡ true
note_at a =
    and_from (a.receiver.no == a.receiver.no) ((a.receive == a.receive) && same_name a.id a.id) (eq-eqb a.receiver.no a.receiver.no refl)
    (and_from (a.receive == a.receive) (same_name a.id a.id) (eq-eqb a.receive a.receive refl) (same_name_at a.id a.id refl))

or_so : (b c : Bool) → cond b true c ≡ true → (b ≡ true) ⊎ (c ≡ true)
or_so true c h = inl refl
or_so false c h = inr h

so_left : (b c : Bool) → b ≡ true → cond b true c ≡ true
so_left b c h = ap (λ t. cond t true c) h

so_right : (b c : Bool) → c ≡ true → cond b true c ≡ true
so_right true c h = refl
so_right false c h = h

module _ (old new : Sets) where
  pub holds_note : (note : AcceptNote) (notes : List AcceptNote) (lost : List LetterId)
      → ((q : NoteKey) → list_any (same_key q) new.noted ≡ cond (same_key (key_of note) q) true (list_any (same_key q) old.noted))
      → ((id : LetterId) → list_any (same_name id) new.lost ≡ list_any (same_name id) old.lost)
      → Holds old notes lost → Holds new (notes ++ note ∷ []) lost
  holds_note note notes lost noted same h = record {
    notes_are = λ n. (
      (λ e. elim (or_so (same_key (key_of note) (key_of n)) (has_note old n) (sym (noted (key_of n)) ∙ e)) [
        | inl b ↦ subst (Contains (notes ++ note ∷ [])) (note_from note n b) (Contains-push notes note)
        | inr b ↦ Contains-append_left notes (note ∷ []) n ((h.notes_are n).0 b)
      ]),
      (λ c. noted (key_of n) ∙ elim (Contains-push_cases notes note n c) [
        | inl b ↦ so_right (same_key (key_of note) (key_of n)) (has_note old n) ((h.notes_are n).1 b)
        | inr e ↦ so_left (same_key (key_of note) (key_of n)) (has_note old n) (subst (λ z. same_key (key_of note) (key_of z) ≡ true) e (note_at note))
      ]),
    );
    lost_are = λ id. ((λ e. (h.lost_are id).0 (sym (same id) ∙ e)), (λ c. same id ∙ (h.lost_are id).1 c));
  }

  pub holds_lost : (id : LetterId) (notes : List AcceptNote) (lost : List LetterId)
      → ((q : NoteKey) → list_any (same_key q) new.noted ≡ list_any (same_key q) old.noted)
      → ((q : LetterId) → list_any (same_name q) new.lost ≡ cond (same_name id q) true (list_any (same_name q) old.lost))
      → Holds old notes lost → Holds new notes (lost ++ id ∷ [])
  holds_lost id notes lost same named h = record {
    notes_are = λ n. ((λ e. (h.notes_are n).0 (sym (same (key_of n)) ∙ e)), (λ c. same (key_of n) ∙ (h.notes_are n).1 c));
    lost_are = λ q. (
      (λ e. elim (or_so (same_name id q) (has_lost old q) (sym (named q) ∙ e)) [
        | inl b ↦ subst (Contains (lost ++ id ∷ [])) (name_from id q b) (Contains-push lost id)
        | inr b ↦ Contains-append_left lost (id ∷ []) q ((h.lost_are q).0 b)
      ]),
      (λ c. named q ∙ elim (Contains-push_cases lost id q c) [
        | inl b ↦ so_right (same_name id q) (has_lost old q) ((h.lost_are q).1 b)
        | inr e ↦ so_left (same_name id q) (has_lost old q) (subst (λ z. same_name id z ≡ true) e (same_name_at id id refl))
      ]),
    );
  }

-- the first elements, with one more
pub taken_next : {X : Type 0} (xs : List X) (i : ℕ) (d : X) → i < length xs → take (i + 1) xs ≡ take i xs ++ get_or xs i d ∷ []
taken_next xs i d l = take_more xs i d l

-- the first element that passes a test
module _ {X : Type 0} (test : X → Bool) where
  some_none : (x : X) → Some x ≡ None → ⊥
  some_none x h = cc

  none_some : (x : X) → None ≡ Some x → ⊥
  none_some x h = cc

  some_same : (x y : X) → Some x ≡ Some y → x ≡ y
  some_same x y h = cc

  pub found_at : (xs : List X) (i : ℕ) (d : X) → i < length xs → find test (take i xs) ≡ None → test (get_or xs i d) ≡ true → find test xs ≡ Some (get_or xs i d)
  found_at [] i d l n t = absurd (omega (arith, l))
  found_at (x ∷ xs) zero d l n t = ap (λ b. cond b (Some x) (find test xs)) t
  found_at (x ∷ xs) (suc i) d l n t = by (test x) n (λ k. found_at xs i d (omega (arith, l)) k t)
    where
      by : (b : Bool) → cond b (Some x) (find test (take i xs)) ≡ None → (find test (take i xs) ≡ None → find test xs ≡ Some (get_or xs i d)) → cond b (Some x) (find test xs) ≡ Some (get_or xs i d)
      by true k ih = absurd (some_none x k)
      by false k ih = ih k

  pub none_next : (xs : List X) (i : ℕ) (d : X) → i < length xs → find test (take i xs) ≡ None → test (get_or xs i d) ≡ false → find test (take (i + 1) xs) ≡ None
  none_next xs i d l n f =
      ap (find test) (take_more xs i d l) ∙ find-append test (take i xs) (get_or xs i d ∷ [])
      ∙ ap (λ o. option_or o (find test (get_or xs i d ∷ []))) n ∙ ap (λ b. cond b (Some (get_or xs i d)) None) f

  pub find_split : (xs : List X) (x : X) → find test xs ≡ Some x → (b : List X) × (a : List X) × (xs ≡ b ++ (x ∷ a)) × (test x ≡ true) × ((z : X) → Contains b z → test z ≡ false)
  find_split [] x h = absurd (none_some x h)
  find_split (y ∷ xs) x h = by (test y) refl h (find_split xs x)
    where
      by : (b : Bool) → test y ≡ b → cond b (Some y) (find test xs) ≡ Some x → (find test xs ≡ Some x → (b : List X) × (a : List X) × (xs ≡ b ++ (x ∷ a)) × (test x ≡ true) × ((z : X) → Contains b z → test z ≡ false))
          → (b : List X) × (a : List X) × (y ∷ xs ≡ b ++ (x ∷ a)) × (test x ≡ true) × ((z : X) → Contains b z → test z ≡ false)
      by true t k ih = let e = some_same y x k in ([], xs, ap (λ z. z ∷ xs) e, ap test (sym e) ∙ t, (λ z c. absurd (empty z c)))
      by false t k ih =
          let r = ih k in (
            y ∷ r.0,
            r.1,
            ap (λ l. y ∷ l) r.2,
            r.3,
            (λ z c. elim (cons_cases y r.0 z c) [ inl e ↦ ap test (sym e) ∙ t | inr o ↦ r.4 z o ]),
          )

not_false : (b : Bool) → not b ≡ false → b ≡ false → ⊥
not_false true h k = false≢true (sym k)
not_false false h k = false≢true (sym h)

not_true : (b : Bool) → not b ≡ true → b ≡ false
not_true b h = not-true b h

-- the first entry that the set lacks
module _ (sets : Sets) (notes : List AcceptNote) (lost : List LetterId) where
  abbrev IsLacked : Entry → Type 0
  IsLacked x = has sets x ≡ false

  abbrev lacks_note : AcceptNote → Bool
  lacks_note note = not (has_note sets note)

  abbrev lacks_lost : LetterId → Bool
  lacks_lost id = not (has_lost sets id)

  no_note : (xs : List AcceptNote) → ((z : AcceptNote) → Contains xs z → lacks_note z ≡ false) → (x : Entry) → Contains (map Noted xs) x → IsLacked x → ⊥
  no_note xs n x c l = let r = in_map Noted xs x c in not_false (has_note sets r.0) (n r.0 r.1) (ap (has sets) r.2 ∙ l)

  no_lost : (xs : List LetterId) → ((z : LetterId) → Contains xs z → lacks_lost z ≡ false) → (x : Entry) → Contains (map Missed xs) x → IsLacked x → ⊥
  no_lost xs n x c l = let r = in_map Missed xs x c in not_false (has_lost sets r.0) (n r.0 r.1) (ap (has sets) r.2 ∙ l)

  id_in : Option AcceptNote → Option LetterId
  id_in o = option_map (λ note. note.id) o

  true_false : {X : Type 0} (test : X → Bool) (xs : List X) → find test xs ≡ None → (z : X) → Contains xs z → test z ≡ false
  true_false test xs n z c = by (test z) refl
    where
      by : (b : Bool) → test z ≡ b → b ≡ false
      by false e = refl
      by true e = absurd (find_none test xs z n c e)

  pub in_first_note : (id : LetterId) → Some id ≡ option_map (λ note. note.id) (find lacks_note notes) → FindsFirst IsLacked (trace_entries notes lost) (Some id)
  in_first_note id h = by (find lacks_note notes) refl h
    where
      none_id : None ≡ Some id → ⊥
      none_id k = cc

      same_id : (a b : LetterId) → Some a ≡ Some b → a ≡ b
      same_id a b k = cc

      by : (o : Option AcceptNote) → find lacks_note notes ≡ o → Some id ≡ option_map (λ note. note.id) o → FirstNames IsLacked (trace_entries notes lost) id
      by None e k = absurd (none_id (sym k))
      by (Some note) e k =
          let r = find_split lacks_note notes note e in
          record {
            before = map Noted r.0;
            entry = Noted note;
            after = map Noted r.1 ++ map Missed lost;
            whole = ap (λ ns. map Noted ns ++ map Missed lost) r.2 ∙ ap (λ ns. ns ++ map Missed lost) (map-append Noted r.0 (note ∷ r.1)) ∙ append_assoc (map Noted r.0) (Noted note ∷ map Noted r.1) (map Missed lost);
            holds = not_true (has_note sets note) r.3;
            none_before = no_note r.0 r.4;
            named = same_id note.id id (sym k);
          }

  pub after_notes : None ≡ option_map (λ note. note.id) (find lacks_note notes) → (r : Option LetterId) → r ≡ find lacks_lost lost → FindsFirst IsLacked (trace_entries notes lost) r
  after_notes h r is = by r (sym is)
    where
      none_found : (o : Option AcceptNote) → None ≡ option_map (λ note. note.id) o → o ≡ None
      none_found None k = refl
      none_found (Some note) k = absurd (none_id note.id k)
        where
          none_id : (a : LetterId) → None ≡ Some a → ⊥
          none_id a k = cc

      notes_in : (x : Entry) → Contains (map Noted notes) x → IsLacked x → ⊥
      notes_in = no_note notes (true_false lacks_note notes (none_found (find lacks_note notes) h))

      by : (o : Option LetterId) → find lacks_lost lost ≡ o → FindsFirst IsLacked (trace_entries notes lost) o
      by None e = λ x c l. elim (Contains-append_cases (map Noted notes) (map Missed lost) x c) [
        | inl o ↦ notes_in x o l
        | inr o ↦ no_lost lost (true_false lacks_lost lost e) x o l
      ]
      by (Some id) e =
          let s = find_split lacks_lost lost id e in
          record {
            before = map Noted notes ++ map Missed s.0;
            entry = Missed id;
            after = map Missed s.1;
            whole = ap (λ ms. map Noted notes ++ map Missed ms) s.2 ∙ ap (λ ms. map Noted notes ++ ms) (map-append Missed s.0 (id ∷ s.1)) ∙ sym (append_assoc (map Noted notes) (map Missed s.0) (Missed id ∷ map Missed s.1));
            holds = not_true (has_lost sets id) s.3;
            none_before = λ x c l. elim (Contains-append_cases (map Noted notes) (map Missed s.0) x c) [
              | inl o ↦ notes_in x o l
              | inr o ↦ no_lost s.0 s.4 x o l
            ];
            named = refl;
          }
