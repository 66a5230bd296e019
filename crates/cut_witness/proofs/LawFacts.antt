-- A trace's entries in a full replay, and that each logged letter has one.
use Rattle.std.proofs.Common.{◌≡◌, ℕ, List, [], ◌∷◌, ◌++◌, refl, sym, ap, ◌∙◌, subst, inl, inr, arith, append_assoc}
use Rattle.std.specs.Prelude.{map, Contains, ◌↔◌}
use Rattle.std.proofs.lemmas.Bool.{cases_Bool, false≢true}
use Rattle.std.proofs.lemmas.List.{append-nil, map-append}
use Rattle.std.proofs.lemmas.List.Elements.{Contains-append_left, Contains-append_right}
use Rattle.nm_base.specs.Fitting.{EachFits, none, more}
use Rattle.nm_base.specs.declared.letter.LetterId.{LetterId}
use Rattle.nm_base.specs.declared.letter.AcceptNote.{AcceptNote}
use Rattle.nm_base.specs.Message.{Message}
use Rattle.nm_base.specs.Scripts.{Script}
use Rattle.event_list.specs.declared.Event.{Event}
use Rattle.event_list.specs.Races.{IsLogged}
use Rattle.event_list.specs.Runs.{Sound}
use Rattle.event_list.specs.Sameness.{SameEntries}
use Rattle.event_list.specs.TraceRules.{NoteFits, LostFits}
use Rattle.event_list.specs.Traces.{Trace, IsTraceOf, IsLoggedName, is_taken, waiting}
use Rattle.event_list.specs.Witnesses.{IsWitness, IsWitnessOf}
use Rattle.event_list.proofs.Decisions.{trace_exists}
use Rattle.event_list.proofs.Members.{cons_here}
use Rattle.event_list.proofs.OrderlyFacts.{orderly}
use Rattle.event_list.proofs.RunsSound.{runs_sound}
use Rattle.event_list.proofs.SameFacts.{full_replay, same_meaning, same_record}
use Rattle.event_list.proofs.Splits.{prefix, last, contains_split}
use Rattle.event_list.proofs.TraceFacts.{in_map, map_in, in_keeps, noted, taken_is, is_taken_from, waits_in}
use Rattle.cut_witness.specs.Comparisons.{Entry, Noted, Missed, letter_in, trace_entries, IsEntryOf, HasEntries}
use Rattle.cut_witness.specs.Laws.{IsFullReplay, NamesOnce}
use Rattle.cut_witness.proofs.EntryFacts.{note_in, lost_in, in_notes, in_lost, has_entries}

module _ (s : ℕ → Script) (T : Trace) (E F : List Event) (h : IsFullReplay s T E F) where
  same : SameEntries E F
  same = full_replay s h.recorded.lawful T E F h.recorded.run h.recorded.trace h.replay h.reached

  pub logged_both : (m : Message) → IsLogged T.mask E m ↔ IsLogged T.mask F m
  logged_both m = (same_meaning E F same).logged T.mask m

  pub named_both : (id : LetterId) → IsLoggedName T.mask E id ↔ IsLoggedName T.mask F id
  named_both id = ((λ l. (l.0, l.1, (logged_both l.0).0 l.2)), (λ l. (l.0, l.1, (logged_both l.0).1 l.2)))

  pub witness_both : (m : Message) (W : List Event) → IsWitnessOf s T.mask F m W → IsWitness s T.mask E m W
  witness_both m W w = ((same_meaning E F same).witness s T.mask m W).1 w.witness

  -- a full replay has the trace's entries
  pub same_entries_of : (x : Entry) → Contains (trace_entries T.notes T.lost) x ↔ IsEntryOf T.mask F x
  same_entries_of x = by x
    where
      sound : Sound T.mask F
      sound = runs_sound s h.recorded.lawful h.replay.run

      u : (U : Trace) × (U.version ≡ T.version) × (U.mask ≡ T.mask) × (U.n ≡ T.n) × IsTraceOf F U
      u = trace_exists T.version T.mask T.n F sound (λ a c. h.recorded.trace.processes a (((same_meaning E F same).member a).1 c))

      its : (x : Entry) → Contains (trace_entries u.0.notes u.0.lost) x ↔ IsEntryOf T.mask F x
      its = subst (λ M. (x : Entry) → Contains (trace_entries u.0.notes u.0.lost) x ↔ IsEntryOf M F x) u.2 (has_entries u.4.notes u.4.lost)

      by : (x : Entry) → Contains (trace_entries T.notes T.lost) x ↔ IsEntryOf T.mask F x
      by (Noted note) =
          let r = (same_record E F same T u.0 (sym u.2) h.recorded.trace u.4).notes note in (
            (λ c. (its (Noted note)).0 (note_in u.0.notes u.0.lost note (r.0 (in_notes T.notes T.lost note c)))),
            (λ e. note_in T.notes T.lost note (r.1 (in_notes u.0.notes u.0.lost note ((its (Noted note)).1 e)))),
          )
      by (Missed id) =
          let r = (same_record E F same T u.0 (sym u.2) h.recorded.trace u.4).lost id in (
            (λ c. (its (Missed id)).0 (lost_in u.0.notes u.0.lost id (r.0 (in_lost T.notes T.lost id c)))),
            (λ e. lost_in T.notes T.lost id (r.1 (in_lost u.0.notes u.0.lost id ((its (Missed id)).1 e)))),
          )

-- what is named is logged
pub note_logged : (M : ℕ) (notes : List AcceptNote) (lost : List LetterId) (F : List Event) (note : AcceptNote) → HasEntries M notes lost F → Contains notes note → IsLoggedName M F note.id
note_logged M notes lost F note h c = ((h (Noted note)).0 (note_in notes lost note c)).logged

pub lost_logged : (M : ℕ) (notes : List AcceptNote) (lost : List LetterId) (F : List Event) (id : LetterId) → HasEntries M notes lost F → Contains lost id → IsLoggedName M F id
lost_logged M notes lost F id h c = ((h (Missed id)).0 (lost_in notes lost id c)).logged

pub named_only : (E : List Event) (T : Trace) (x : Entry) → IsTraceOf E T → Contains (trace_entries T.notes T.lost) x → IsLoggedName T.mask E (letter_in x)
named_only E T x t c = ((has_entries t.notes t.lost x).0 c).logged

-- no earlier entry names the letter
record Fresh (xs : List Entry) (x : Entry) : Type 0 where
  other : (z : Entry) → Contains xs z → letter_in z ≡ letter_in x → ⊥

fresh_notes : {notes : List AcceptNote} → EachFits NoteFits notes → EachFits Fresh (map Noted notes)
fresh_notes none = none
fresh_notes (more {xs = notes} {x = note} g f) =
    subst (EachFits Fresh) (sym (map-append Noted notes (note ∷ []))) (more (fresh_notes g) record {
      other = λ z c e. let r = in_map Noted notes z c in f.other r.0 r.1 (ap letter_in r.2 ∙ e);
    })

fresh_all : (notes : List AcceptNote) {lost : List LetterId} → EachFits NoteFits notes → EachFits LostFits lost → ((note : AcceptNote) (id : LetterId) → Contains notes note → Contains lost id → note.id ≡ id → ⊥) → EachFits Fresh (trace_entries notes lost)
fresh_all notes n none a = subst (EachFits Fresh) (sym (append-nil (map Noted notes))) (fresh_notes n)
fresh_all notes n (more {xs = lost} {x = id} g f) a =
    subst (EachFits Fresh) (append_assoc (map Noted notes) (map Missed lost) (Missed id ∷ []) ∙ ap (λ ms. map Noted notes ++ ms) (sym (map-append Missed lost (id ∷ []))))
    (more (fresh_all notes n g (λ note i c d. a note i c (Contains-append_left lost (id ∷ []) i d))) record { other = other })
  where
    other : (z : Entry) → Contains (trace_entries notes lost) z → letter_in z ≡ id → ⊥
    other (Noted note) c e = a note id (in_notes notes lost note c) (Contains-append_right lost (id ∷ []) id (cons_here id [])) e
    other (Missed i) c e = let l = f.later i (in_lost notes lost i c) (ap (λ z. z.sender.no) e) in omega (arith, l, ap (λ z. z.number) e)

-- in such a list an entry is the only one of its letter
fresh_at : (xs ys : List Entry) (x : Entry) → EachFits Fresh (xs ++ (x ∷ ys)) → Fresh xs x
fresh_at xs ys x g = last xs x (prefix (xs ++ x ∷ []) ys (subst (EachFits Fresh) (sym (append_assoc xs (x ∷ []) ys)) g))

names_once : (xs : List Entry) (x : Entry) → EachFits Fresh xs → Contains xs x → NamesOnce xs (letter_in x)
names_once xs x g c =
    let r = contains_split xs x c in
    record { before = r.0; entry = x; after = r.1; whole = r.2; named = refl; none_before = (fresh_at r.0 r.1 x (subst (EachFits Fresh) r.2 g)).other; none_after = after r.0 r.1 r.2 }
  where
    after : (b a : List Entry) → xs ≡ b ++ (x ∷ a) → (z : Entry) → Contains a z → letter_in z ≡ letter_in x → ⊥
    after b a h z d e =
        let q = contains_split a z d in
        let whole : xs ≡ (b ++ (x ∷ q.0)) ++ (z ∷ q.1) = h ∙ ap (λ l. b ++ (x ∷ l)) q.2 ∙ sym (append_assoc b (x ∷ q.0) (z ∷ q.1)) in
        (fresh_at (b ++ (x ∷ q.0)) q.1 z (subst (EachFits Fresh) whole g)).other x (Contains-append_right b (x ∷ q.0) x (cons_here x q.0)) (sym e)

pub named_once : (E : List Event) (T : Trace) (m : Message) → Sound T.mask E → IsTraceOf E T → IsLogged T.mask E m → NamesOnce (trace_entries T.notes T.lost) m.id
named_once E T m g t l = elim (cases_Bool (is_taken E m.id)) [
  | inl y ↦
      let b = taken_is E m.id y in
      names_once xs _ fresh (note_in T.notes T.lost _ (noted t b.0 b.1 m.id b.2 (m, refl, l)))
  | inr n ↦
      let w = waits_in E m l.1.could.sent (λ k. false≢true (sym n ∙ is_taken_from E k.0 k.1 m.id k.2)) in
      names_once xs (Missed m.id) fresh (lost_in T.notes T.lost m.id (in_keeps t.lost m.id (map_in (λ m. m.id) (waiting E) m w) (m, refl, l)))
]
  where
    xs : List Entry
    xs = trace_entries T.notes T.lost

    fresh : EachFits Fresh (trace_entries T.notes T.lost)
    fresh = let o = orderly E T g t in fresh_all T.notes o.notes o.lost o.apart
