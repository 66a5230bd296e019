-- What comes of comparing a trace with a list of events.
use Rattle.std.proofs.Common.{◌≡◌, ℕ, true, false, List, [], ◌∷◌, ◌++◌, Option, Some, None, sym, ap, ◌∙◌, subst, inl, inr}
use Rattle.std.specs.Prelude.{map, Contains, ◌↔◌}
use Rattle.std.proofs.lemmas.Bool.{cases_Bool, true≢false}
use Rattle.nm_base.specs.declared.letter.LetterId.{LetterId}
use Rattle.nm_base.specs.declared.letter.AcceptNote.{AcceptNote}
use Rattle.event_list.specs.declared.Event.{Event}
use Rattle.event_list.specs.Traces.{Keeps, nothing, kept, left_out, IsLoggedName, AreNotesOf, AreLostOf}
use Rattle.event_list.proofs.Members.{empty, cons_cases, cons_here, cons_there}
use Rattle.cut_witness.specs.declared.comparisons.Compared.TheVariants.{Differs}
use Rattle.cut_witness.specs.Comparisons.{Entry, Noted, Missed, letter_in, trace_entries, all_entries, IsEntryOf, IsCompared}
use Rattle.cut_witness.specs.private.Lookups.{Sets, has, Holds, FindsFirst, FindsLacking}
use Rattle.cut_witness.proofs.EntryFacts.{note_in, lost_in, in_notes, in_lost, has_entries, first_in}
use Rattle.cut_witness.proofs.ListingFacts.{keeps_both}

keeps_map : {X Y : Type 0} {P : Y → Type 0} (f : X → Y) {xs ys : List X} → Keeps (λ x. P (f x)) xs ys → Keeps P (map f xs) (map f ys)
keeps_map f nothing = nothing
keeps_map f (kept p k) = kept p (keeps_map f k)
keeps_map f (left_out q k) = left_out q (keeps_map f k)

-- where an element of what is kept stands among all
record Place {X : Type 0} (P : X → Type 0) (xs front : List X) (x : X) : Type 0 where
  before : List X
  after : List X
  whole : xs ≡ before ++ (x ∷ after)
  earlier : (z : X) → Contains before z → P z → Contains front z

head_same : {X : Type 0} (x y : X) (xs ys : List X) → x ∷ xs ≡ y ∷ ys → x ≡ y
head_same x y xs ys h = cc

tail_same : {X : Type 0} (x y : X) (xs ys : List X) → x ∷ xs ≡ y ∷ ys → xs ≡ ys
tail_same x y xs ys h = cc

not_empty : {X : Type 0} (b : List X) (x : X) (a : List X) → [] ≡ b ++ (x ∷ a) → ⊥
not_empty [] x a h = cc
not_empty (y ∷ b) x a h = cc

place : {X : Type 0} {P : X → Type 0} {xs ys : List X} → Keeps P xs ys → (b : List X) (x : X) (a : List X) → ys ≡ b ++ (x ∷ a) → Place P xs b x
place nothing b x a h = absurd (not_empty b x a h)
place (kept {x = y} {xs = xs} {ys = ys} p k) [] x a h = record { before = []; after = xs; whole = ap (λ z. z ∷ xs) (head_same y x ys a h); earlier = λ z c q. absurd (empty z c) }
place (kept {x = y} {xs = xs} {ys = ys} p k) (w ∷ b) x a h =
    let r = place k b x a (tail_same y w ys (b ++ (x ∷ a)) h) in
    record {
      before = y ∷ r.before;
      after = r.after;
      whole = ap (λ zs. y ∷ zs) r.whole;
      earlier = λ z c q. elim (cons_cases y r.before z c) [
        | inl e ↦ subst (Contains (w ∷ b)) (sym (head_same y w ys (b ++ (x ∷ a)) h) ∙ e) (cons_here w b)
        | inr o ↦ cons_there w b z (r.earlier z o q)
      ];
    }
place {P = P} (left_out {x = y} {xs = xs} {ys = ys} n k) b x a h =
    let r = place k b x a h in
    record {
      before = y ∷ r.before;
      after = r.after;
      whole = ap (λ zs. y ∷ zs) r.whole;
      earlier = λ z c q. elim (cons_cases y r.before z c) [
        | inl e ↦ absurd (n (subst P (sym e) q))
        | inr o ↦ r.earlier z o q
      ];
    }

pub holds_has : {sets : Sets} {notes : List AcceptNote} {lost : List LetterId} → Holds sets notes lost → (x : Entry) → (has sets x ≡ true) ↔ Contains (trace_entries notes lost) x
holds_has {notes = notes} {lost = lost} h (Noted note) = ((λ e. note_in notes lost note ((h.notes_are note).0 e)), (λ c. (h.notes_are note).1 (in_notes notes lost note c)))
holds_has {notes = notes} {lost = lost} h (Missed id) = ((λ e. lost_in notes lost id ((h.lost_are id).0 e)), (λ c. (h.lost_are id).1 (in_lost notes lost id c)))

-- what a set lacks isn't in the list
lacked : {sets : Sets} {notes : List AcceptNote} {lost : List LetterId} → Holds sets notes lost → (x : Entry) → has sets x ≡ false → Contains (trace_entries notes lost) x → ⊥
lacked h x f c = true≢false (sym ((holds_has h x).1 c) ∙ f)

unlacked : {sets : Sets} {notes : List AcceptNote} {lost : List LetterId} → Holds sets notes lost → (x : Entry) → (has sets x ≡ false → ⊥) → Contains (trace_entries notes lost) x
unlacked {sets = sets} h x f = elim (cases_Bool (has sets x)) [ inl t ↦ (holds_has h x).0 t | inr n ↦ absurd (f n) ]

-- so the first that a set lacks is the first that isn't in the list
pub lacking_from : {sets : Sets} {notes : List AcceptNote} {lost : List LetterId} → Holds sets notes lost → (xs : List Entry) (r : Option LetterId) → FindsFirst (λ x. has sets x ≡ false) xs r
    → FindsLacking xs (trace_entries notes lost) r
lacking_from h xs None f = λ x c. unlacked h x (f x c)
lacking_from {sets = sets} h xs (Some id) f = record {
  before = f.before;
  entry = f.entry;
  after = f.after;
  whole = f.whole;
  holds = lacked h f.entry f.holds;
  none_before = λ x c q. f.none_before x c (elim (cases_Bool (has sets x)) [ inl t ↦ absurd (q ((holds_has h x).0 t)) | inr k ↦ k ]);
  named = f.named;
}

-- a trace and the entries of a list
module _ (M : ℕ) (E : List Event) (notes own_notes : List AcceptNote) (lost own_lost : List LetterId) (n : AreNotesOf M E own_notes) (l : AreLostOf M E own_lost) where
  own_kept : Keeps (λ x. IsLoggedName M E (letter_in x)) (all_entries E) (trace_entries own_notes own_lost)
  own_kept = keeps_both (keeps_map Noted n) (keeps_map Missed l)

  pub first_lacked : (id : LetterId) → FindsLacking (trace_entries notes lost) (trace_entries own_notes own_lost) (Some id) → IsCompared M notes lost E (Differs id)
  first_lacked id f = inl record {
    before = f.before;
    entry = f.entry;
    after = f.after;
    whole = f.whole;
    holds = λ e. f.holds ((has_entries n l f.entry).1 e);
    none_before = λ x c q. f.none_before x c (λ d. q ((has_entries n l x).0 d));
    named = f.named;
  }

  module _ (all : FindsLacking (trace_entries notes lost) (trace_entries own_notes own_lost) None) where
    pub then_lacked : (id : LetterId) → FindsLacking (trace_entries own_notes own_lost) (trace_entries notes lost) (Some id) → IsCompared M notes lost E (Differs id)
    then_lacked id f =
        let p = place own_kept f.before f.entry f.after f.whole in
        inr (
          (λ x c. (has_entries n l x).0 (all x c)),
          record {
            before = p.before;
            entry = f.entry;
            after = p.after;
            whole = p.whole;
            holds = ((has_entries n l f.entry).0 (first_in (λ x. Contains (trace_entries notes lost) x → ⊥) (trace_entries own_notes own_lost) id f), f.holds);
            none_before = λ x c q. f.none_before x (p.earlier x c q.0.logged) q.1;
            named = f.named;
          },
        )

    pub none_lacked : FindsLacking (trace_entries own_notes own_lost) (trace_entries notes lost) None → (x : Entry) → Contains (trace_entries notes lost) x ↔ IsEntryOf M E x
    none_lacked f x = ((λ c. (has_entries n l x).0 (all x c)), (λ e. f x ((has_entries n l x).1 e)))

-- the lists as they are read
pub first_over : (zs : List Entry) (xs notes : List AcceptNote) (ys lost : List LetterId) → xs ≡ notes → ys ≡ lost → (o p : Option LetterId) → o ≡ p → FindsLacking (trace_entries xs ys) zs o → FindsLacking (trace_entries notes lost) zs p
first_over zs xs notes ys lost a b o p e f =
    subst (FindsLacking (trace_entries notes lost) zs) e (subst (λ v. FindsLacking (trace_entries notes v) zs o) b (subst (λ v. FindsLacking (trace_entries v ys) zs o) a f))

pub then_over : (zs : List Entry) (xs notes : List AcceptNote) (ys lost : List LetterId) → xs ≡ notes → ys ≡ lost → (o p : Option LetterId) → o ≡ p → FindsLacking zs (trace_entries xs ys) o → FindsLacking zs (trace_entries notes lost) p
then_over zs xs notes ys lost a b o p e f =
    subst (FindsLacking zs (trace_entries notes lost)) e (subst (λ v. FindsLacking zs (trace_entries notes v) o) b (subst (λ v. FindsLacking zs (trace_entries v ys) o) a f))

pub notes_over : (E : List Event) (M N : ℕ) → M ≡ N → (xs ys : List AcceptNote) → ys ≡ xs → AreNotesOf M E xs → AreNotesOf N E ys
notes_over E M N m xs ys e h = subst (AreNotesOf N E) (sym e) (subst (λ k. AreNotesOf k E xs) m h)

pub lost_over : (E : List Event) (M N : ℕ) → M ≡ N → (xs ys : List LetterId) → ys ≡ xs → AreLostOf M E xs → AreLostOf N E ys
lost_over E M N m xs ys e h = subst (AreLostOf N E) (sym e) (subst (λ k. AreLostOf k E xs) m h)
