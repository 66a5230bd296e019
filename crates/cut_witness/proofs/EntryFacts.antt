-- The entries of a trace.
use Rattle.std.proofs.Common.{◌≡◌, ℕ, List, [], ◌∷◌, ◌++◌, refl, sym, ap, ◌∙◌, subst, inl, inr}
use Rattle.std.specs.Prelude.{map, Contains, ◌↔◌}
use Rattle.std.proofs.lemmas.List.Elements.{Contains-append_left, Contains-append_right, Contains-append_cases}
use Rattle.nm_base.specs.declared.letter.LetterId.{LetterId}
use Rattle.nm_base.specs.declared.letter.AcceptNote.{AcceptNote}
use Rattle.event_list.specs.declared.Event.{Event}
use Rattle.event_list.specs.Traces.{AreNotesOf, AreLostOf, all_notes, waiting}
use Rattle.event_list.proofs.Members.{cons_here, cons_there}
use Rattle.event_list.proofs.TraceFacts.{keeps_in, in_keeps, in_map, map_in}
use Rattle.cut_witness.specs.declared.comparisons.Compared.{Compared}
use Rattle.cut_witness.specs.declared.comparisons.Compared.TheVariants.{Same, Differs}
use Rattle.cut_witness.specs.Comparisons.{Entry, Noted, Missed, letter_in, trace_entries, all_entries, IsEntryOf, HasEntries, FirstNames, IsCompared}

same_note : (a b : AcceptNote) → Noted a ≡ Noted b → a ≡ b
same_note a b h = cc

same_letter : (a b : LetterId) → Missed a ≡ Missed b → a ≡ b
same_letter a b h = cc

apart : (a : AcceptNote) (b : LetterId) → Noted a ≡ Missed b → ⊥
apart a b h = cc

-- what the entries of two lists are
module _ (notes : List AcceptNote) (lost : List LetterId) where
  pub note_in : (note : AcceptNote) → Contains notes note → Contains (trace_entries notes lost) (Noted note)
  note_in note h = Contains-append_left (map Noted notes) (map Missed lost) (Noted note) (map_in Noted notes note h)

  pub lost_in : (id : LetterId) → Contains lost id → Contains (trace_entries notes lost) (Missed id)
  lost_in id h = Contains-append_right (map Noted notes) (map Missed lost) (Missed id) (map_in Missed lost id h)

  pub in_notes : (note : AcceptNote) → Contains (trace_entries notes lost) (Noted note) → Contains notes note
  in_notes note h = elim (Contains-append_cases (map Noted notes) (map Missed lost) (Noted note) h) [
    | inl o ↦ let r = in_map Noted notes (Noted note) o in subst (Contains notes) (same_note r.0 note r.2) r.1
    | inr o ↦ let r = in_map Missed lost (Noted note) o in absurd (apart note r.0 (sym r.2))
  ]

  pub in_lost : (id : LetterId) → Contains (trace_entries notes lost) (Missed id) → Contains lost id
  in_lost id h = elim (Contains-append_cases (map Noted notes) (map Missed lost) (Missed id) h) [
    | inl o ↦ let r = in_map Noted notes (Missed id) o in absurd (apart r.0 id r.2)
    | inr o ↦ let r = in_map Missed lost (Missed id) o in subst (Contains lost) (same_letter r.0 id r.2) r.1
  ]

-- the entries of a trace are those of its list
module _ {M : ℕ} {E : List Event} {notes : List AcceptNote} {lost : List LetterId} (n : AreNotesOf M E notes) (l : AreLostOf M E lost) where
  abbrev names : List LetterId
  names = map (λ m. m.id) (waiting E)

  pub has_entries : (x : Entry) → Contains (trace_entries notes lost) x ↔ IsEntryOf M E x
  has_entries (Noted note) = (
    (λ h. let k = keeps_in n note (in_notes notes lost note h) in record { in_list = note_in (all_notes E) names note k.0; logged = k.1 }),
    (λ e. note_in notes lost note (in_keeps n note (in_notes (all_notes E) names note e.in_list) e.logged)),
  )
  has_entries (Missed id) = (
    (λ h. let k = keeps_in l id (in_lost notes lost id h) in record { in_list = lost_in (all_notes E) names id k.0; logged = k.1 }),
    (λ e. lost_in notes lost id (in_keeps l id (in_lost (all_notes E) names id e.in_list) e.logged)),
  )

-- an entry for which P holds isn't before the first
module _ (P : Entry → Type 0) where
  head_same : (x y : Entry) (xs ys : List Entry) → x ∷ xs ≡ y ∷ ys → x ≡ y
  head_same x y xs ys h = cc

  tail_same : (x y : Entry) (xs ys : List Entry) → x ∷ xs ≡ y ∷ ys → xs ≡ ys
  tail_same x y xs ys h = cc

  first_same : (b c : List Entry) (x y : Entry) (xs ys : List Entry) → b ++ (x ∷ xs) ≡ c ++ (y ∷ ys) → P x → P y → ((z : Entry) → Contains b z → P z → ⊥) → ((z : Entry) → Contains c z → P z → ⊥) → x ≡ y
  first_same [] [] x y xs ys h px py nb nc = head_same x y xs ys h
  first_same [] (z ∷ c) x y xs ys h px py nb nc = absurd (nc z (cons_here z c) (subst P (head_same x z xs (c ++ (y ∷ ys)) h) px))
  first_same (z ∷ b) [] x y xs ys h px py nb nc = absurd (nb z (cons_here z b) (subst P (sym (head_same z y (b ++ (x ∷ xs)) ys h)) py))
  first_same (z ∷ b) (w ∷ c) x y xs ys h px py nb nc =
      first_same b c x y xs ys (tail_same z w (b ++ (x ∷ xs)) (c ++ (y ∷ ys)) h) px py (λ v k. nb v (cons_there z b v k)) (λ v k. nc v (cons_there w c v k))

  pub one_first : (xs : List Entry) (a b : LetterId) → FirstNames P xs a → FirstNames P xs b → a ≡ b
  one_first xs a b f g = sym f.named ∙ ap letter_in (first_same f.before g.before f.entry g.entry f.after g.after (sym f.whole ∙ g.whole) f.holds g.holds f.none_before g.none_before) ∙ g.named

  pub first_in : (xs : List Entry) (a : LetterId) (f : FirstNames P xs a) → Contains xs f.entry
  first_in xs a f = subst (λ zs. Contains zs f.entry) (sym f.whole) (Contains-append_right f.before (f.entry ∷ f.after) f.entry (cons_here f.entry f.after))

-- where the entries are the same no first one differs
module _ (M : ℕ) (notes : List AcceptNote) (lost : List LetterId) (E : List Event) where
  pub no_first : (a : LetterId) → HasEntries M notes lost E → IsCompared M notes lost E (Differs a) → ⊥
  no_first a h d = elim d [
    | inl f ↦ f.holds ((h f.entry).0 (first_in (λ x. IsEntryOf M E x → ⊥) (trace_entries notes lost) a f))
    | inr r ↦ r.1.holds.1 ((h r.1.entry).1 r.1.holds.0)
  ]

  differs_one : (a b : LetterId) → IsCompared M notes lost E (Differs a) → IsCompared M notes lost E (Differs b) → a ≡ b
  differs_one a b (inl f) (inl g) = one_first (λ x. IsEntryOf M E x → ⊥) (trace_entries notes lost) a b f g
  differs_one a b (inl f) (inr g) = absurd (f.holds (g.0 f.entry (first_in (λ x. IsEntryOf M E x → ⊥) (trace_entries notes lost) a f)))
  differs_one a b (inr f) (inl g) = absurd (g.holds (f.0 g.entry (first_in (λ x. IsEntryOf M E x → ⊥) (trace_entries notes lost) b g)))
  differs_one a b (inr f) (inr g) = one_first (λ x. IsEntryOf M E x × (Contains (trace_entries notes lost) x → ⊥)) (all_entries E) a b f.1 g.1

pub one_comparison : (M : ℕ) (notes : List AcceptNote) (lost : List LetterId) (E : List Event) (a b : Compared) → IsCompared M notes lost E a → IsCompared M notes lost E b → a ≡ b
one_comparison M notes lost E Same Same h k = refl
one_comparison M notes lost E Same (Differs b) h k = absurd (no_first M notes lost E b h k)
one_comparison M notes lost E (Differs a) Same h k = absurd (no_first M notes lost E a k h)
one_comparison M notes lost E (Differs a) (Differs b) h k = ap Differs (differs_one M notes lost E a b h k)

same_differs : (a : LetterId) → Differs a ≡ Same → ⊥
same_differs a h = cc

-- the result is Same where the entries are the same
pub same_where : (M : ℕ) (notes : List AcceptNote) (lost : List LetterId) (E : List Event) (r : Compared) → IsCompared M notes lost E r → (r ≡ Same) ↔ HasEntries M notes lost E
same_where M notes lost E Same h = ((λ e. h), (λ k. refl))
same_where M notes lost E (Differs a) h = ((λ e. absurd (same_differs a e)), (λ k. absurd (no_first M notes lost E a k h)))
