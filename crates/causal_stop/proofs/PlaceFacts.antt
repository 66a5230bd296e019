-- The places of a list of events.
use Rattle.std.proofs.Common.{◌≡◌, ℕ, ◌+◌, ◌<◌, ◌≤◌, cond, List, [], ◌∷◌, ◌++◌, length, take, drop, get_or, Option, Some, None, refl, sym, ap, ◌∙◌, subst, inl, inr, arith, append_assoc, Bool, true}
use Rattle.std.specs.Prelude.{Contains, slice_get, position, IsSome, IfSome, not, ◌==◌, ◌↔◌}
use Rattle.std.specs.List.{position_or_len}
use Rattle.std.proofs.lemmas.Bool.{eqb-true, eq-eqb, and_from, and_parts, cases_lt, lt-ltb, le-ltb, false≢true}
use Rattle.std.proofs.lemmas.List.{take-append-drop, drop_more, take_more, length-take, get_or-take}
use Rattle.std.proofs.lemmas.List.Elements.{Contains-append_left}
use Rattle.std.proofs.lemmas.List.Filters.{length-filter_both}
use Rattle.std.proofs.lemmas.List.Sums.{fails_before_first, passes_at_first}
use Rattle.std.proofs.lemmas.Option.{slice_get_within, get_or_from_slice_get, slice_get_cases}
use Rattle.event_list.specs.declared.Event.{Event}
use Rattle.event_list.specs.Events.{is_of, count}
use Rattle.event_list.specs.Runs.{Sound}
use Rattle.event_list.specs.Stored.{is_numbered}
use Rattle.event_list.proofs.Members.{cons_here}
use Rattle.event_list.proofs.Splits.{contains_split, prefix, front, last}
use Rattle.event_list.proofs.Soundness.{numbers, same_place}
use Rattle.causal_stop.specs.Stops.{IsEntry, HasEntry}

-- of two entries of a process, the one that stands before has the lower number
pub rises : {M : ℕ} {E : List Event} → Sound M E → (xs ys : List Event) → E ≡ xs ++ ys → (a b : Event) → Contains xs a → Contains ys b → a.proc.no ≡ b.proc.no → a.number < b.number
rises {M = M} g xs ys e a b ha hb p =
    let s = contains_split ys b hb in
    let sound : Sound M ((xs ++ s.0) ++ b ∷ []) = prefix ((xs ++ s.0) ++ b ∷ []) s.1 (subst (Sound M) (e ∙ ap (λ zs. xs ++ zs) s.2 ∙ sym (append_assoc xs s.0 (b ∷ s.1)) ∙ sym (append_assoc (xs ++ s.0) (b ∷ []) s.1)) g) in
    let n = numbers (front (xs ++ s.0) b sound) a (Contains-append_left xs s.0 a ha) in
    omega (arith, n.1, (last (xs ++ s.0) b sound).next_number, ap (count (xs ++ s.0)) p)

-- the list before a place, the element there, and the rest
pub at_place : {X : Type 0} (xs : List X) (i : ℕ) (x : X) → slice_get xs i ≡ Some x → (xs ≡ take i xs ++ (x ∷ drop (i + 1) xs)) × (drop i xs ≡ x ∷ drop (i + 1) xs)
at_place xs i x h =
    let d : drop i xs ≡ x ∷ drop (i + 1) xs = drop_more xs i x (slice_get_within xs i x h) ∙ ap (λ y. y ∷ drop (i + 1) xs) (get_or_from_slice_get xs i x x h) in
    (sym (take-append-drop i xs) ∙ ap (λ ys. take i xs ++ ys) d, d)

-- an element at a place is in the list
pub in_place : {X : Type 0} (xs : List X) (i : ℕ) (x : X) → slice_get xs i ≡ Some x → Contains xs x
in_place xs i x h = (i, slice_get_within xs i x h, get_or_from_slice_get xs i x x h)

pub one_place : {X : Type 0} (xs : List X) (i : ℕ) (x y : X) → slice_get xs i ≡ Some x → slice_get xs i ≡ Some y → x ≡ y
one_place xs i x y h k = sym (get_or_from_slice_get xs i x x h) ∙ get_or_from_slice_get xs i y x k

pub taken_more : {X : Type 0} (xs : List X) (i : ℕ) (x : X) → slice_get xs i ≡ Some x → take (i + 1) xs ≡ take i xs ++ x ∷ []
taken_more xs i x h = take_more xs i x (slice_get_within xs i x h) ∙ ap (λ y. take i xs ++ y ∷ []) (get_or_from_slice_get xs i x x h)

pub at_drop : {X : Type 0} (xs : List X) (i : ℕ) (x : X) → slice_get xs i ≡ Some x → Contains (drop i xs) x
at_drop xs i x h = subst (λ ys. Contains ys x) (sym (at_place xs i x h).1) (cons_here x (drop (i + 1) xs))

-- an element at a lower place is in the front
pub before_place : {X : Type 0} (xs : List X) (i j : ℕ) (x : X) → i < j → slice_get xs i ≡ Some x → Contains (take j xs) x
before_place xs i j x l h =
    let n = slice_get_within xs i x h in
    (i, omega (arith, l, n, length-take j xs), get_or-take j xs i x l ∙ get_or_from_slice_get xs i x x h)

-- no process has more entries than there are
pub count_most : (E : List Event) (p : ℕ) → count E p ≤ length E
count_most E p = omega (arith, length-filter_both (is_of p) (λ e. not (is_of p e)) (λ x. refl) E)

-- a search for an entry finds it, if there is one
module _ (E : List Event) (p number : ℕ) where
  abbrev test : Event → Bool
  test = is_numbered p number

  passes : (a : Event) → IsEntry E p number a → test a ≡ true
  passes a h = and_from (a.proc.no == p) (a.number == number) (eq-eqb a.proc.no p h.of_p) (eq-eqb a.number number h.numbered)

  -- the first place of the entry
  record IsPlace (place : ℕ) : Type 0 where
    pub entry : Event
    pub is_at : slice_get E place ≡ Some entry
    pub is : IsEntry E p number entry

  here : (k : ℕ) → position_or_len test E ≡ k → k < length E → IsPlace k
  here k e l = elim (slice_get_cases E k).1 [
    | inl x ↦
        let t : test x.0 ≡ true = ap test (sym x.3 ∙ ap (λ j. get_or E j x.0) (sym e)) ∙ passes_at_first test E x.0 (omega (arith, e, l)) in
        let parts = and_parts (x.0.proc.no == p) (x.0.number == number) t in
        record { entry = x.0; is_at = x.2; is = record { in_list = (k, l, x.3); of_p = eqb-true x.0.proc.no p parts.0; numbered = eqb-true x.0.number number parts.1 } }
    | inr x ↦ absurd (omega (arith, x.0, l))
  ]

  nowhere : length E ≤ position_or_len test E → HasEntry E p number → ⊥
  nowhere l h = false≢true (sym (fails_before_first test E h.1.in_list.0 h.0 (omega (arith, l, h.1.in_list.1))) ∙ ap test h.1.in_list.2 ∙ passes h.0 h.1)

  pub place_some : (k : ℕ) → Some k ≡ position test E → (a : Event) × (slice_get E k ≡ Some a) × IsEntry E p number a
  place_some k h = elim (cases_lt (position_or_len test E) (length E)) [
    | inl l ↦
        let e : Some k ≡ Some (position_or_len test E) = h ∙ ap (λ b. cond b (Some (position_or_len test E)) None) (lt-ltb (position_or_len test E) (length E) l) in
        let r = here k (sym (some_same k (position_or_len test E) e)) (omega (arith, l, some_same k (position_or_len test E) e)) in
        (r.entry, r.is_at, r.is)
    | inr l ↦ absurd (some_none k (h ∙ ap (λ b. cond b (Some (position_or_len test E)) None) (le-ltb (position_or_len test E) (length E) l)))
  ]
    where
      some_same : (x y : ℕ) → Some x ≡ Some y → x ≡ y
      some_same x y h = cc

      some_none : (x : ℕ) → Some x ≡ None → ⊥
      some_none x h = cc

  pub place_none : None ≡ position test E → HasEntry E p number → ⊥
  place_none h a = elim (cases_lt (position_or_len test E) (length E)) [
    | inl l ↦ none_some (position_or_len test E) (h ∙ ap (λ b. cond b (Some (position_or_len test E)) None) (lt-ltb (position_or_len test E) (length E) l))
    | inr l ↦ nowhere l a
  ]
    where
      none_some : (x : ℕ) → None ≡ Some x → ⊥
      none_some x h = cc

-- the result of the search says whether the list has the entry
pub place_found : (E : List Event) (p number : ℕ) (o : Option ℕ) → o ≡ position (is_numbered p number) E → IsSome o ↔ HasEntry E p number
place_found E p number (Some k) h = ((λ t. let r = place_some E p number k h in (r.0, r.2)), (λ t. refl))
place_found E p number None h = ((λ t. absurd (false≢true t)), (λ t. absurd (place_none E p number h t)))

pub place_if : (E : List Event) (p number : ℕ) (o : Option ℕ) → o ≡ position (is_numbered p number) E → IfSome o (λ place. (a : Event) × (slice_get E place ≡ Some a) × IsEntry E p number a)
place_if E p number (Some k) h = place_some E p number k h
place_if E p number None h = tt

-- a number above the list's length is no entry's
pub too_many : {M : ℕ} {E : List Event} → Sound M E → (p number : ℕ) → length E < number → HasEntry E p number → ⊥
too_many {E = E} g p number l h = omega (arith, (numbers g h.0 h.1.in_list).1, count_most E h.0.proc.no, h.1.numbered, l)

-- an entry has one place
pub entry_same : {M : ℕ} {E : List Event} → Sound M E → (a b : Event) {p q k j : ℕ} → IsEntry E p k a → IsEntry E q j b → p ≡ q → k ≡ j → a ≡ b
entry_same g a b x y e n = same_place g a b x.in_list y.in_list (x.of_p ∙ e ∙ sym y.of_p) (x.numbered ∙ n ∙ sym y.numbered)
