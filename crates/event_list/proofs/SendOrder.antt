-- The letters of one sender are listed by their numbers.
use Rattle.std.proofs.Common.{◌≡◌, ℕ, ◌<◌, Bool, true, false, cond, List, [], ◌∷◌, ◌++◌, Option, Some, None, refl, sym, ap, ◌∙◌, subst, inl, inr, arith, append_assoc}
use Rattle.std.specs.Prelude.{filter, not, Contains, ◌↔◌, ◌⊎◌}
use Rattle.std.specs.List.{cons_option}
use Rattle.std.proofs.lemmas.Bool.{not-true, not_from_false, false_from_ne_true, false≢true}
use Rattle.std.proofs.lemmas.List.{append-nil}
use Rattle.std.proofs.lemmas.List.Elements.{filter-append, Contains-append_left, Contains-append_right, Contains-append_cases}
use Rattle.nm_base.specs.Fitting.{EachFits, none, more}
use Rattle.nm_base.specs.Message.{Message}
use Rattle.event_list.specs.declared.Event.{Event}
use Rattle.event_list.specs.Events.{letters, letter_of}
use Rattle.event_list.specs.Runs.{Sound}
use Rattle.event_list.specs.Traces.{is_taken, waiting}
use Rattle.event_list.specs.Turns.{precedes, is_first, IsRival}
use Rattle.event_list.proofs.Members.{cons_here, cons_cases, in_filter, any_in, in_any, in_filter_map}
use Rattle.event_list.proofs.Entries.{letters_grow}
use Rattle.event_list.proofs.Splits.{contains_split, prefix, last}
use Rattle.event_list.proofs.Soundness.{send_number_new}
use Rattle.event_list.proofs.TurnFacts.{precedes_from, precedes_is}

-- each letter has a higher number than those of its sender before it
abbrev pub InOrder : List Message → Message → Type 0
InOrder ls m = (l : Message) → Contains ls l → l.id.sender.no ≡ m.id.sender.no → l.id.number < m.id.number

pub letters_in_order : {M : ℕ} {E : List Event} → Sound M E → EachFits InOrder (letters E)
letters_in_order none = none
letters_in_order (more {xs = E} {x = e} g f) = subst (EachFits InOrder) (sym (letters_grow E e)) (by (letter_of e) refl (letters_in_order g))
  where
    by : (o : Option Message) → letter_of e ≡ o → EachFits InOrder (letters E) → EachFits InOrder (letters E ++ cons_option o [])
    by None h k = subst (EachFits InOrder) (sym (append-nil (letters E))) k
    by (Some m) h k = more k (λ l c p. let a = in_filter_map letter_of E l c in
        send_number_new g f a.0 l m record { in_list = a.1; letter = a.2 } h p)

-- a filter keeps the order
pub filter_in_order : (test : Message → Bool) {ls : List Message} → EachFits InOrder ls → EachFits InOrder (filter test ls)
filter_in_order test none = none
filter_in_order test (more {xs = ls} {x = m} g f) = subst (EachFits InOrder) (sym (filter-append test ls (m ∷ []))) (by (test m) (filter_in_order test g))
  where
    by : (b : Bool) → EachFits InOrder (filter test ls) → EachFits InOrder (filter test ls ++ cond b (m ∷ []) [])
    by true k = more k (λ l c p. f l (in_filter test ls l c).0 p)
    by false k = subst (EachFits InOrder) (sym (append-nil (filter test ls))) k

pub order_at : {ls : List Message} → EachFits InOrder ls → (xs : List Message) (m : Message) (ys : List Message) → ls ≡ xs ++ (m ∷ ys) → InOrder xs m
order_at g xs m ys e l c p = last_order (prefix (xs ++ m ∷ []) ys (subst (EachFits InOrder) (e ∙ sym (append_assoc xs (m ∷ []) ys)) g)) l c p
  where
    last_order : EachFits InOrder (xs ++ m ∷ []) → InOrder xs m
    last_order h = last xs m h

-- the waiting letters are in order
pub waiting_in_order : {M : ℕ} {E : List Event} → Sound M E → EachFits InOrder (waiting E)
waiting_in_order {E = E} g = filter_in_order (λ m. not (is_taken E m.id)) (letters_in_order g)

-- a waiting letter is first exactly where no rival waits before it
pub first_by_place : {M : ℕ} {E : List Event} → Sound M E → (xs : List Message) (m : Message) (ys : List Message) → waiting E ≡ xs ++ (m ∷ ys) → (is_first E m ≡ true) ↔ ((l : Message) → Contains xs l → IsRival l m → ⊥)
first_by_place {E = E} g xs m ys e = (
  (λ h l c r.
      let n = order_at ordered xs m ys e l c r.sender in
      false≢true (sym (not-true _ h) ∙ in_any (λ l. precedes l m) (waiting E) l (subst (λ ls. Contains ls l) (sym e) (Contains-append_left xs (m ∷ ys) l c)) (precedes_from l m record { sender = r.sender; earlier = n; dest = r.dest; chan = r.chan }))),
  (λ h. not_from_false _ (false_from_ne_true _ (λ t.
      let a = any_in (λ l. precedes l m) (waiting E) t in
      let k = precedes_is a.0 m a.2 in
      elim (Contains-append_cases xs (m ∷ ys) a.0 (subst (λ ls. Contains ls a.0) e a.1)) [
        | inl c ↦ h a.0 c record { sender = k.sender; dest = k.dest; chan = k.chan }
        | inr c ↦ elim (cons_cases m ys a.0 c) [
          | inl q ↦ omega (arith, k.earlier, ap (λ z. z.id.number) q)
          | inr c ↦ let n = after a.0 c (sym k.sender) in omega (arith, n, k.earlier)
        ]
      ]))),
)
  where
    ordered : EachFits InOrder (waiting E)
    ordered = waiting_in_order g

    after : (l : Message) → Contains ys l → m.id.sender.no ≡ l.id.sender.no → m.id.number < l.id.number
    after l c p =
        let s = contains_split ys l c in
        let q : waiting E ≡ (xs ++ (m ∷ s.0)) ++ (l ∷ s.1) = e ∙ ap (λ zs. xs ++ (m ∷ zs)) s.2 ∙ sym (append_assoc xs (m ∷ s.0) (l ∷ s.1)) in
        order_at ordered (xs ++ (m ∷ s.0)) l s.1 q m (Contains-append_right xs (m ∷ s.0) m (cons_here m s.0)) p

-- among the waiting letters a name stands once
pub one_named : {M : ℕ} {E : List Event} → Sound M E → (xs : List Message) (m : Message) (ys : List Message) → waiting E ≡ xs ++ (m ∷ ys) → (l : Message) → Contains xs l ⊎ Contains ys l → l.id.sender.no ≡ m.id.sender.no → l.id.number ≡ m.id.number → ⊥
one_named {E = E} g xs m ys e l c p n = elim c [
  | inl c ↦ let k = order_at ordered xs m ys e l c p in omega (arith, k, n)
  | inr c ↦
      let s = contains_split ys l c in
      let q : waiting E ≡ (xs ++ (m ∷ s.0)) ++ (l ∷ s.1) = e ∙ ap (λ zs. xs ++ (m ∷ zs)) s.2 ∙ sym (append_assoc xs (m ∷ s.0) (l ∷ s.1)) in
      let k = order_at ordered (xs ++ (m ∷ s.0)) l s.1 q m (Contains-append_right xs (m ∷ s.0) m (cons_here m s.0)) (sym p) in
      omega (arith, k, n)
]
  where
    ordered : EachFits InOrder (waiting E)
    ordered = waiting_in_order g
