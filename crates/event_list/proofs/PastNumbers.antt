-- The parts of a timestamp are numbers of entries.
use Rattle.std.proofs.Common.{◌≡◌, ℕ, ◌+◌, min, cond, List, [], ◌∷◌, ◌++◌, length, ap, ◌∙◌, inl, inr, arith, length-append}
use Rattle.std.specs.Prelude.{filter, nat_le}
use Rattle.std.proofs.lemmas.Bool.{cases_eq, cases_lt, leb-true, le-leb, lt-leb, eqb-true}
use Rattle.std.proofs.lemmas.List.Elements.{filter-append}
use Rattle.nm_base.specs.Fitting.{none, more}
use Rattle.event_list.specs.declared.Event.{Event}
use Rattle.event_list.specs.Events.{is_of, entries, count}
use Rattle.event_list.specs.Order.{IsPast}
use Rattle.event_list.specs.Clocks.{IsCounts}
use Rattle.event_list.specs.Runs.{Sound}
use Rattle.event_list.specs.Traces.{Keeps}
use Rattle.event_list.proofs.Members.{in_filter}
use Rattle.event_list.proofs.Entries.{entries_here, entries_there, count_here}
use Rattle.event_list.proofs.WitnessFacts.{keeps_filter, keeps_one}

-- as many of q's entries are numbered up to k as there are, at most k
first_many : {M : ℕ} {E : List Event} → Sound M E → (q k : ℕ) → length (filter (λ x. nat_le x.number k) (entries E q)) ≡ min k (count E q)
first_many none q k = omega arith
first_many (more {xs = E} {x = e} g f) q k = elim (cases_eq e.proc.no q) [
  | inr there ↦ rw (entries_there E e q there) (first_many g q k)
  | inl here ↦
      let grown : length (filter (λ x. nat_le x.number k) (entries (E ++ e ∷ []) q)) ≡ length (filter (λ x. nat_le x.number k) (entries E q)) + length (cond (nat_le e.number k) (e ∷ []) []) =
      ap (λ xs. length (filter (λ x. nat_le x.number k) xs)) (entries_here E e q here) ∙ ap length (filter-append (λ x. nat_le x.number k) (entries E q) (e ∷ []))
      ∙ length-append (filter (λ x. nat_le x.number k) (entries E q)) (cond (nat_le e.number k) (e ∷ []) []) in
      let n : e.number ≡ count E q + 1 = f.next_number ∙ ap (λ p. count E p + 1) here in
      elim (cases_lt k e.number) [
        | inl l ↦ omega (arith, grown, first_many g q k, n, l, count_here E e q here, ap (λ b. length (cond b (e ∷ []) [])) (lt-leb e.number k l))
        | inr l ↦ omega (arith, grown, first_many g q k, n, l, count_here E e q here, ap (λ b. length (cond b (e ∷ []) [])) (le-leb e.number k l))
      ]
]

-- part q of what counts the past is the number of q's entries in it
pub past_number : (M : ℕ) (E : List Event) (a : Event) (v : ℕ → ℕ) (q : ℕ) (past : List Event) → Sound M E → IsCounts E a v → Keeps (IsPast E a) (entries E q) past → length past ≡ v q
past_number M E a v q past g c k =
    let same = keeps_one k (keeps_filter (IsPast E a) (λ x. nat_le x.number (v q)) (entries E q) (λ x h.
    let i = in_filter (is_of q) E x h in
    let at : v x.proc.no ≡ v q = ap v (eqb-true x.proc.no q i.1) in (
      (λ t. (i.0, (c.tells x i.0).0 (omega (arith, leb-true x.number (v q) t, at)))),
      (λ w. le-leb x.number (v q) (omega (arith, (c.tells x i.0).1 w.1, at))),
    ))) in
    omega (arith, ap length same, first_many g q (v q), c.at_most q)
