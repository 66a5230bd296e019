-- The least cut that meets a condition on each process alone.
use Rattle.std.proofs.Common.{◌≡◌, ℕ, ◌+◌, ◌≤◌, Bool, true, false, max, List, sym, ap, ◌∙◌, subst, inl, inr, arith}
use Rattle.std.specs.Prelude.{Contains, ◌==◌}
use Rattle.std.proofs.lemmas.Bool.{cases_eq, cases_lt, eq-eqb, ne_eqb, cond-true, cond-false, false≢true}
use Rattle.event_list.specs.declared.Event.{Event}
use Rattle.event_list.specs.Order.{Delivers, Cut, Within, IsConsistent}
use Rattle.event_list.specs.Cuts.{IsLeastCut, meet, MeetsEach, IsWithinAll, raised}

-- the lesser of two cuts meets it where both do
pub meet_meets : (test : ℕ → ℕ → Bool) (c d : Cut) → MeetsEach test c → MeetsEach test d → MeetsEach test (meet c d)
meet_meets test c d h k p = elim (cases_lt (c p) (d p)) [
  | inl l ↦ subst (λ k. test p k ≡ true) (omega (arith, l)) (h p)
  | inr l ↦ subst (λ k. test p k ≡ true) (omega (arith, l)) (k p)
]

module _ (E : List Event) (test : ℕ → ℕ → Bool) (c : Cut) (low : IsWithinAll E test c) where
  -- what each such cut has so many events of may be raised to them
  raise : (p k : ℕ) → ((d : Cut) → IsConsistent E d → MeetsEach test d → k ≤ d p) → IsWithinAll E test (raised c p k)
  raise p k more d is meets q = elim (cases_eq q p) [
    | inl e ↦ omega (arith, cond-true (q == p) (max (c q) k) (c q) (eq-eqb q p e), low d is meets q, more d is meets, ap d e)
    | inr n ↦ omega (arith, cond-false (q == p) (max (c q) k) (c q) (ne_eqb q p n), low d is meets q)
  ]

  -- a process that fails its condition is moved on
  pub raise_failing : (p : ℕ) → test p (c p) ≡ false → IsWithinAll E test (raised c p (c p + 1))
  raise_failing p fails = raise p (c p + 1) (λ d is meets. elim (cases_eq (c p) (d p)) [
    | inl e ↦ absurd (false≢true (sym fails ∙ ap (test p) e ∙ meets p))
    | inr n ↦ omega (arith, low d is meets p, n)
  ])

  -- a receive that is held brings its letter's send
  pub raise_sender : (a b : Event) → Contains E a → Contains E b → Delivers a b → Within c b → IsWithinAll E test (raised c a.proc.no a.number)
  raise_sender a b ha hb sends held = raise a.proc.no a.number (λ d is meets. is.closed a b ha hb sends (omega (arith, held, low d is meets b.proc.no)))

  -- where nothing is left to raise it is the least
  pub least_reached : IsConsistent E c → MeetsEach test c → IsLeastCut E (MeetsEach test) c
  least_reached is meets = record { consistent = is; meets = meets; least = low }
