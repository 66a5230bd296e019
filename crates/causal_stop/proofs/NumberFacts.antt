-- Parts of lists of numbers, and raised cuts.
use Rattle.std.proofs.Common.{◌≡◌, ℕ, zero, suc, ◌<◌, ◌≤◌, max, cond, length, get_or, get_or-set_same, get_or-set_other, set, replicate, refl, sym, ap, ◌∙◌, inl, inr, arith}
use Rattle.std.specs.Prelude.{◌==◌, ◌⊎◌}
use Rattle.std.proofs.lemmas.Bool.{cases_eq, cases_lt, eq-eqb, ne_eqb}
use Rattle.event_list.specs.Order.{Cut}
use Rattle.event_list.specs.Cuts.{raised}

pub no_number : (m q : ℕ) → get_or (let z : ℕ = 0 in replicate m z) q 0 ≡ 0
no_number zero q = refl
no_number (suc m) zero = refl
no_number (suc m) (suc q) = no_number m q

-- a list of zeros with one number put in
pub one_number : (m p number : ℕ) → p < m → (q : ℕ) → get_or (set (let z : ℕ = 0 in replicate m z) p number) q 0 ≡ cond (q == p) number 0
one_number m p number l q = elim (cases_eq q p) [
  | inl e ↦ ap (λ j. get_or (set (let z : ℕ = 0 in replicate m z) p number) j 0) e ∙ get_or-set_same (replicate m 0) p number 0 (omega (arith, l, long m)) ∙ sym (ap (λ b. cond b number 0) (eq-eqb q p e))
  | inr n ↦ get_or-set_other (replicate m 0) p q number 0 n ∙ no_number m q ∙ sym (ap (λ b. cond b number 0) (ne_eqb q p n))
]
  where
    long : (m : ℕ) → length (let z : ℕ = 0 in replicate m z) ≡ m
    long zero = refl
    long (suc m) = ap suc (long m)

-- a raised cut is the cut, but for one process it may be the number
pub raised_cases : (c : Cut) (p k q : ℕ) → (raised c p k q ≡ c q) ⊎ ((q ≡ p) × (raised c p k q ≡ k))
raised_cases c p k q = elim (cases_eq q p) [
  | inl e ↦
      let h : raised c p k q ≡ max (c q) k = ap (λ b. cond b (max (c q) k) (c q)) (eq-eqb q p e) in
      elim (cases_lt (c q) k) [ inl l ↦ inr (e, omega (arith, h, l)) | inr l ↦ inl (omega (arith, h, l)) ]
  | inr n ↦ inl (ap (λ b. cond b (max (c q) k) (c q)) (ne_eqb q p n))
]

pub raised_grows : (c : Cut) (p k q : ℕ) → c q ≤ raised c p k q
raised_grows c p k q = elim (cases_eq q p) [
  | inl e ↦ let h : raised c p k q ≡ max (c q) k = ap (λ b. cond b (max (c q) k) (c q)) (eq-eqb q p e) in omega (arith, h)
  | inr n ↦ let h : raised c p k q ≡ c q = ap (λ b. cond b (max (c q) k) (c q)) (ne_eqb q p n) in omega (arith, h)
]

pub raised_own : (c : Cut) (p k : ℕ) → k ≤ raised c p k p
raised_own c p k = let h : raised c p k p ≡ max (c p) k = ap (λ b. cond b (max (c p) k) (c p)) (eq-eqb p p refl) in omega (arith, h)
