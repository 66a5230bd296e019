-- Whether each process has its recorded count.
use Rattle.std.proofs.Common.{◌≡◌, ℕ, zero, suc, ◌+◌, ◌<◌, ◌≤◌, Bool, true, false, List, refl, sym, ap, ◌∙◌, inl, inr, arith}
use Rattle.std.specs.Prelude.{nat_le, ◌&&◌}
use Rattle.std.proofs.lemmas.Bool.{cases_eq}
use Rattle.event_list.specs.declared.Event.{Event}
use Rattle.event_list.specs.Events.{count}
use Rattle.event_list.specs.Traces.{Trace}
use Rattle.event_list.specs.Turns.{all_below, all_reached}

-- the processes below n have their recorded counts
pub record AreReached (T : Trace) (R : List Event) (n : ℕ) : Type 0 where
  pub each : (q : ℕ) → q < n → nat_le (T.counts q) (count R q) ≡ true

both : (a b : Bool) → a ≡ true → b ≡ true → (a && b) ≡ true
both a b f g = (λ i. f i && b) ∙ g

left : (a b : Bool) → a ≡ false → (a && b) ≡ false
left a b f = λ i. f i && b

right : (a b : Bool) → b ≡ false → (a && b) ≡ false
right true b f = f
right false b f = refl

all_from : (n : ℕ) (test : ℕ → Bool) → ((q : ℕ) → q < n → test q ≡ true) → all_below n test ≡ true
all_from zero test h = refl
all_from (suc n) test h =
    both (test n) (all_below n test) (h n (omega arith)) (all_from n test (λ q l. h q (omega (arith, l))))

one_lacks : (n : ℕ) (test : ℕ → Bool) (q : ℕ) → q < n → test q ≡ false → all_below n test ≡ false
one_lacks zero test q l f = absurd (omega (arith, l))
one_lacks (suc n) test q l f = elim (cases_eq q n) [
  | inl z ↦ left (test n) (all_below n test) (ap test (sym z) ∙ f)
  | inr z ↦ right (test n) (all_below n test) (one_lacks n test q (omega (arith, l, z)) f)
]

module _ (T : Trace) (R : List Event) where
  pub none_reached : AreReached T R 0
  none_reached = record { each = λ q l. absurd (omega (arith, l)) }

  pub more_reached : (n : ℕ) (b : Bool) → b ≡ nat_le (T.counts n) (count R n) → b ≡ true → AreReached T R n
      → AreReached T R (n + 1)
  more_reached n b is holds h = record {
    each = λ q l. elim (cases_eq q n) [
      | inl z ↦ ap (λ k. nat_le (T.counts k) (count R k)) z ∙ sym is ∙ holds
      | inr z ↦ h.each q (omega (arith, l, z))
    ];
  }

  pub is_reached : (n : ℕ) → T.n ≤ n → AreReached T R n → true ≡ all_reached T R
  is_reached n l h = sym (all_from T.n (λ q. nat_le (T.counts q) (count R q)) (λ q k. h.each q (omega (arith, l, k))))

  pub is_lacking : (n : ℕ) (b : Bool) → n < T.n → b ≡ nat_le (T.counts n) (count R n) → b ≡ false
      → false ≡ all_reached T R
  is_lacking n b l is lacks =
      sym (one_lacks T.n (λ q. nat_le (T.counts q) (count R q)) n l (sym is ∙ lacks))
