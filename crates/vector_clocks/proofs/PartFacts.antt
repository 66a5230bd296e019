-- Parts of clocks after a tick and after a merge.
use Rattle.std.proofs.Common.{◌≡◌, ℕ, zero, suc, ◌+◌, ◌<◌, cond, List, [], length, get_or, get_or-set_same, get_or-set_other, set, replicate, refl, sym, ap, ◌∙◌, inl, inr}
use Rattle.std.specs.Prelude.{◌==◌, ◌&&◌}
use Rattle.std.proofs.lemmas.Bool.{cases_eq, eq-eqb, ne_eqb}
use Rattle.nm_base.specs.declared.letter.Stamp.{Stamp}
use Rattle.vector_clocks.specs.Parts.{part, no_stamp, part_of, ticked_part}

abbrev none_at : List ℕ
none_at = []

no_none : (q : ℕ) → get_or none_at q 0 ≡ 0
no_none q = refl

no_number : (m q : ℕ) → get_or (let z : ℕ = 0 in replicate m z) q 0 ≡ 0
no_number zero q = no_none q
no_number (suc m) zero = refl
no_number (suc m) (suc q) = no_number m q

pub all_zero : (n m p q : ℕ) → part_of (replicate n (record { parts = replicate m 0 })) p q ≡ 0
all_zero zero m p q = refl
all_zero (suc n) m zero q = no_number m q
all_zero (suc n) m (suc p) q = all_zero n m p q

-- one part of a list of numbers counts one more
pub counted_at : (ns : List ℕ) (p : ℕ) → p < length ns → (q : ℕ) → get_or (set ns p (get_or ns p 0 + 1)) q 0 ≡ cond (q == p) (get_or ns q 0 + 1) (get_or ns q 0)
counted_at ns p l q = elim (cases_eq q p) [
  | inl e ↦ ap (λ j. get_or (set ns p (get_or ns p 0 + 1)) j 0) e ∙ get_or-set_same ns p (get_or ns p 0 + 1) 0 l
      ∙ sym (ap (λ b. cond b (get_or ns q 0 + 1) (get_or ns q 0)) (eq-eqb q p e) ∙ ap (λ j. get_or ns j 0 + 1) e)
  | inr e ↦ get_or-set_other ns p q (get_or ns p 0 + 1) 0 e ∙ sym (ap (λ b. cond b (get_or ns q 0 + 1) (get_or ns q 0)) (ne_eqb q p e))
]

-- one clock counts one more in its own part
pub tick_at : (ss : List Stamp) (p : ℕ) (new : Stamp) → p < length ss → ((q : ℕ) → part new q ≡ cond (q == p) (part (get_or ss p no_stamp) q + 1) (part (get_or ss p no_stamp) q)) → (r q : ℕ) → part_of (set ss p new) r q ≡ ticked_part (part_of ss) p r q
tick_at ss p new l h r q = elim (cases_eq r p) [
  | inl e ↦
      ap (λ j. part (get_or (set ss p new) j no_stamp) q) e ∙ ap (λ s. part s q) (get_or-set_same ss p new no_stamp l) ∙ h q
      ∙ sym (ap (λ b. cond (b && (q == p)) (part_of ss r q + 1) (part_of ss r q)) (eq-eqb r p e) ∙ ap (λ j. cond (q == p) (part_of ss j q + 1) (part_of ss j q)) e)
  | inr e ↦ ap (λ s. part s q) (get_or-set_other ss p r new no_stamp e) ∙ sym (ap (λ b. cond (b && (q == p)) (part_of ss r q + 1) (part_of ss r q)) (ne_eqb r p e))
]
