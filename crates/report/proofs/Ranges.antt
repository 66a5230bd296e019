-- The texts of the numbers from 0 on, one after the other.
use Rattle.std.proofs.Common.{◌≡◌, ℕ, zero, suc, ◌+◌, ◌<◌, List, [], ◌∷◌, ◌++◌, Option, Result, Ok, Err, sym, ap, ◌∙◌, subst, inl, inr, arith, append_assoc, append-nil, add-one}
use Rattle.std.specs.Prelude.{⊤, ◌⊎◌}
use Rattle.std.specs.Result.{IsErr}
use Rattle.std.specs.List.{flat_map, range_with_len}
use Rattle.nm_outside.specs.declared.cabinet.Failed.{Failed}
use Rattle.report.specs.Printing.{Prints}
use Rattle.report.proofs.Pieces.{prints_more, still_failed, failed_on}
use Rattle.report.proofs.Each.{flat_append}

range_more : (a n : ℕ) → range_with_len a (suc n) ≡ range_with_len a n ++ (a + n) ∷ []
range_more a zero = let none : a ≡ a + 0 = omega arith in ap (λ k. k ∷ []) none
range_more a (suc n) = let next : (a + 1) + n ≡ a + suc n = omega arith in ap (λ (l : List ℕ). a ∷ l) (range_more (a + 1) n ∙ ap (λ k. range_with_len (a + 1) n ++ k ∷ []) next)

pub blocks_more : (f : ℕ → List ℕ) (n : ℕ) → flat_map f (range_with_len 0 (suc n)) ≡ flat_map f (range_with_len 0 n) ++ f n
blocks_more f n =
    let none : 0 + n ≡ n = omega arith in
    ap (flat_map f) (range_more 0 n ∙ ap (λ k. range_with_len 0 n ++ k ∷ []) none) ∙ flat_append f (range_with_len 0 n) (n ∷ [])
    ∙ ap (λ (zs : List ℕ). flat_map f (range_with_len 0 n) ++ zs) (append-nil (f n))

-- the blocks up to one of them, and those behind it
pub blocks_behind : (f : ℕ → List ℕ) (i n : ℕ) → i < n → (rest : List ℕ) × (flat_map f (range_with_len 0 n) ≡ (flat_map f (range_with_len 0 i) ++ f i) ++ rest)
blocks_behind f i zero l = absurd (omega (arith, l))
blocks_behind f i (suc n) l = elim (lt_or_same i n l) [
  | inl k ↦
      let r = blocks_behind f i n k in
      (r.0 ++ f n, blocks_more f n ∙ ap (λ (zs : List ℕ). zs ++ f n) r.1 ∙ append_assoc (flat_map f (range_with_len 0 i) ++ f i) r.0 (f n))
  | inr e ↦ ([], blocks_more f n ∙ ap (λ k. flat_map f (range_with_len 0 k) ++ f k) (sym e) ∙ sym (append-nil (flat_map f (range_with_len 0 i) ++ f i)))
]
  where
    lt_or_same : (a b : ℕ) → a < suc b → (a < b) ⊎ (a ≡ b)
    lt_or_same a b l = grind arith

module _ (a b c : Option (List ℕ)) (f g h : ℕ) (block_at : ℕ → List ℕ) (i : ℕ) (before : Prints a b f g (flat_map block_at (range_with_len 0 i)) (Ok tt)) where
  pub one_more : (r : Result ⊤ Failed) → r ≡ Ok tt → Prints b c g h (block_at i) r → Prints a c f h (flat_map block_at (range_with_len 0 (i + 1))) (Ok tt)
  one_more r is one =
      let more = prints_more a b c f g h (flat_map block_at (range_with_len 0 i)) (block_at i) (Ok tt) before (subst (Prints b c g h (block_at i)) is one) in
      subst (λ t. Prints a c f h t (Ok tt)) (sym (ap (λ k. flat_map block_at (range_with_len 0 k)) (add-one i) ∙ blocks_more block_at i)) more

  pub one_failed : (n : ℕ) → i < n → (r s : Result ⊤ Failed) (e : Failed) → r ≡ Err e → IsErr s → Prints b c g h (block_at i) r → Prints a c f h (flat_map block_at (range_with_len 0 n)) s
  one_failed n l r s e is fails one =
      let rest = blocks_behind block_at i n l in
      let more = prints_more a b c f g h (flat_map block_at (range_with_len 0 i)) (block_at i) r before one in
      subst (λ t. Prints a c f h t s) (sym rest.1) (still_failed a c f h (flat_map block_at (range_with_len 0 i) ++ block_at i) rest.0 s fails (failed_on a c f h _ r s e is fails more))

-- the blocks up to a number that is all of them
pub blocks_to : (a b : Option (List ℕ)) (f g : ℕ) (block_at : ℕ → List ℕ) (i n : ℕ) → i ≡ n → Prints a b f g (flat_map block_at (range_with_len 0 i)) (Ok tt)
    → Prints a b f g (flat_map block_at (range_with_len 0 n)) (Ok tt)
blocks_to a b f g block_at i n e h = subst (λ k. Prints a b f g (flat_map block_at (range_with_len 0 k)) (Ok tt)) e h
