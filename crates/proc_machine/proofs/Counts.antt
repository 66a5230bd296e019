-- How many values a format takes, counted from its front.
use Rattle.std.proofs.Common.{◌≡◌, ℕ, ◌+◌, ◌<◌, Bool, true, false, List, ◌∷◌, length, drop, get_or, Option, Some, None, refl, ap, ◌∙◌, arith}
use Rattle.std.specs.Prelude.{◌==◌}
use Rattle.c_tree.specs.Typing.{conversions_from, is_conversion}
use Rattle.proc_machine.proofs.Prints.{drop_one}

-- so many more
abbrev pub and_so_many : ℕ → Option ℕ → Option ℕ
and_so_many k None = None
and_so_many k (Some n) = Some (k + n)

abbrev one_more : Option ℕ → Option ℕ
one_more o = elim o [ None ↦ None | Some n ↦ Some (n + 1) ]

more_so_many : (k : ℕ) (o : Option ℕ) → and_so_many k (one_more o) ≡ and_so_many (k + 1) o
more_so_many k None = refl
more_so_many k (Some n) = let e : k + (n + 1) ≡ k + 1 + n = omega arith in ap Some e

module _ (bs : List ℕ) (b : ℕ) where
  pub before_sign : (b == 37) ≡ true → conversions_from false (b ∷ bs) ≡ conversions_from true bs
  before_sign e = ap (λ (t : Bool). elim t [ true ↦ conversions_from true bs | false ↦ conversions_from false bs ]) e

  pub no_sign : (b == 37) ≡ false → conversions_from false (b ∷ bs) ≡ conversions_from false bs
  no_sign e = ap (λ (t : Bool). elim t [ true ↦ conversions_from true bs | false ↦ conversions_from false bs ]) e

  abbrev by_test : Bool → Option ℕ
  by_test t = elim t [ true ↦ one_more (conversions_from false bs) | false ↦ None ]

  pub two_signs : (b == 37) ≡ true → conversions_from true (b ∷ bs) ≡ conversions_from false bs
  two_signs e = ap (λ (t : Bool). elim t [ true ↦ conversions_from false bs | false ↦ by_test (is_conversion b) ]) e

  pub one_conversion : (k : ℕ) → (b == 37) ≡ false → is_conversion b ≡ true → and_so_many k (conversions_from true (b ∷ bs)) ≡ and_so_many (k + 1) (conversions_from false bs)
  one_conversion k e h = ap (λ (t : Bool). and_so_many k (elim t [ true ↦ conversions_from false bs | false ↦ by_test (is_conversion b) ])) e ∙ ap (λ t. and_so_many k (by_test t)) h
      ∙ more_so_many k (conversions_from false bs)

  pub no_conversion : (b == 37) ≡ false → is_conversion b ≡ false → conversions_from true (b ∷ bs) ≡ None
  no_conversion e h = ap (λ (t : Bool). elim t [ true ↦ conversions_from false bs | false ↦ by_test (is_conversion b) ]) e ∙ ap by_test h

module _ (text : List ℕ) (i k : ℕ) (whole : Option ℕ) (lt : i < length text) where
  abbrev b : ℕ
  b = get_or text i 0

  abbrev bs : List ℕ
  bs = drop (i + 1) text

  begins : (a : Bool) → whole ≡ and_so_many k (conversions_from a (drop i text)) → whole ≡ and_so_many k (conversions_from a (b ∷ bs))
  begins a h = h ∙ ap (λ l. and_so_many k (conversions_from a l)) (drop_one text i lt)

  pub outside_sign : whole ≡ and_so_many k (conversions_from false (drop i text)) → whole ≡ and_so_many k (conversions_from (b == 37) bs)
  outside_sign h = begins false h ∙ by (b == 37) refl
    where
      by : (t : Bool) → (b == 37) ≡ t → and_so_many k (conversions_from false (b ∷ bs)) ≡ and_so_many k (conversions_from t bs)
      by true e = ap (and_so_many k) (before_sign bs b e)
      by false e = ap (and_so_many k) (no_sign bs b e)

  pub after_sign : b ≡ 37 → whole ≡ and_so_many k (conversions_from true (drop i text)) → whole ≡ and_so_many k (conversions_from false bs)
  after_sign e h = begins true h ∙ ap (and_so_many k) (two_signs bs b (ap (λ x. x == 37) e))

  pub is_one : (b == 37) ≡ false → is_conversion b ≡ true → whole ≡ and_so_many k (conversions_from true (drop i text)) → whole ≡ and_so_many (k + 1) (conversions_from false bs)
  is_one e c h = begins true h ∙ one_conversion bs b k e c

  pub is_none : (b == 37) ≡ false → is_conversion b ≡ false → whole ≡ and_so_many k (conversions_from true (drop i text)) → whole ≡ None
  is_none e c h = begins true h ∙ ap (and_so_many k) (no_conversion bs b e c)
