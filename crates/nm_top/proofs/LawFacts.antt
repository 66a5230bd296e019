-- What the definitions mean.
use Rattle.std.proofs.Common.{◌≡◌, ℕ, ◌≤◌, Bool, true, false, List, [], ◌∷◌, ◌++◌, length, take, drop, refl, ap, ◌∙◌, subst, inl, inr, arith}
use Rattle.std.specs.Prelude.{◌==◌, ◌⊎◌, ◌&&◌, ◌||◌, nat_lt, not}
use Rattle.std.specs.List.{flat_map, list_any}
use Rattle.std.proofs.lemmas.Bool.{eqb-true, lt-ltb, le-ltb}
use Rattle.std.proofs.Math.Bool.{and-false}
use Rattle.std.proofs.lemmas.List.{take-append-drop}
use Rattle.nm_top.specs.declared.talk.TheConstants.{MAX_INPUT_BYTES}
use Rattle.nm_top.specs.declared.talk.End.TheVariants as ends
use Rattle.nm_top.specs.Debugging.{Split, split, with_newline, has_newline, quits, read_of, passes_limit, EndsAfter}
use Rattle.nm_top.proofs.SplitFacts.{parts_of, before_by}
use Rattle.nm_top.proofs.QuitFacts.{quits_more, or_false}

-- ---- bytes and their lines

abbrev joined : Split → List ℕ
joined parts = flat_map with_newline parts.ended ++ parts.begun

joined_by : (t : Bool) (b : ℕ) (ended : List (List ℕ)) (begun bytes : List ℕ) → (b == 10) ≡ t → bytes ≡ flat_map with_newline ended ++ begun
    → b ∷ bytes ≡ joined (before_by t b (parts_of ended begun))
joined_by true b ended begun bytes e is = ap (λ c. c ∷ bytes) (eqb-true b 10 e) ∙ ap (λ xs. 10 ∷ xs) is
joined_by false b [] begun bytes e is = ap (λ xs. b ∷ xs) is
joined_by false b (line ∷ lines) begun bytes e is = ap (λ xs. b ∷ xs) is

pub joined_is : (bytes : List ℕ) → bytes ≡ joined (split bytes)
joined_is [] = refl
joined_is (b ∷ bytes) = joined_by (b == 10) b (split bytes).ended (split bytes).begun bytes refl (joined_is bytes)

abbrev IsClean : Split → Type 0
IsClean parts = (list_any has_newline parts.ended ≡ false) × (has_newline parts.begun ≡ false)

both_false : (a b : Bool) → a ≡ false → b ≡ false → (a || b) ≡ false
both_false true b e f = e
both_false false b e f = f

clean_by : (t : Bool) (b : ℕ) (ended : List (List ℕ)) (begun : List ℕ) → (b == 10) ≡ t → IsClean (parts_of ended begun)
    → IsClean (before_by t b (parts_of ended begun))
clean_by true b ended begun e h = (h.0, h.1)
clean_by false b [] begun e h = (refl, both_false (b == 10) (has_newline begun) e h.1)
clean_by false b (line ∷ lines) begun e h =
    let k = or_false (has_newline line) (list_any has_newline lines) h.0 in
    (both_false ((b == 10) || has_newline line) (list_any has_newline lines) (both_false (b == 10) (has_newline line) e k.0) k.1, h.1)

pub is_clean : (bytes : List ℕ) → IsClean (split bytes)
is_clean [] = (refl, refl)
is_clean (b ∷ bytes) = clean_by (b == 10) b (split bytes).ended (split bytes).begun refl (is_clean bytes)

-- ---- ends

-- a session is over only within the limit
pub over_law : (n : ℕ) (input : List ℕ) (k : ℕ) (lines : List (List ℕ)) → EndsAfter n input k lines ends.Over → passes_limit n input ≡ false
over_law n input k lines h = by h.1
  where
    by : (quits n (take k (read_of input)) ≡ true) ⊎ ((k ≡ length input) × (k ≤ MAX_INPUT_BYTES)) → passes_limit n input ≡ false
    by (inl q) =
        let all = subst (λ xs. quits n xs ≡ true) (take-append-drop k (read_of input)) (quits_more n (take k (read_of input)) (drop k (read_of input)) q) in
        ap (λ b. nat_lt MAX_INPUT_BYTES (length input) && not b) all ∙ and-false (nat_lt MAX_INPUT_BYTES (length input))
    by (inr q) = ap (λ b. b && not (quits n (read_of input))) (le-ltb MAX_INPUT_BYTES (length input) (omega (arith, q.0, q.1)))

-- and an input is full only past it
pub full_law : (n : ℕ) (input : List ℕ) (k : ℕ) (lines : List (List ℕ)) → k ≤ length input → EndsAfter n input k lines ends.InputFull
    → passes_limit n input ≡ true
full_law n input k lines within h =
    ap (λ b. b && not (quits n (read_of input))) (lt-ltb MAX_INPUT_BYTES (length input) (omega (arith, within, h.2))) ∙ ap not h.1
