-- The operands above and below a base, when the vector that holds them grows and shrinks at its end.
use Rattle.std.proofs.Common.{◌≡◌, ℕ, zero, suc, ◌+◌, ◌-◌, ◌*◌, ◌<◌, ◌≤◌, List, [], ◌∷◌, ◌++◌, length, take, drop, reverse, replicate, min, refl, sym, ap, ◌∙◌, arith, length-append, mul-le-mul_right}
use Rattle.std.specs.Prelude.{slice_index, slice_set}
use Rattle.c_tree.specs.Storage.{zeroed}
use Rattle.std.proofs.Math.Nat.{suc-mul}
use Rattle.std.proofs.lemmas.List.{reverse-append, reverse-reverse, length-reverse, take-append-drop, length-drop}
use Rattle.proc_machine.specs.declared.callers.Caller.{Caller}
use Rattle.proc_machine.specs.private.Stacked.{OperandStack, Fits}
use Rattle.proc_machine.specs.Divided.{upper, lower}

abbrev pub stack_at : List ℕ → ℕ → ℕ → OperandStack
stack_at r base limit = record { own = upper base r; outer = lower base r; limit = limit }

pub drop_front : (a b : List ℕ) (n : ℕ) → length a ≡ n → drop n (a ++ b) ≡ b
drop_front [] b zero e = refl
drop_front [] b (suc n) e = absurd (omega (arith, e))
drop_front (x ∷ a) b zero e = absurd (omega (arith, e))
drop_front (x ∷ a) b (suc n) e = drop_front a b n (omega (arith, e))

pub take_front : (a b : List ℕ) (n : ℕ) → length a ≡ n → take n (a ++ b) ≡ a
take_front [] b zero e = refl
take_front [] b (suc n) e = absurd (omega (arith, e))
take_front (x ∷ a) b zero e = absurd (omega (arith, e))
take_front (x ∷ a) b (suc n) e = ap (λ l. x ∷ l) (take_front a b n (omega (arith, e)))

pub drop_more : (m n : ℕ) (l : List ℕ) → drop m (drop n l) ≡ drop (n + m) l
drop_more m zero l = let e : 0 + m ≡ m = omega arith in ap (λ k. drop k l) (sym e)
drop_more zero (suc n) [] = let e : suc n + 0 ≡ suc n = omega arith in ap (λ k. drop k []) (sym e)
drop_more (suc m) (suc n) [] = let e : suc n + suc m ≡ suc (n + suc m) = omega arith in ap (λ k. drop k []) (sym e)
drop_more m (suc n) (x ∷ l) = let e : suc n + m ≡ suc (n + m) = omega arith in drop_more m n l ∙ ap (λ k. drop k (x ∷ l)) (sym e)

take_later : (m n : ℕ) (l : List ℕ) → take m (drop n l) ≡ drop n (take (n + m) l)
take_later m zero l = let e : 0 + m ≡ m = omega arith in ap (λ k. take k l) (sym e)
take_later zero (suc n) [] = let e : suc n + 0 ≡ suc n = omega arith in ap (λ k. drop (suc n) (take k [])) (sym e)
take_later (suc m) (suc n) [] = let e : suc n + suc m ≡ suc (n + suc m) = omega arith in ap (λ k. drop (suc n) (take k [])) (sym e)
take_later m (suc n) (x ∷ l) = let e : suc n + m ≡ suc (n + m) = omega arith in take_later m n l ∙ ap (λ k. drop (suc n) (take k (x ∷ l))) (sym e)

-- the end of a list that is cut off, and what is left, the last one first
module _ (xs : List ℕ) (n : ℕ) (h : n ≤ length xs) where
  abbrev k : ℕ
  k = length xs - n

  halves : reverse xs ≡ reverse (drop k xs) ++ reverse (take k xs)
  halves = ap reverse (sym (take-append-drop k xs)) ∙ reverse-append (take k xs) (drop k xs)

  end_length : length (reverse (drop k xs)) ≡ n
  end_length = let a = length-reverse (drop k xs) in let b = length-drop k xs in omega (arith, a, b, h)

  pub reverse_cut : reverse (take k xs) ≡ drop n (reverse xs)
  reverse_cut = sym (ap (drop n) halves ∙ drop_front (reverse (drop k xs)) (reverse (take k xs)) n end_length)

  pub reverse_end : drop k xs ≡ reverse (take n (reverse xs))
  reverse_end = sym (ap (λ l. reverse (take n l)) halves ∙ ap reverse (take_front (reverse (drop k xs)) (reverse (take k xs)) n end_length) ∙ reverse-reverse (drop k xs))

-- ---- changes

pub pushed_on : (xs : List ℕ) (x base limit : ℕ) → base ≤ length xs
    → stack_at (reverse (xs ++ x ∷ [])) base limit ≡ record { own = x ∷ upper base (reverse xs); outer = lower base (reverse xs); limit = limit }
pushed_on xs x base limit h =
    let r = reverse xs in
    let n : suc (length r) - base ≡ suc (length r - base) = omega (arith, length-reverse xs, h) in
    ap (λ l. stack_at l base limit) (reverse-append xs (x ∷ []))
    ∙ ap (λ m. record { own = take m (x ∷ r); outer = drop m (x ∷ r); limit = limit }) n

pub cut_off : (xs : List ℕ) (n base limit : ℕ) → n ≤ length xs - base → base ≤ length xs
    → stack_at (reverse (take (length xs - n) xs)) base limit ≡ record { own = drop n (upper base (reverse xs)); outer = lower base (reverse xs); limit = limit }
cut_off xs n base limit h b =
    let r = reverse xs in
    let len = length-reverse xs in
    let left : length (drop n r) - base ≡ length r - n - base = ap (λ m. m - base) (length-drop n r) in
    let most : n + (length r - n - base) ≡ length r - base = omega (arith, len, h, b) in
    let own : take (length (drop n r) - base) (drop n r) ≡ drop n (take (length r - base) r) = ap (λ m. take m (drop n r)) left ∙ take_later (length r - n - base) n r
    ∙ ap (λ m. drop n (take m r)) most in
    let outer : drop (length (drop n r) - base) (drop n r) ≡ drop (length r - base) r = ap (λ m. drop m (drop n r)) left ∙ drop_more (length r - n - base) n r ∙ ap (λ m. drop m r) most in
    ap (λ l. stack_at l base limit) (reverse_cut xs n (omega (arith, h, b)))
    ∙ ap (λ l. record { own = l; outer = drop (length (drop n r) - base) (drop n r); limit = limit }) own
    ∙ ap (λ l. record { own = drop n (upper base r); outer = l; limit = limit }) outer

-- a base past all operands is as good as their number
pub base_at_most : (r : List ℕ) (base limit : ℕ) → stack_at r (min base (length r)) limit ≡ stack_at r base limit
base_at_most r base limit =
    let n : length r - min base (length r) ≡ length r - base = omega arith in
    ap (λ m. record { own = take m r; outer = drop m r; limit = limit }) n

pub left_by : (xs : List ℕ) (base below limit : ℕ) → base ≤ length xs → stack_at (reverse (take base xs)) (min below base) limit ≡ stack_at (lower base (reverse xs)) below limit
left_by xs base below limit h =
    let n : length xs - (length xs - base) ≡ base = omega (arith, h) in
    let m : length xs - base ≡ length (reverse xs) - base = omega (arith, length-reverse xs) in
    let cut : reverse (take base xs) ≡ lower base (reverse xs) = ap (λ k. reverse (take k xs)) (sym n) ∙ reverse_cut xs (length xs - base) (omega arith) ∙ ap (λ k. drop k (reverse xs)) m in
    let len : length (lower base (reverse xs)) ≡ base = let a = length-drop (length (reverse xs) - base) (reverse xs) in omega (arith, a, length-reverse xs, h) in
    ap (λ l. stack_at l (min below base) limit) cut
    ∙ ap (λ k. stack_at (lower base (reverse xs)) (min below k) limit) (sym len)
    ∙ base_at_most (lower base (reverse xs)) below limit

pub last_are : (xs : List ℕ) (n base : ℕ) → n ≤ length xs - base → base ≤ length xs → drop (length xs - n) xs ≡ reverse (take n (upper base (reverse xs)))
last_are xs n base h b =
    let k = length (reverse xs) - base in
    let more : n ≤ k = omega (arith, h, length-reverse xs) in
    reverse_end xs n (omega (arith, h)) ∙ ap reverse (sym (take_within n k (reverse xs) more))
  where
    take_within : (n k : ℕ) (l : List ℕ) → n ≤ k → take n (take k l) ≡ take n l
    take_within zero k l h = refl
    take_within (suc n) zero l h = absurd (omega (arith, h))
    take_within (suc n) (suc k) [] h = refl
    take_within (suc n) (suc k) (x ∷ l) h = ap (λ t. x ∷ t) (take_within n k l (omega (arith, h)))

-- ---- words of a frame

pub next_word : (first : List ℕ) (size i : ℕ) → i < size → take (suc i) (first ++ replicate size 0) ≡ take i (first ++ replicate size 0) ++ slice_index first i ∷ []
next_word [] zero i h = absurd (omega (arith, h))
next_word [] (suc n) zero h = refl
next_word [] (suc n) (suc i) h = ap (λ l. 0 ∷ l) (next_word [] n i (omega (arith, h)))
next_word (x ∷ first) size zero h = refl
next_word (x ∷ first) size (suc i) h = ap (λ l. x ∷ l) (next_word first size i (omega (arith, h)))

pub cleared_one : (m n at i : ℕ) (w : List ℕ) → m ≡ suc n → zeroed m at w ≡ zeroed n (at + 1) (slice_set w at 0)
cleared_one m n at i w e = ap (λ k. zeroed k at w) e

-- ---- operands of callers

split_length : (below : ℕ) (outer : List ℕ) → length (upper below outer) + length (lower below outer) ≡ length outer
split_length below outer = sym (length-append (upper below outer) (lower below outer)) ∙ ap length (take-append-drop (length outer - below) outer)

outer_most : (height : ℕ) (ks : List Caller) (outer : List ℕ) → Fits height ks outer → length outer ≤ length ks * height
outer_most height [] outer h = omega (arith, h)
outer_most height (k ∷ ks) outer h =
    let rest = outer_most height ks (lower k.below outer) h.1 in
    let both = split_length k.below outer in
    let first = h.0 in
    let more : suc (length ks) * height ≡ length ks * height + height = suc-mul (length ks) height in
    omega (arith, rest, both, first, more)

pub room_for_one : (height limit own : ℕ) (ks : List Caller) (outer : List ℕ) → own < height → length ks ≤ 255 → 256 * height ≤ limit → Fits height ks outer → own + length outer < limit
room_for_one height limit own ks outer lt few most h =
    let a = outer_most height ks outer h in
    let b : length ks * height ≤ 255 * height = mul-le-mul_right height few in
    omega (arith, a, b, lt, most)
