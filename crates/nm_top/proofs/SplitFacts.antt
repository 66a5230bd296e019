-- One byte more of an input.
use Rattle.std.proofs.Common.{◌≡◌, ℕ, Bool, true, false, List, [], ◌∷◌, ◌++◌, map, refl, sym, ap, ◌∙◌, subst, cond, append-nil, append_assoc}
use Rattle.std.specs.Prelude.{◌==◌}
use Rattle.std.proofs.lemmas.List.{map-append}
use Rattle.nm_top.specs.Debugging.{Split, split, begin_first, without_return, ended_lines, IsFront}

abbrev pub parts_of : List (List ℕ) → List ℕ → Split
parts_of ended begun = record { ended = ended; begun = begun }

-- a byte before the others, and one behind them
abbrev pub before_by : Bool → ℕ → Split → Split
before_by t b parts = cond t (parts_of ([] ∷ parts.ended) parts.begun) (begin_first b parts.ended parts.begun)

abbrev pub behind_by : Bool → ℕ → Split → Split
behind_by t b parts = cond t (parts_of (parts.ended ++ parts.begun ∷ []) []) (parts_of parts.ended (parts.begun ++ b ∷ []))

swapped : (t u : Bool) (c b : ℕ) (ended : List (List ℕ)) (begun : List ℕ)
    → before_by t c (behind_by u b (parts_of ended begun)) ≡ behind_by u b (before_by t c (parts_of ended begun))
swapped true true c b ended begun = refl
swapped true false c b ended begun = refl
swapped false true c b [] begun = refl
swapped false true c b (line ∷ lines) begun = refl
swapped false false c b [] begun = refl
swapped false false c b (line ∷ lines) begun = refl

pub split_more : (bytes : List ℕ) (b : ℕ) → split (bytes ++ b ∷ []) ≡ behind_by (b == 10) b (split bytes)
split_more [] b = one (b == 10)
  where
    one : (u : Bool) → before_by u b (parts_of [] []) ≡ behind_by u b (parts_of [] [])
    one true = refl
    one false = refl
split_more (c ∷ bytes) b =
    ap (before_by (c == 10) c) (split_more bytes b)
    ∙ swapped (c == 10) (b == 10) c b (split bytes).ended (split bytes).begun

-- a newline ends a line
pub newline_split : (bytes : List ℕ) → split (bytes ++ 10 ∷ []) ≡ parts_of ((split bytes).ended ++ (split bytes).begun ∷ []) []
newline_split bytes = split_more bytes 10

pub newline_ends : (bytes : List ℕ) → ended_lines (bytes ++ 10 ∷ []) ≡ ended_lines bytes ++ without_return (split bytes).begun ∷ []
newline_ends bytes =
    ap (λ s. map without_return s.ended) (newline_split bytes) ∙ map-append without_return (split bytes).ended ((split bytes).begun ∷ [])

-- another byte is one of the line that is begun
pub byte_split : (bytes : List ℕ) (b : ℕ) → (b == 10) ≡ false → split (bytes ++ b ∷ []) ≡ parts_of (split bytes).ended ((split bytes).begun ++ b ∷ [])
byte_split bytes b e = split_more bytes b ∙ ap (λ t. behind_by t b (split bytes)) e

pub byte_ends : (bytes : List ℕ) (b : ℕ) → (b == 10) ≡ false → ended_lines (bytes ++ b ∷ []) ≡ ended_lines bytes
byte_ends bytes b e = ap (λ s. map without_return s.ended) (byte_split bytes b e)

-- ---- fronts of lines

pub front_refl : (lines : List (List ℕ)) → IsFront lines lines
front_refl lines = ([], sym (append-nil lines))

pub front_append : (lines more : List (List ℕ)) → IsFront lines (lines ++ more)
front_append lines more = (more, refl)

pub front_trans : (a b c : List (List ℕ)) → IsFront a b → IsFront b c → IsFront a c
front_trans a b c f g = (f.0 ++ g.0, g.1 ∙ ap (λ xs. xs ++ g.0) f.1 ∙ append_assoc a f.0 g.0)

front_by : (bytes : List ℕ) (b : ℕ) (t : Bool) → IsFront (ended_lines bytes) (map without_return (behind_by t b (split bytes)).ended)
front_by bytes b true = (without_return (split bytes).begun ∷ [], map-append without_return (split bytes).ended ((split bytes).begun ∷ []))
front_by bytes b false = front_refl (ended_lines bytes)

front_one : (bytes : List ℕ) (b : ℕ) → IsFront (ended_lines bytes) (ended_lines (bytes ++ b ∷ []))
front_one bytes b =
    subst (λ s. IsFront (ended_lines bytes) (map without_return s.ended)) (sym (split_more bytes b)) (front_by bytes b (b == 10))

-- the lines that end in a front of bytes are a front of those that end in the bytes
pub ended_front : (xs ys : List ℕ) → IsFront (ended_lines xs) (ended_lines (xs ++ ys))
ended_front xs [] = subst (λ zs. IsFront (ended_lines xs) (ended_lines zs)) (sym (append-nil xs)) (front_refl (ended_lines xs))
ended_front xs (y ∷ ys) =
    let later : IsFront (ended_lines (xs ++ y ∷ [])) (ended_lines ((xs ++ y ∷ []) ++ ys)) = ended_front (xs ++ y ∷ []) ys in
    let same : (xs ++ y ∷ []) ++ ys ≡ xs ++ (y ∷ ys) = append_assoc xs (y ∷ []) ys in
    front_trans (ended_lines xs) (ended_lines (xs ++ y ∷ [])) (ended_lines (xs ++ (y ∷ ys))) (front_one xs y)
    (subst (λ zs. IsFront (ended_lines (xs ++ y ∷ [])) (ended_lines zs)) same later)
