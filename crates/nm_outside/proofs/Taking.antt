-- What is left of a list after its first elements were taken.
use Rattle.std.proofs.Common.{◌≡◌, ℕ, ◌+◌, ◌<◌, List, [], ◌++◌, length, take, drop, arith, ap, sym, ◌∙◌, length-drop}
use Rattle.std.specs.Prelude.{min}
use Rattle.std.proofs.lemmas.List.{drop-drop, nil_from_length, take-append-drop}

-- what was copied stands before what is left then
pub taken_front : (bytes buf rest : List ℕ) (place count : ℕ) → rest ≡ drop place bytes → take count buf ≡ take count rest
    → drop place bytes ≡ take count buf ++ drop (place + count) bytes
taken_front bytes buf rest place count is e =
    sym (take-append-drop count (drop place bytes))
    ∙ ap (λ xs. take count (drop place bytes) ++ xs) (drop-drop count place bytes)
    ∙ ap (λ xs. xs ++ drop (place + count) bytes) (sym (e ∙ ap (take count) is))

-- nothing is taken only where nothing is left
pub at_end : (bytes rest : List ℕ) (place count room piece : ℕ) → rest ≡ drop place bytes → count ≡ min (min (length rest) room) piece → 0 < room → 0 < piece
    → count ≡ 0 → drop (place + count) bytes ≡ []
at_end bytes rest place count room piece is e some some2 none =
    nil_from_length (drop (place + count) bytes)
    (omega (arith, length-drop (place + count) bytes, length-drop place bytes, ap length is))
