-- How the words of a line are found, one by one.
use Rattle.std.specs.Prelude.{ℕ, Bool, not, List, [], ◌∷◌, Option, Some, None}
use Rattle.std.specs.Borrow.{Bor}
use Rattle.debugger.specs.Lines.{is_blank, words_of}

-- bytes of words
abbrev pub is_visible : ℕ → Bool
is_visible b = not (is_blank b)

-- the words of a text by its first word and what is behind it
abbrev pub first_words : Option (Bor (List ℕ) × Bor (List ℕ)) → List (List ℕ)
first_words None = []
first_words (Some parts) = parts.0.now ∷ words_of parts.1.now
