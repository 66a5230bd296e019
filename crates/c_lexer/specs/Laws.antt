-- Comments, texts and marks in words of their own, to hold against what the definitions compute.
use Rattle.std.specs.Prelude.{◌≡◌, ◌≢◌, ℕ, Bool, false, IsSome, slice_index, ◌+◌, ◌<◌, ◌≤◌, ◌||◌, ◌⊎◌, ◌↔◌, true, ◌==◌, List, [], ◌∷◌, length, take, drop, Some, None, Ok, All, Contains, codes}
use Rattle.c_lexer.specs.declared.fault.LexFault.{LexFault}
use Rattle.c_lexer.specs.declared.token.Mark.{Mark}
use Rattle.c_lexer.specs.declared.token.Token.{Token}
use Rattle.c_lexer.specs.declared.piece.Piece.{Piece}
use Rattle.c_lexer.specs.Bytes.{is_printable, is_name_byte, is_number_byte}
use Rattle.c_lexer.specs.Tables.{marks}
use Rattle.c_lexer.specs.Constants.{escape_at, number_of}
use Rattle.c_lexer.specs.Lexemes.{comment_end, text_bytes_at, mark_in, name_at, number_at}
use Rattle.c_lexer.specs.Spelling.{Spells, Refused}

-- `*/` stands behind k bytes
abbrev pub ClosesAt : List ℕ → ℕ → Type 0
ClosesAt inside k = take 2 (drop k inside) ≡ codes "*/"

-- the first `*/` ends behind n bytes
pub record IsCommentEnd (inside : List ℕ) (n : ℕ) : Type 0 where
  pub place : ℕ
  pub behind : n ≡ place + 2
  pub closes : ClosesAt inside place
  pub first : (k : ℕ) → k < place → ClosesAt inside k → ⊥

abbrev pub CommentLaw : Type 0
CommentLaw = (inside : List ℕ) (n : ℕ) → (comment_end inside ≡ Some n) ↔ IsCommentEnd inside n

abbrev pub OpenCommentLaw : Type 0
OpenCommentLaw = (inside : List ℕ) → (comment_end inside ≡ None) ↔ ((k : ℕ) → ClosesAt inside k → ⊥)

-- what stands for itself in a text: a printable byte but the quote and the backslash, or a tab
pub record IsPlain (b : ℕ) : Type 0 where
  pub shown : (is_printable b || b == 9) ≡ true
  pub no_quote : b ≢ 34
  pub no_backslash : b ≢ 92

-- a front of the given width of a list of bytes stands for these bytes, and ends with the closing quote
pub data IsText : List ℕ → List ℕ → ℕ → Type 0 where
  closed : {rest : List ℕ} → IsText (34 ∷ rest) [] 1
  plain : {b : ℕ} {rest bytes : List ℕ} {width : ℕ} → IsPlain b → IsText rest bytes width
      → IsText (b ∷ rest) (b ∷ bytes) (1 + width)
  escaped : {v len : ℕ} {rest bytes : List ℕ} {width : ℕ} → escape_at rest ≡ Some (v, len) → 0 < v
      → IsText (drop len rest) bytes width
      → IsText (92 ∷ rest) (v ∷ bytes) (1 + (len + width))

abbrev pub TextLaw : Type 0
TextLaw = (line : ℕ) (inside bytes : List ℕ) (width : ℕ)
    → (text_bytes_at line 0 inside ≡ Ok (bytes, width)) ↔ IsText inside bytes width

abbrev pub BeginsWith : List ℕ → List ℕ → Type 0
BeginsWith text word = take (length word) text ≡ word

-- the first n bytes are the mark, and no mark that stands here is longer
pub record IsLongestMark (text : List ℕ) (m : Mark) (n : ℕ) : Type 0 where
  pub within : n ≤ length text
  pub listed : Contains marks (take n text, m)
  pub longest : All (λ e. BeginsWith text e.0 → length e.0 ≤ n) marks

abbrev pub MarkLaw : Type 0
MarkLaw = (text : List ℕ) (m : Mark) (n : ℕ) → (mark_in marks text ≡ Some (m, n)) ↔ IsLongestMark text m n

abbrev pub NoMarkLaw : Type 0
NoMarkLaw = (text : List ℕ) → mark_in marks text ≡ None → All (λ e. BeginsWith text e.0 → ⊥) marks

-- the first n bytes pass a test, and the byte behind them, if there is one, does not
pub record IsLongestFront (passes : ℕ → Bool) (text : List ℕ) (n : ℕ) : Type 0 where
  pub within : n ≤ length text
  pub passing : (k : ℕ) → k < n → passes (slice_index text k) ≡ true
  pub stops : n < length text → passes (slice_index text n) ≡ false

-- a name goes on as far as it can, and has at most 63 bytes
pub record IsWholeName (text : List ℕ) (n : ℕ) : Type 0 where
  pub front : IsLongestFront is_name_byte text n
  pub short : n ≤ 63

abbrev pub NameLaw : Type 0
NameLaw = (line : ℕ) (text : List ℕ) (p : Piece) → name_at line text ≡ Ok p → IsWholeName text p.width

-- a number goes on as far as it can, and is a constant
pub record IsWholeNumber (text : List ℕ) (n : ℕ) : Type 0 where
  pub front : IsLongestFront is_number_byte text n
  pub value : IsSome (number_of (take n text))

abbrev pub NumberLaw : Type 0
NumberLaw = (line : ℕ) (text : List ℕ) (p : Piece) → number_at line text ≡ Ok p → IsWholeNumber text p.width

-- each text is spelled or refused
abbrev pub EachHasReading : Type 0
EachHasReading =
    (text : List ℕ) → ((tokens : List Token) × Spells text tokens) ⊎ ((broken : LexFault) × Refused text broken)

-- no text is spelled twice, or refused twice, or both
pub record OneReading (text : List ℕ) : Type 0 where
  pub spelled : (a b : List Token) → Spells text a → Spells text b → a ≡ b
  pub refused : (a b : LexFault) → Refused text a → Refused text b → a ≡ b
  pub apart : (tokens : List Token) (broken : LexFault) → Spells text tokens → Refused text broken → ⊥
