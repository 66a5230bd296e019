-- What stands at a place of a text, or the rule that is broken there. A place is given by its line, the bytes
-- before it and the text from it on.
use Rattle.std.specs.Prelude.{ℕ, zero, suc, ◌+◌, ◌-◌, Bool, not, ◌||◌, ◌&&◌, ◌==◌, nat_eq, nat_lt, if◌then◌else◌, List, [], ◌∷◌, length, drop, reverse, take_while, find, Option, Some, None}
use Rattle.std.specs.Prelude.{option_map, Result, Ok, Err, codes}
use Rattle.std.specs.Str.{bytes_eq}
use Rattle.std.specs.List.{starts_with, list_all, prefix_len}
use Rattle.std.specs.Char.{is_ascii_digit}
use Rattle.nm_base.specs.declared.operator.Ctype.{Ctype}
use Rattle.nm_base.specs.declared.operator.Ctype.TheVariants.{Int}
use Rattle.c_lexer.specs.declared.fault.LexFault.{LexFault}
use Rattle.c_lexer.specs.declared.fault.LexFault.TheVariants.{BadByte, OpenComment, OpenText, BadConstant, BadEscape, LongName, LongText}
use Rattle.c_lexer.specs.declared.piece.Piece.{Piece}
use Rattle.c_lexer.specs.declared.token.Tok.{Tok}
use Rattle.c_lexer.specs.declared.token.Tok.TheVariants as tok
use Rattle.c_lexer.specs.declared.token.Key.{Key}
use Rattle.c_lexer.specs.declared.token.Mark.{Mark}
use Rattle.c_lexer.specs.Bytes.{is_blank, is_space_or_tab, begins_name, is_name_byte, is_number_byte, is_printable}
use Rattle.c_lexer.specs.Tables.{keywords, marks}
use Rattle.c_lexer.specs.Constants.{number_of, escape_at}

infixl 10 ◌>>=◌
abbrev pub ◌>>=◌ : {A B F : Type 0} → Result A F → (A → Result B F) → Result B F
(Ok x) >>= f = f x
(Err e) >>= f = Err e

-- the value, or else the fault
abbrev pub or_fault : {A : Type 0} → LexFault → Option A → Result A LexFault
or_fault e (Some x) = Ok x
or_fault e None = Err e

abbrev pub gap : ℕ → Piece
gap width = record { width = width; lexeme = None }

abbrev pub lexeme : ℕ → Tok → List ℕ → Piece
lexeme width kind bytes = record { width = width; lexeme = Some (record { kind = kind; bytes = bytes }) }

-- how many bytes there are up to the first `*/` and with it
unfoldable pub comment_end : List ℕ → Option ℕ
comment_end [] = None
comment_end (b ∷ rest) =
    if starts_with nat_eq (b ∷ rest) (codes "*/") then Some 2 else option_map (λ n. 1 + n) (comment_end rest)

-- a comment, behind its `/*`
abbrev pub comment_at : ℕ → List ℕ → Result Piece LexFault
comment_at line inside = or_fault (OpenComment line) (option_map (λ n. gap (2 + n)) (comment_end inside))

-- whether only blanks stand before a place on its line
abbrev pub is_line_start : List ℕ → Bool
is_line_start before = list_all is_blank (take_while (λ b. not (b == 10)) (reverse before))

-- whether spaces or tabs or none stand here, and then the word `include`
abbrev pub is_include : List ℕ → Bool
is_include text = bytes_eq (take_while is_name_byte (drop (prefix_len is_space_or_tab text) text)) (codes "include")

-- A `#` begins an include line, which ends with its line, or nothing.
unfoldable pub hash_at : ℕ → List ℕ → List ℕ → Result Piece LexFault
hash_at line before text =
    if is_line_start before && is_include (drop 1 text) then Ok (gap (length (take_while (λ b. not (b == 10)) text)))
    else Err (BadByte line)

-- the keyword of a table that a word is
abbrev pub key_in : List (List ℕ × Key) → List ℕ → Option Key
key_in table word = option_map (λ (k : List ℕ × Key). k.1) (find (λ k. bytes_eq k.0 word) table)

abbrev pub word_with : List ℕ → Option Key → Piece
word_with word (Some k) = lexeme (length word) (tok.Keyword k) []
word_with word None = lexeme (length word) tok.Name word

unfoldable pub name_at : ℕ → List ℕ → Result Piece LexFault
name_at line text =
    let word = take_while is_name_byte text in
    if nat_lt 63 (length word) then Err (LongName line) else Ok (word_with word (key_in keywords word))

-- a constant in a piece
abbrev pub constant : ℕ → (ℕ × Ctype) → Piece
constant width c = lexeme width (tok.Const c.0 c.1) []

unfoldable pub number_at : ℕ → List ℕ → Result Piece LexFault
number_at line text =
    let word = take_while is_number_byte text in
    or_fault (BadConstant line) (option_map (constant (length word)) (number_of word))

abbrev pub escaped_at : ℕ → List ℕ → Result (ℕ × ℕ) LexFault
escaped_at line text = or_fault (BadEscape line) (escape_at text)

-- the closing quote of a character constant
abbrev pub closing_at : ℕ → List ℕ → Result (Unit {0}) LexFault
closing_at line [] = Err (OpenText line)
closing_at line (b ∷ rest) = if b == 39 then Ok tt else if b == 10 then Err (OpenText line) else Err (BadConstant line)

-- the value in a character constant, and how many bytes it has
unfoldable pub character_byte_at : ℕ → List ℕ → Result (ℕ × ℕ) LexFault
character_byte_at line [] = Err (OpenText line)
character_byte_at line (b ∷ rest) =
    if b == 39 then Err (BadConstant line)
    else if b == 92 then (escaped_at line rest >>= λ e. Ok (e.0, 1 + e.1))
    else if is_printable b then Ok (b, 1)
    else if b == 10 then Err (OpenText line)
    else Err (BadByte line)

-- a character constant, behind its opening quote
unfoldable pub character_at : ℕ → List ℕ → Result Piece LexFault
character_at line inside = do
  c ← character_byte_at line inside
  closed ← closing_at line (drop c.1 inside)
  Ok (constant (2 + c.1) (c.0, Int))

-- What stands at a place in a text: its closing quote, or the value of a character; and how many bytes that takes.
unfoldable pub text_byte_at : ℕ → List ℕ → Result (Option ℕ × ℕ) LexFault
text_byte_at line [] = Err (OpenText line)
text_byte_at line (b ∷ rest) =
    if b == 34 then Ok (None, 1)
    else if b == 92 then
    (escaped_at line rest >>= λ e. if e.0 == 0 then Err (BadEscape line) else Ok (Some e.0, 1 + e.1))
    else if is_printable b || b == 9 then Ok (Some b, 1)
    else if b == 10 then Err (OpenText line)
    else Err (BadByte line)

abbrev pub then_bytes : Option ℕ → ℕ → Result (List ℕ × ℕ) LexFault → Result (List ℕ × ℕ) LexFault
then_bytes None width others = Ok ([], width)
then_bytes (Some v) width others = others >>= λ o. Ok (v ∷ o.0, 1 + o.1)

-- The values up to the closing quote, and how many bytes they take with it. The first bytes, as many as the first
-- number says, belong to the escape before.
unfoldable pub text_bytes_at : ℕ → ℕ → List ℕ → Result (List ℕ × ℕ) LexFault
text_bytes_at line skip [] = Err (OpenText line)
text_bytes_at line (suc skip) (b ∷ rest) = text_bytes_at line skip rest >>= λ o. Ok (o.0, 1 + o.1)
text_bytes_at line zero (b ∷ rest) =
    text_byte_at line (b ∷ rest) >>= λ c. then_bytes c.0 c.1 (text_bytes_at line (c.1 - 1) rest)

-- a text, behind its opening quote
unfoldable pub text_at : ℕ → List ℕ → Result Piece LexFault
text_at line inside = do
  t ← text_bytes_at line 0 inside
  if nat_lt 509 (length t.0) then Err (LongText line) else Ok (lexeme (1 + t.1) tok.Text t.0)

-- the first mark of a table that a text begins with, and how many bytes it has
abbrev pub mark_in : List (List ℕ × Mark) → List ℕ → Option (Mark × ℕ)
mark_in table text =
    option_map (λ (m : List ℕ × Mark). (m.1, length m.0)) (find (λ m. starts_with nat_eq text m.0) table)

-- the longest mark that a text begins with
unfoldable pub mark_at : ℕ → List ℕ → Result Piece LexFault
mark_at line text =
    or_fault (BadByte line) (option_map (λ (m : Mark × ℕ). lexeme m.1 (tok.Mark m.0) []) (mark_in marks text))

unfoldable pub piece_at : ℕ → List ℕ → List ℕ → Result Piece LexFault
piece_at line before [] = Err (BadByte line)
piece_at line before (b ∷ rest) =
    if is_blank b then Ok (gap 1)
    else if starts_with nat_eq (b ∷ rest) (codes "/*") then comment_at line (drop 2 (b ∷ rest))
    else if b == 35 then hash_at line before (b ∷ rest)
    else if begins_name b then name_at line (b ∷ rest)
    else if is_ascii_digit b then number_at line (b ∷ rest)
    else if b == 39 then character_at line rest
    else if b == 34 then text_at line rest
    else mark_at line (b ∷ rest)
