-- Examples of the definitions, by computation.
use Rattle.std.proofs.Common.{◌≡◌, ℕ, ◌∷◌, [], List, Some, None, Result, Ok, Err, refl}
use Rattle.std.specs.Prelude.{codes}
use Rattle.nm_base.specs.declared.operator.Ctype.TheVariants.{Int, Unsigned}
use Rattle.c_lexer.specs.declared.fault.LexFault.{LexFault}
use Rattle.c_lexer.specs.declared.fault.LexFault.TheVariants.{BadByte, OpenText, BadConstant, BadEscape}
use Rattle.c_lexer.specs.declared.piece.Piece.{Piece}
use Rattle.c_lexer.specs.declared.token.Tok.TheVariants.{Name, Keyword, Text, Mark}
use Rattle.c_lexer.specs.declared.token.Key.TheVariants as key
use Rattle.c_lexer.specs.declared.token.Mark.TheVariants as mark
use Rattle.c_lexer.specs.Tables.{keywords, marks}
use Rattle.c_lexer.specs.Constants.{number_of, constant_of, escape_at, simple_escapes}
use Rattle.c_lexer.specs.Lexemes.{gap, lexeme, constant, piece_at, comment_end, hash_at, name_at, number_at, character_byte_at, character_at, text_at, text_byte_at, text_bytes_at, mark_at}

-- a decimal constant is an int up to 2147483647, and has no value above that without a suffix
number_largest : number_of (codes "2147483647") ≡ Some (2147483647, Int)
unfolding number_of constant_of
number_largest = refl

number_decimal : number_of (codes "2147483648") ≡ None
unfolding number_of constant_of
number_decimal = refl

number_suffixed : number_of (codes "4294967295U") ≡ Some (4294967295, Unsigned)
unfolding number_of constant_of
number_suffixed = refl

number_hexadecimal : number_of (codes "0x80000000") ≡ Some (2147483648, Unsigned)
unfolding number_of constant_of
number_hexadecimal = refl

number_octal : number_of (codes "017u") ≡ Some (15, Unsigned)
unfolding number_of constant_of
number_octal = refl

number_no_octal : number_of (codes "08") ≡ None
unfolding number_of constant_of
number_no_octal = refl

number_no_digit : number_of (codes "0x") ≡ None
unfolding number_of constant_of
number_no_digit = refl

escape_newline : escape_at (codes "n1") ≡ Some (10, 1)
unfolding escape_at simple_escapes
escape_newline = refl

escape_three : escape_at (codes "1234") ≡ Some (83, 3)
unfolding escape_at
escape_three = refl

escape_too_large : escape_at (codes "400") ≡ None
unfolding escape_at
escape_too_large = refl

escape_hexadecimal : escape_at (codes "x0041G") ≡ Some (65, 5)
unfolding escape_at
escape_hexadecimal = refl

-- `/*/` is no comment
comment_open : comment_end (codes "/ x") ≡ None
unfolding comment_end
comment_open = refl

word : List ℕ → Result Piece LexFault
word text = piece_at 1 [] text

name_up_to : piece_at 1 [] (codes "do_1+") ≡ Ok (lexeme 4 Name (codes "do_1"))
unfolding piece_at name_at keywords
name_up_to = refl

keyword_read : piece_at 1 [] (codes "do(") ≡ Ok (lexeme 2 (Keyword key.Do) [])
unfolding piece_at name_at keywords
keyword_read = refl

number_bad : piece_at 7 [] (codes "1.5;") ≡ Err (BadConstant 7)
unfolding piece_at number_at number_of constant_of
number_bad = refl

mark_longest : piece_at 1 [] (codes "<<=1") ≡ Ok (lexeme 3 (Mark mark.ShiftLeftAssign) [])
unfolding piece_at mark_at marks
mark_longest = refl

character_escaped : piece_at 1 [] (39 ∷ 92 ∷ 48 ∷ 39 ∷ []) ≡ Ok (constant 4 (0, Int))
unfolding piece_at character_at character_byte_at escape_at
character_escaped = refl

character_open : piece_at 1 [] (codes "'a") ≡ Err (OpenText 1)
unfolding piece_at character_at character_byte_at
character_open = refl

-- "%d\n" with its quotes
text_read : piece_at 1 [] (34 ∷ 37 ∷ 100 ∷ 92 ∷ 110 ∷ 34 ∷ 59 ∷ []) ≡ Ok (lexeme 6 Text (37 ∷ 100 ∷ 10 ∷ []))
unfolding piece_at text_at text_bytes_at text_byte_at escape_at simple_escapes
text_read = refl

text_no_zero : piece_at 1 [] (34 ∷ 92 ∷ 48 ∷ 34 ∷ []) ≡ Err (BadEscape 1)
unfolding piece_at text_at text_bytes_at text_byte_at escape_at
text_no_zero = refl

include_line : piece_at 2 (10 ∷ 32 ∷ []) (codes "# include <stdio.h> /*") ≡ Ok (gap 22)
unfolding piece_at hash_at
include_line = refl

no_include_line : piece_at 1 (codes "/**/ ") (codes "#include") ≡ Err (BadByte 1)
unfolding piece_at hash_at
no_include_line = refl
