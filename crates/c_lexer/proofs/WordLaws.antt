-- Names and numbers go on as far as they can.
use Rattle.std.proofs.Common.{◌≡◌, ℕ, Bool, true, false, List, length, take, Option, Some, None, Ok, Err, refl, sym, ap, subst, ◌∙◌, cond}
use Rattle.std.specs.Prelude.{IsSome, nat_lt, option_map, take_while}
use Rattle.std.specs.List.{prefix_len}
use Rattle.std.proofs.lemmas.Bool.{ltb-false}
use Rattle.std.proofs.lemmas.List.Sums.{prefix_len-le-length, prefix_len_passes, prefix_len_stops}
use Rattle.std.proofs.lemmas.List.Folds.{length-prefix_len}
use Rattle.nm_base.specs.declared.operator.Ctype.{Ctype}
use Rattle.c_lexer.specs.declared.fault.LexFault.TheVariants.{BadConstant, LongName}
use Rattle.c_lexer.specs.declared.piece.Piece.{Piece}
use Rattle.c_lexer.specs.declared.token.Key.{Key}
use Rattle.c_lexer.specs.Bytes.{is_name_byte, is_number_byte}
use Rattle.c_lexer.specs.Constants.{number_of}
use Rattle.c_lexer.specs.Lexemes.{or_fault, constant, key_in, word_with, name_at, number_at}
use Rattle.c_lexer.specs.Tables.{keywords}
use Rattle.c_lexer.specs.Laws.{IsLongestFront, IsWholeName, IsWholeNumber, NameLaw, NumberLaw}
use Rattle.c_lexer.proofs.Parts.{ok_is, not_ok}

front_of : (passes : ℕ → Bool) (text : List ℕ) → IsLongestFront passes text (prefix_len passes text)
front_of passes text = record {
  within = prefix_len-le-length passes text;
  passing = λ k lt. prefix_len_passes passes text k 0 lt;
  stops = λ lt. prefix_len_stops passes text 0 lt;
}

longest : (passes : ℕ → Bool) (text : List ℕ) → IsLongestFront passes text (length (take_while passes text))
longest passes text = rw (length-prefix_len passes text) (front_of passes text)

word_width : (word : List ℕ) (o : Option Key) → (word_with word o).width ≡ length word
word_width word None = refl
word_width word (Some k) = refl

named : (line : ℕ) (text : List ℕ) (p : Piece) (b : Bool) → nat_lt 63 (length (take_while is_name_byte text)) ≡ b
    → cond b (Err (LongName line)) (Ok (word_with (take_while is_name_byte text) (key_in keywords (take_while is_name_byte text)))) ≡ Ok p → IsWholeName text p.width
named line text p true long e = absurd (not_ok (LongName line) p e)
named line text p false long e =
    let word = take_while is_name_byte text in
    let o = key_in keywords word in
    let same : length word ≡ p.width = sym (word_width word o) ∙ ap (λ (q : Piece). q.width) (ok_is (word_with word o) p e) in
    subst (IsWholeName text) same (record { front = longest is_name_byte text; short = ltb-false 63 (length word) long })

pub name_law : NameLaw
unfolding name_at
name_law line text p e = named line text p (nat_lt 63 (length (take_while is_name_byte text))) refl e

numbered : (line : ℕ) (text : List ℕ) (p : Piece) (o : Option (ℕ × Ctype)) → number_of (take_while is_number_byte text) ≡ o
    → or_fault (BadConstant line) (option_map (constant (length (take_while is_number_byte text))) o) ≡ Ok p → IsWholeNumber text p.width
numbered line text p None is e = absurd (not_ok (BadConstant line) p e)
numbered line text p (Some c) is e =
    let word = take_while is_number_byte text in
    let same : length word ≡ p.width = ap (λ (q : Piece). q.width) (ok_is (constant (length word) c) p e) in
    let front : take (length word) text ≡ word = rw (length-prefix_len is_number_byte text) refl in
    let value : IsSome (number_of (take (length word) text)) = rw (front, is) refl in
    subst (IsWholeNumber text) same (record { front = longest is_number_byte text; value = value })

pub number_law : NumberLaw
unfolding number_at
number_law line text p e = numbered line text p (number_of (take_while is_number_byte text)) refl e
