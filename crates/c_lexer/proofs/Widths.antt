-- Each piece has a byte, and ends within its text.
use Rattle.std.proofs.Common.{◌≡◌, ℕ, ◌+◌, ◌<◌, ◌≤◌, Bool, true, false, ◌&&◌, ◌⊎◌, inl, inr, List, [], ◌∷◌, length, take, drop, Option, Some, None, Result, Ok, Err, refl, ap, subst, arith, cond}
use Rattle.std.proofs.Common.{nat_eq, length-drop}
use Rattle.std.specs.Prelude.{◌==◌, not, nat_lt, option_map, codes, take_while}
use Rattle.std.specs.List.{starts_with}
use Rattle.std.specs.Char.{is_digit, is_ascii_digit}
use Rattle.std.proofs.lemmas.Bool.{eqb-true}
use Rattle.std.proofs.lemmas.Bool.Decides.{nat_tests}
use Rattle.std.proofs.lemmas.List.{length-take}
use Rattle.std.proofs.lemmas.List.Folds.{length-prefix_len}
use Rattle.std.proofs.lemmas.List.Sums.{prefix_len-le-length}
use Rattle.c_lexer.specs.declared.fault.LexFault.{LexFault}
use Rattle.c_lexer.specs.declared.fault.LexFault.TheVariants.{BadByte, OpenComment, BadConstant, LongName, LongText}
use Rattle.c_lexer.specs.declared.piece.Piece.{Piece}
use Rattle.c_lexer.specs.declared.token.Key.{Key}
use Rattle.c_lexer.specs.Bytes.{is_blank, begins_name, is_name_byte, is_number_byte}
use Rattle.c_lexer.specs.Constants.{digits_at, escape_at}
use Rattle.c_lexer.specs.Lexemes.{or_fault, gap, comment_end, comment_at, is_line_start, is_include, hash_at, name_at, number_at, closing_at, key_in, word_with, character_byte_at, character_at}
use Rattle.c_lexer.specs.Lexemes.{text_bytes_at, text_at, mark_in, mark_at, piece_at}
use Rattle.c_lexer.specs.Tables.{marks, keywords}
use Rattle.c_lexer.specs.Spelling.{LexGives}
use Rattle.std.specs.Prelude.{IfOk}
use Rattle.c_lexer.specs.Laws.{IsText, closed, plain, escaped}
use Rattle.c_lexer.proofs.Fronts.{front_begins}
use Rattle.c_lexer.proofs.Parts.{some_parts, ok_is, not_ok, bind_ok}
use Rattle.c_lexer.proofs.CommentLaws.{comment_law}
use Rattle.c_lexer.proofs.TextLaws.{text_law}
use Rattle.c_lexer.proofs.MarkLaws.{mark_law}
use Rattle.c_lexer.proofs.TableFacts.{mark_has_bytes}

abbrev Fits : List ℕ → ℕ → Type 0
Fits text width = (0 < width) × (width ≤ length text)

abbrev Piecewise : Type 0
Piecewise = Result Piece LexFault

-- a piece that was made by one step
made : {A : Type 0} (f : LexFault) (o : Option A) (make : A → Piece) (p : Piece) → or_fault f (option_map make o) ≡ Ok p → (x : A) × (o ≡ Some x) × (make x ≡ p)
made f (Some x) make p e = (x, refl, cc)
made f None make p e = absurd cc

chosen : {A : Type 0} (b : Bool) (x y z : A) → cond b x y ≡ z → ((b ≡ true) × (x ≡ z)) ⊎ ((b ≡ false) × (y ≡ z))
chosen true x y z e = inl (refl, e)
chosen false x y z e = inr (refl, e)

width_is : (p q : Piece) (text : List ℕ) → p ≡ q → Fits text p.width → Fits text q.width
width_is p q text e h = subst (λ (r : Piece). Fits text r.width) e h

digits_within : (base : ℕ) (text : List ℕ) → length (digits_at base text) ≤ length text
digits_within base text = rw (length-prefix_len (λ (b : ℕ). is_digit b base) text) (prefix_len-le-length (λ (b : ℕ). is_digit b base) text)

abbrev with_width : ℕ → Option ℕ → Option (ℕ × ℕ)
with_width n = option_map (λ (x : ℕ). (x, n))

sized : (o : Option ℕ) (v n len : ℕ) → with_width n o ≡ Some (v, len) → n ≡ len
sized (Some x) v n len e = (some_parts (x, n) (v, len) e).1
sized None v n len e = absurd cc

escape_within : (text : List ℕ) (v len : ℕ) → escape_at text ≡ Some (v, len) → len ≤ length text
unfolding escape_at
escape_within [] v len e = absurd cc
escape_within (b ∷ rest) v len e =
    elim (chosen (b == 120) _ _ _ e) [
      | inl h ↦ omega (arith, sized _ v _ len h.1, digits_within 16 rest)
      | inr h ↦ elim (chosen (is_digit b 8) _ _ _ h.1) [
        | inl k ↦ omega (arith, sized _ v _ len k.1, digits_within 8 (take 3 (b ∷ rest)), length-take 3 (b ∷ rest))
        | inr k ↦ omega (arith, sized _ v _ len k.1)
      ]
    ]

comment_fits : (line : ℕ) (text : List ℕ) (p : Piece) → comment_at line (drop 2 text) ≡ Ok p → Fits text p.width
comment_fits line text p e =
    let m = made (OpenComment line) (comment_end (drop 2 text)) (λ n. gap (2 + n)) p e in
    let end = (comment_law (drop 2 text) m.0).0 m.1 in
    let two = ap length end.closes in
    width_is (gap (2 + m.0)) p text m.2 (omega arith, omega (arith, end.behind, two, length-take 2 (drop end.place (drop 2 text)), length-drop end.place (drop 2 text), length-drop 2 text))

hash_fits : (line b : ℕ) (before rest : List ℕ) (p : Piece) → b ≡ 35 → hash_at line before (b ∷ rest) ≡ Ok p → Fits (b ∷ rest) p.width
unfolding hash_at
hash_fits line b before rest p here e =
    elim (chosen (is_line_start before && is_include (drop 1 (b ∷ rest))) _ _ _ e) [
      | inl h ↦ width_is _ p (b ∷ rest) (ok_is _ p h.1) (front_begins (λ (c : ℕ). not (c == 10)) (b ∷ rest) (omega arith) (rw here refl))
      | inr h ↦ absurd (not_ok (BadByte line) p h.1)
    ]

begins_word : (b : ℕ) → begins_name b ≡ true → is_name_byte b ≡ true
begins_word b e = grind (arith, nat_tests)

begins_number : (b : ℕ) → is_ascii_digit b ≡ true → is_number_byte b ≡ true
begins_number b e = grind (arith, nat_tests)

word_fits : (text word : List ℕ) (o : Option Key) → Fits text (length word) → Fits text (word_with word o).width
word_fits text word None h = h
word_fits text word (Some k) h = h

name_fits : (line b : ℕ) (rest : List ℕ) (p : Piece) → begins_name b ≡ true → name_at line (b ∷ rest) ≡ Ok p → Fits (b ∷ rest) p.width
unfolding name_at
name_fits line b rest p begins e =
    let word = take_while is_name_byte (b ∷ rest) in
    elim (chosen (nat_lt 63 (length word)) _ _ _ e) [
      | inl h ↦ absurd (not_ok (LongName line) p h.1)
      | inr h ↦ width_is _ p (b ∷ rest) (ok_is _ p h.1) (word_fits (b ∷ rest) word (key_in keywords word) (front_begins is_name_byte (b ∷ rest) (omega arith) (begins_word b begins)))
    ]

number_fits : (line b : ℕ) (rest : List ℕ) (p : Piece) → is_ascii_digit b ≡ true → number_at line (b ∷ rest) ≡ Ok p → Fits (b ∷ rest) p.width
unfolding number_at
number_fits line b rest p begins e =
    let m = made (BadConstant line) _ _ p e in
    width_is _ p (b ∷ rest) m.2 (front_begins is_number_byte (b ∷ rest) (omega arith) (begins_number b begins))

closing_stands : (line : ℕ) (text : List ℕ) (u : Unit {0}) → closing_at line text ≡ Ok u → 0 < length text
closing_stands line [] u e = absurd cc
closing_stands line (b ∷ rest) u e = omega arith

character_fits : (line b : ℕ) (inside : List ℕ) (p : Piece) → character_at line inside ≡ Ok p → Fits (b ∷ inside) p.width
unfolding character_at
character_fits line b inside p e =
    let c = bind_ok (character_byte_at line inside) _ p e in
    let d = bind_ok (closing_at line (drop c.0.1 inside)) _ p c.2 in
    let closing = closing_stands line (drop c.0.1 inside) d.0 d.1 in
    width_is _ p (b ∷ inside) (ok_is _ p d.2) (omega arith, omega (arith, closing, length-drop c.0.1 inside))

text_fits : {text bytes : List ℕ} {w : ℕ} → IsText text bytes w → Fits text w
text_fits closed = (omega arith, omega arith)
text_fits (plain p more) = let h = text_fits more in (omega arith, omega arith)
text_fits (escaped {v} {len} {rest} {bytes} {width} e pos more) =
    let h = text_fits more in
    (omega arith, omega (arith, escape_within rest v len e, length-drop len rest))

text_piece_fits : (line b : ℕ) (inside : List ℕ) (p : Piece) → text_at line inside ≡ Ok p → Fits (b ∷ inside) p.width
unfolding text_at
text_piece_fits line b inside p e =
    let t = bind_ok (text_bytes_at line 0 inside) _ p e in
    let h = text_fits ((text_law line inside t.0.0 t.0.1).0 t.1) in
    elim (chosen (nat_lt 509 (length t.0.0)) _ _ _ t.2) [
      | inl k ↦ absurd (not_ok (LongText line) p k.1)
      | inr k ↦ width_is _ p (b ∷ inside) (ok_is _ p k.1) (omega arith, omega (arith, h.1))
    ]

mark_fits : (line : ℕ) (text : List ℕ) (p : Piece) → mark_at line text ≡ Ok p → Fits text p.width
unfolding mark_at
mark_fits line text p e =
    let m = made (BadByte line) (mark_in marks text) _ p e in
    let longest = (mark_law text m.0.0 m.0.1).0 m.1 in
    let some : 0 < m.0.1 = rw m.1 at (mark_has_bytes text) in
    width_is _ p text m.2 (some, longest.within)

pub piece_fits : (line : ℕ) (before text : List ℕ) (p : Piece) → piece_at line before text ≡ Ok p → Fits text p.width
unfolding piece_at
piece_fits line before [] p e = absurd cc
piece_fits line before (b ∷ rest) p e =
    elim (chosen (is_blank b) _ _ _ e) [
      | inl h ↦ width_is (gap 1) p (b ∷ rest) (ok_is (gap 1) p h.1) (omega arith, omega arith)
      | inr h ↦
          elim (chosen (starts_with nat_eq (b ∷ rest) (codes "/*")) _ _ _ h.1) [
            | inl h ↦ comment_fits line (b ∷ rest) p h.1
            | inr h ↦
                elim (chosen (b == 35) _ _ _ h.1) [
                  | inl h ↦ hash_fits line b before rest p (eqb-true b 35 h.0) h.1
                  | inr h ↦
                      elim (chosen (begins_name b) _ _ _ h.1) [
                        | inl h ↦ name_fits line b rest p h.0 h.1
                        | inr h ↦
                            elim (chosen (is_ascii_digit b) _ _ _ h.1) [
                              | inl h ↦ number_fits line b rest p h.0 h.1
                              | inr h ↦
                                  elim (chosen (b == 39) _ _ _ h.1) [
                                    | inl h ↦ character_fits line b rest p h.1
                                    | inr h ↦
                                        elim (chosen (b == 34) _ _ _ h.1) [ inl h ↦ text_piece_fits line b rest p h.1 | inr h ↦ mark_fits line (b ∷ rest) p h.1 ]
                                  ]
                            ]
                      ]
                ]
          ]
    ]

-- what stands at a place ends within the text
pub piece_within : (line at : ℕ) (text : List ℕ) (r : Result Piece LexFault) → at < length text → LexGives (λ p. p) r (piece_at line (take at text) (drop at text))
    → IfOk r (λ p. (0 < p.width) × (at + p.width ≤ length text))
piece_within line at text (Ok p) lt given = let h = piece_fits line (take at text) (drop at text) p given in (h.0, omega (arith, h.1, length-drop at text))
piece_within line at text (Err f) lt given = tt
