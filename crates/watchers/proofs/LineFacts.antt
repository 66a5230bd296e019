-- Texts of words and numbers have no newline.
use Rattle.std.proofs.Common.{◌≡◌, ◌≢◌, ℕ, ◌+◌, ◌*◌, ◌/◌, ◌%◌, ◌^◌, ◌<◌, ◌≤◌, Bool, true, false, not, List, [], ◌∷◌, ◌++◌, length, decimal, refl, ap, ◌∙◌, subst, arith}
use Rattle.std.specs.Prelude.{◌&&◌, ◌==◌, All, flat_map}
use Rattle.std.specs.List.{list_all}
use Rattle.std.proofs.lemmas.List.{length-append}
use Rattle.std.proofs.lemmas.List.Elements.{All-append, All-push}
use Rattle.std.proofs.lemmas.Fmt.{decimal_by_steps}
use Rattle.nm_base.specs.declared.letter.LetterId.{LetterId}
use Rattle.watchers.specs.declared.note.Note.{Note}
use Rattle.watchers.specs.Lines.{text_in, IsLine}
use Rattle.watchers.specs.Kinds.{name_notes}

abbrev pub Plain : List ℕ → Type 0
Plain = All (λ b. b ≢ 10)

plain_nothing : Plain []
plain_nothing k d lt = absurd (omega arith)

plain_byte : (b : ℕ) → b ≢ 10 → Plain (b ∷ [])
plain_byte b other = All-push (λ x. x ≢ 10) [] b plain_nothing other

pub plain_decimal : (n : ℕ) → n < 2 ^ 64 → Plain (decimal n)
plain_decimal = decimal_by_steps (λ n digits. Plain digits) (λ n lt. plain_byte (48 + n) (λ e. omega (arith, e)))
    (λ n digits ge h. All-push (λ x. x ≢ 10) digits (48 + n % 10) h (λ e. omega (arith, e)))

both : (a b : Bool) → (a && b) ≡ true → (a ≡ true) × (b ≡ true)
both true b h = (refl, h)
both false b h = let no : false ≡ true = h in absurd cc

not_ten : (b : ℕ) → not (b == 10) ≡ true → b ≢ 10
not_ten b h e = let no : false ≡ true = subst (λ x. not (x == 10) ≡ true) e h in absurd cc

pub plain_word : (word : List ℕ) → list_all (λ b. not (b == 10)) word ≡ true → Plain word
plain_word [] h = plain_nothing
plain_word (b ∷ word) h =
    let parts = both (not (b == 10)) (list_all (λ x. not (x == 10)) word) h in
    All-append (λ x. x ≢ 10) (b ∷ []) word (plain_byte b (not_ten b parts.0)) (plain_word word parts.1)

-- the note has this text, without a newline
pub record Says (note : Note) (text : List ℕ) : Type 0 where
  pub is : text_in note ≡ text
  pub plain : Plain text

pub says_nothing : (note : Note) → text_in note ≡ [] → Says note []
says_nothing note is = record { is = is; plain = plain_nothing }

-- a word and a number behind it
pub says_more : (note next : Note) (text word : List ℕ) (n : ℕ) → Says note text
    → text_in next ≡ text_in note ++ word ++ decimal n
    → list_all (λ b. not (b == 10)) word ≡ true → n < 2 ^ 64 → Says next (text ++ word ++ decimal n)
says_more note next text word n h is test small = record {
  is = is ∙ ap (λ t. t ++ word ++ decimal n) h.is;
  plain = All-append (λ x. x ≢ 10) (text ++ word) (decimal n)
      (All-append (λ x. x ≢ 10) text word h.plain (plain_word word test)) (plain_decimal n small);
}

pub is_line : (note : Note) (text : List ℕ) → note.len ≤ 192 → Says note text → IsLine text note
is_line note text few h = record { few = few; is = h.is; one_line = h.plain }

-- each letter has two notes
pub names_length : (ids : List LetterId) → length (flat_map name_notes ids) ≡ 2 * length ids
names_length [] = refl
names_length (id ∷ ids) = omega (arith, names_length ids, length-append (name_notes id) (flat_map name_notes ids))

pub half_of_names : (ids : List LetterId) → length (flat_map name_notes ids) / 2 ≡ length ids
half_of_names ids = omega (arith, names_length ids)
