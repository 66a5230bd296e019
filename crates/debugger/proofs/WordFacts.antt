-- A text's words are its first word and the words behind it.
use Rattle.std.proofs.Common.{◌≡◌, ℕ, suc, ◌+◌, ◌<◌, Bool, true, false, cond, List, [], ◌∷◌, length, take, drop, refl, sym, ap, ◌∙◌, subst, arith}
use Rattle.std.specs.Prelude.{◌==◌, not, take_while, ⊤, if◌then◌else◌}
use Rattle.std.proofs.lemmas.Bool.{false≢true, eqb-true}
use Rattle.std.specs.List.{prefix_len}
use Rattle.std.proofs.lemmas.List.Folds.{length-prefix_len}
use Rattle.debugger.specs.Lines.{is_blank, begins_word, word_before, words_of}
use Rattle.debugger.specs.private.Words.{is_visible}

abbrev visible : List ℕ → ℕ
visible text = prefix_len is_visible text

-- a text without words, or one that begins with a word
abbrev Begins : List ℕ → Type 0
Begins [] = ⊤
Begins (b ∷ text) = is_blank b ≡ false

-- the same by what is known of the first byte
abbrev Skipped : ℕ → List ℕ → ℕ → Bool → Type 0
Skipped b text n t =
    Begins (drop (cond t (1 + n) 0) (b ∷ text))
    × ((if t then words_of text else word_before b (begins_word text) (words_of text)) ≡ words_of (drop (cond t (1 + n) 0) (b ∷ text)))

skips : (b : ℕ) (text : List ℕ) (n : ℕ) (t : Bool) → is_blank b ≡ t → Begins (drop n text) × (words_of text ≡ words_of (drop n text)) → Skipped b text n (is_blank b)
skips b text n true e later =
    let next : suc n ≡ 1 + n = omega arith in
    subst (Skipped b text n) (sym e) (subst (λ k. Begins (drop k (b ∷ text)) × (words_of text ≡ words_of (drop k (b ∷ text)))) next later)
skips b text n false e later =
    subst (Skipped b text n) (sym e) (e, sym (ap (λ t. if t then words_of text else word_before b (begins_word text) (words_of text)) e))

blanks_skipped : (text : List ℕ) → Begins (drop (prefix_len is_blank text) text) × (words_of text ≡ words_of (drop (prefix_len is_blank text) text))
blanks_skipped [] = (tt, refl)
blanks_skipped (b ∷ text) = skips b text (prefix_len is_blank text) (is_blank b) refl (blanks_skipped text)

-- the first word of a text that begins with one, by what is known of its second byte
abbrev Split : ℕ → ℕ → List ℕ → ℕ → Bool → Type 0
Split b c text n t =
    word_before b (if t then false else true) (words_of (c ∷ text))
    ≡ (b ∷ take (cond (not t) (1 + n) 0) (c ∷ text)) ∷ words_of (drop (cond (not t) (1 + n) 0) (c ∷ text))

splits : (b c : ℕ) (text : List ℕ) (n : ℕ) (t : Bool) → is_blank c ≡ t → (is_blank c ≡ false → words_of (c ∷ text) ≡ (c ∷ take n text) ∷ words_of (drop n text))
    → Split b c text n (is_blank c)
splits b c text n true e later = subst (Split b c text n) (sym e) refl
splits b c text n false e later =
    let next : suc n ≡ 1 + n = omega arith in
    subst (Split b c text n) (sym e) (ap (word_before b true) (later e) ∙ ap (λ m. (b ∷ take m (c ∷ text)) ∷ words_of (drop m (c ∷ text))) next)

-- a text that begins with a word
split_at : (b : ℕ) (text : List ℕ) → is_blank b ≡ false → words_of (b ∷ text) ≡ (b ∷ take (visible text) text) ∷ words_of (drop (visible text) text)
split_at b [] e = ap (λ t. if t then words_of [] else word_before b (begins_word []) (words_of [])) e
split_at b (c ∷ text) e =
    ap (λ t. if t then words_of (c ∷ text) else word_before b (begins_word (c ∷ text)) (words_of (c ∷ text))) e
    ∙ splits b c text (visible text) (is_blank c) refl (split_at c text)

word_split : (seen : List ℕ) → Begins seen → 0 < length seen → words_of seen ≡ take (visible seen) seen ∷ words_of (drop (visible seen) seen)
word_split [] begins some = absurd (omega (arith, some))
word_split (b ∷ text) begins some =
    let next : suc (visible text) ≡ 1 + visible text = omega arith in
    split_at b text begins ∙ ap (λ m. take m (b ∷ text) ∷ words_of (drop m (b ∷ text))) next
    ∙ sym (ap (λ t. take (cond (not t) (1 + visible text) 0) (b ∷ text) ∷ words_of (drop (cond (not t) (1 + visible text) 0) (b ∷ text))) begins)

module _ (text seen : List ℕ) (k : ℕ) (blanks : k ≡ length (take_while is_blank text)) (is : seen ≡ drop k text) where
  seen_is : seen ≡ drop (prefix_len is_blank text) text
  seen_is = is ∙ ap (λ m. drop m text) (blanks ∙ length-prefix_len is_blank text)

  -- what is behind the blanks has the words
  pub same_words : words_of text ≡ words_of seen
  same_words = (blanks_skipped text).1 ∙ ap words_of (sym seen_is)

  -- the first word, and those behind it
  pub word_found : (n : ℕ) (word rest : List ℕ) → 0 < length seen → n ≡ length (take_while is_visible seen) → word ≡ take n seen → rest ≡ drop n seen
      → words_of text ≡ word ∷ words_of rest
  word_found n word rest some visibles taken dropped =
      let at : visible seen ≡ n = sym (visibles ∙ length-prefix_len is_visible seen) in
      let begins = subst Begins (sym seen_is) (blanks_skipped text).0 in
      same_words ∙ word_split seen begins some ∙ ap (λ m. take m seen ∷ words_of (drop m seen)) at
      ∙ ap (λ (w : List ℕ). w ∷ words_of (drop n seen)) (sym taken) ∙ ap (λ (r : List ℕ). word ∷ words_of r) (sym dropped)

-- nothing is seen, by a test of the length
pub none_seen : (seen : List ℕ) (t : Bool) → t ≡ (length seen == 0) → t ≡ true → seen ≡ []
none_seen [] t is e = refl
none_seen (b ∷ text) t is e =
    let none : suc (length text) ≡ 0 = eqb-true (suc (length text)) 0 (sym is ∙ e) in
    absurd (omega (arith, none))

pub some_seen : (seen : List ℕ) (t : Bool) → t ≡ (length seen == 0) → t ≡ false → 0 < length seen
some_seen [] t is e = absurd (false≢true (sym e ∙ is))
some_seen (b ∷ text) t is e = omega arith
