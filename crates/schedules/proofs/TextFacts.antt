-- Words of a text, and what they spell.
use Rattle.std.proofs.Common.{
  ◌≡◌,
  ℕ,
  zero,
  suc,
  ◌+◌,
  ◌-◌,
  ◌*◌,
  ◌^◌,
  ◌<◌,
  ◌≤◌,
  Bool,
  true,
  false,
  cond,
  List,
  [],
  ◌∷◌,
  ◌++◌,
  length,
  take,
  drop,
  get_or,
  replicate,
  Option,
  Some,
  None,
  Result,
  Ok,
  Err,
  refl,
  sym,
  ap,
  ◌∙◌,
  subst,
  arith,
  append_assoc,
}
use Rattle.std.specs.Prelude.{position, nat_lt, nat_le, not, ◌&&◌}
use Rattle.std.specs.List.{position_or_len}
use Rattle.std.proofs.lemmas.Bool.{ltb-true, leb-true, lt-ltb, le-leb, ltb-false}
use Rattle.std.proofs.lemmas.List.{drop_more, drop-drop, length-drop, length-append, length-replicate, append-nil}
use Rattle.schedules.specs.declared.schedule.Turn.{Turn}
use Rattle.schedules.specs.declared.reader.Entry.{Entry}
use Rattle.schedules.specs.declared.reader.ScheduleFault.{ScheduleFault}
use Rattle.schedules.specs.declared.reader.ScheduleFault.TheVariants.{NoProcess, TooMany}
use Rattle.schedules.specs.Texts.{
  is_blank,
  Word,
  ends_word,
  with_byte,
  words,
  word_length,
  is_digit,
  value_from,
  in_range,
  number_of,
  spelled,
  admitted_entry,
  admitted,
  followed,
  entries,
  turn_of,
  turns_in,
  after_turns,
  text_turns,
}

-- ---- words

abbrev Front : ℕ → ℕ → List ℕ → Type 0
Front i b bs = with_byte false (ends_word bs) i b (words (i + 1) bs) ≡ record { place = i; bytes = b ∷ take (word_length bs) bs } ∷ words (i + 1 + word_length bs) (drop (word_length bs) bs)

front_by : (i b c : ℕ) (cs : List ℕ) → Front (i + 1) c cs → (t : Bool) → is_blank c ≡ t
    → with_byte false t i b (words (i + 1) (c ∷ cs)) ≡ record { place = i; bytes = b ∷ take (cond t 0 (suc (word_length cs))) (c ∷ cs) } ∷ words (i + 1 + cond t 0 (suc (word_length cs))) (drop
    (cond t 0 (suc (word_length cs))) (c ∷ cs))
front_by i b c cs ih true e = let k : i + 1 ≡ i + 1 + 0 = omega arith in ap (λ j. record { place = i; bytes = b ∷ [] } ∷ words j (c ∷ cs)) k
front_by i b c cs ih false e =
    let k : i + 1 + 1 + word_length cs ≡ i + 1 + suc (word_length cs) = omega arith in
    ap (with_byte false false i b) (ap (λ t. with_byte t (ends_word cs) (i + 1) c (words (i + 1 + 1) cs)) e ∙ ih)
    ∙ ap (λ j. record { place = i; bytes = b ∷ (c ∷ take (word_length cs) cs) } ∷ words j (drop (word_length cs) cs)) k

front : (i b : ℕ) (bs : List ℕ) → Front i b bs
front i b [] = refl
front i b (c ∷ cs) = front_by i b c cs (front (i + 1) c cs) (is_blank c) refl

words_at : (i b : ℕ) (bs : List ℕ) → is_blank b ≡ false → words i (b ∷ bs) ≡ record { place = i; bytes = b ∷ take (word_length bs) bs } ∷ words (i + 1 + word_length bs) (drop (word_length bs) bs)
words_at i b bs h = ap (λ t. with_byte t (ends_word bs) i b (words (i + 1) bs)) h ∙ front i b bs

take_whole : (k : ℕ) (xs : List ℕ) → length xs ≤ k → take k xs ≡ xs
take_whole zero [] h = refl
take_whole (suc k) [] h = refl
take_whole zero (x ∷ xs) h = absurd (omega (arith, h))
take_whole (suc k) (x ∷ xs) h = ap (λ ys. x ∷ ys) (take_whole k xs (omega (arith, h)))

-- the rest of the text as the code cuts it
pub rest_is : (bytes : List ℕ) (i : ℕ) → take (length bytes - i) (drop i bytes) ≡ drop i bytes
rest_is bytes i = take_whole (length bytes - i) (drop i bytes) (omega (arith, length-drop i bytes))

-- a blank at place i
pub blank_at : (bytes : List ℕ) (i : ℕ) → i < length bytes → is_blank (get_or bytes i 0) ≡ true → words i (drop i bytes) ≡ words (i + 1) (drop (i + 1) bytes)
blank_at bytes i l h = ap (words i) (drop_more bytes i 0 l) ∙ ap (λ t. with_byte t (ends_word (drop (i + 1) bytes)) i (get_or bytes i 0) (words (i + 1) (drop (i + 1) bytes))) h

-- a word at place i
pub word_at : (bytes : List ℕ) (i k : ℕ) → i < length bytes → is_blank (get_or bytes i 0) ≡ false → k ≡ word_length (drop i bytes)
    → words i (drop i bytes) ≡ record { place = i; bytes = take k (drop i bytes) } ∷ words (i + k) (drop (i + k) bytes)
word_at bytes i k l h e =
    let m = word_length (drop (i + 1) bytes) in
    let d = drop_more bytes i 0 l in
    let s : k ≡ suc m = e ∙ ap word_length d ∙ ap (λ t. cond t 0 (suc m)) h in
    let far : i + 1 + m ≡ i + k = omega (arith, s) in
    ap (words i) d ∙ words_at i (get_or bytes i 0) (drop (i + 1) bytes) h
    ∙ ap (λ n. record { place = i; bytes = take n (get_or bytes i 0 ∷ drop (i + 1) bytes) } ∷ words (i + 1 + m) (drop m (drop (i + 1) bytes))) (sym s)
    ∙ ap (λ bs. record { place = i; bytes = take k bs } ∷ words (i + 1 + m) (drop m (drop (i + 1) bytes))) (sym d)
    ∙ ap (λ bs. record { place = i; bytes = take k (drop i bytes) } ∷ words (i + 1 + m) bs) (drop-drop m (i + 1) bytes)
    ∙ ap (λ n. record { place = i; bytes = take k (drop i bytes) } ∷ words n (drop n bytes)) far

pub word_long : (bytes : List ℕ) (i k : ℕ) → i < length bytes → is_blank (get_or bytes i 0) ≡ false → k ≡ word_length (drop i bytes) → 0 < k
word_long bytes i k l h e =
    let s : k ≡ suc (word_length (drop (i + 1) bytes)) = e ∙ ap word_length (drop_more bytes i 0 l) ∙ ap (λ t. cond t 0 (suc (word_length (drop (i + 1) bytes)))) h in omega (arith, s)

pub word_within : (bs : List ℕ) → word_length bs ≤ length bs
word_within [] = omega arith
word_within (b ∷ bs) = by (is_blank b) (word_within bs)
  where
    by : (t : Bool) → word_length bs ≤ length bs → cond t 0 (suc (word_length bs)) ≤ length (b ∷ bs)
    by true h = omega arith
    by false h = omega (arith, h)

until_blank : (bs : List ℕ) → position_or_len is_blank bs ≡ word_length bs
until_blank [] = refl
until_blank (b ∷ bs) = by (is_blank b) (until_blank bs)
  where
    by : (t : Bool) → position_or_len is_blank bs ≡ word_length bs → cond (not t) (1 + position_or_len is_blank bs) 0 ≡ cond t 0 (suc (word_length bs))
    by true h = refl
    by false h = omega (arith, h)

some_of : (t : Bool) (k j : ℕ) → cond t (Some k) None ≡ Some j → (t ≡ true) × (k ≡ j)
some_of true k j h = (refl, cc)
some_of false k j h = absurd cc

none_of : (t : Bool) (k : ℕ) → cond t (Some k) None ≡ None → t ≡ false
none_of true k h = absurd cc
none_of false k h = refl

pub blank_found : (bs : List ℕ) (k : ℕ) → Some k ≡ position is_blank bs → k ≡ word_length bs
blank_found bs k h = sym (some_of _ _ k (sym h)).1 ∙ until_blank bs

pub no_blank : (bs : List ℕ) → None ≡ position is_blank bs → length bs ≡ word_length bs
no_blank bs h =
    let t = ltb-false (position_or_len is_blank bs) (length bs) (none_of _ _ (sym h)) in omega (arith, t, until_blank bs, word_within bs)

pub found_within : (p : ℕ → Bool) (bs : List ℕ) (k : ℕ) → Some k ≡ position p bs → k < length bs
found_within p bs k h = let s = some_of _ _ k (sym h) in omega (arith, ltb-true _ _ s.0, s.1)

-- ---- numbers

no_number : (t : Bool) (o : Option ℕ) → o ≡ None → cond t o None ≡ None
no_number true o h = h
no_number false o h = refl

module _ (ds : List ℕ) (i v : ℕ) (same : value_from v (drop i ds) ≡ value_from 0 ds) where
  next_value : i < length ds → value_from v (drop i ds) ≡ cond (is_digit (get_or ds i 0)) (value_from (10 * v + (get_or ds i 0 - 48)) (drop (i + 1) ds)) None
  next_value l = ap (value_from v) (drop_more ds i 0 l)

  -- a byte that is no digit
  pub not_digit : i < length ds → is_digit (get_or ds i 0) ≡ false → number_of ds ≡ None
  not_digit l h = no_number _ _ (ap in_range (sym same ∙ next_value l ∙ ap (λ t. cond t (value_from (10 * v + (get_or ds i 0 - 48)) (drop (i + 1) ds)) None) h))

  -- one more digit
  pub one_digit : (w : ℕ) → i < length ds → is_digit (get_or ds i 0) ≡ true → w ≡ 10 * v + (get_or ds i 0 - 48) → value_from w (drop (i + 1) ds) ≡ value_from 0 ds
  one_digit w l h e = ap (λ w. value_from w (drop (i + 1) ds)) e ∙ sym (ap (λ t. cond t (value_from (10 * v + (get_or ds i 0 - 48)) (drop (i + 1) ds)) None) h) ∙ sym (next_value l) ∙ same

too_great : (v : ℕ) (ds : List ℕ) → 2 ^ 32 ≤ v → in_range (value_from v ds) ≡ None
too_great v [] h = by (nat_lt v (2 ^ 32)) (λ t. let l = ltb-true v (2 ^ 32) t in omega (arith, h, l))
  where
    by : (t : Bool) → (t ≡ true → ⊥) → cond t (Some v) None ≡ None
    by true n = absurd (n refl)
    by false n = refl
too_great v (d ∷ ds) h = by (is_digit d) (too_great (10 * v + (d - 48)) ds (omega (arith, h)))
  where
    by : (t : Bool) → in_range (value_from (10 * v + (d - 48)) ds) ≡ None → in_range (cond t (value_from (10 * v + (d - 48)) ds) None) ≡ None
    by true k = k
    by false k = refl

pub number_too_great : (ds : List ℕ) (i v : ℕ) → value_from v (drop i ds) ≡ value_from 0 ds → 2 ^ 32 ≤ v → number_of ds ≡ None
number_too_great ds i v same h = no_number _ _ (ap in_range (sym same) ∙ too_great v (drop i ds) h)

in_range_is : (v : ℕ) → v < 2 ^ 32 → in_range (Some v) ≡ Some v
in_range_is v h = ap (λ t. cond t (Some v) None) (lt-ltb v (2 ^ 32) h)

pub no_digits_left : (i : ℕ) (ds : List ℕ) → length ds ≤ i → drop i ds ≡ []
no_digits_left zero [] h = refl
no_digits_left zero (d ∷ ds) h = absurd (omega (arith, h))
no_digits_left (suc i) [] h = refl
no_digits_left (suc i) (d ∷ ds) h = no_digits_left i ds (omega (arith, h))

pub whole_number : (ds : List ℕ) (i v : ℕ) → value_from v (drop i ds) ≡ value_from 0 ds → length ds ≤ i → v < 2 ^ 32 → 0 < length ds → length ds ≤ 10 → Some v ≡ number_of ds
whole_number ds i v same l fits some few =
    sym (ap (λ t. cond (t && nat_le (length ds) 10) (in_range (value_from 0 ds)) None) (lt-ltb 0 (length ds) some)
    ∙ ap (λ t. cond t (in_range (value_from 0 ds)) None) (le-leb (length ds) 10 few)
    ∙ ap in_range (sym same ∙ ap (value_from v) (no_digits_left i ds l)) ∙ in_range_is v fits)

pub too_long : (ds : List ℕ) → 10 < length ds → number_of ds ≡ None
too_long ds h = by (nat_lt 0 (length ds)) (nat_le (length ds) 10) (λ t. let l = leb-true (length ds) 10 t in omega (arith, h, l))
  where
    by : (s t : Bool) → (t ≡ true → ⊥) → cond (s && t) (in_range (value_from 0 ds)) None ≡ None
    by false t n = refl
    by true true n = absurd (n refl)
    by true false n = refl

-- ---- the schedule

pub entry_fits : (n made place : ℕ) (o : Option Entry) (e : Entry) → Ok e ≡ admitted_entry n made place o → (e.proc < n) × (made + e.times ≤ 1000000)
entry_fits n made place None e h = absurd cc
entry_fits n made place (Some f) e h = by (nat_lt f.proc n) (nat_le (made + f.times) 1000000) (ltb-true f.proc n) (leb-true (made + f.times) 1000000) h
  where
    by : (s t : Bool) → (s ≡ true → f.proc < n) → (t ≡ true → made + f.times ≤ 1000000) → Ok e ≡ cond s (cond t (Ok f) (Err (TooMany place))) (Err (NoProcess place))
        → (e.proc < n) × (made + e.times ≤ 1000000)
    by true true p q h = let k : f ≡ e = cc in subst (λ (e : Entry). (e.proc < n) × (made + e.times ≤ 1000000)) k (p refl, q refl)
    by true false p q h = absurd cc
    by false t p q h = absurd cc

after_followed : (ts : List Turn) (e : Entry) (r : Result (List Entry) ScheduleFault) → after_turns ts (followed e r) ≡ after_turns (ts ++ replicate e.times (turn_of e)) r
after_followed ts e (Ok es) = ap Ok (sym (append_assoc ts (replicate e.times (turn_of e)) (turns_in es)))
after_followed ts e (Err fault) = refl

by_first : (n made : ℕ) (w : Word) (ws : List Word) (r : Result Entry ScheduleFault) → admitted n made w ≡ r
    → entries n made (w ∷ ws) ≡ elim r as (λ r. Result (List Entry) ScheduleFault) [ Ok e ↦ followed e (entries n (made + e.times) ws) | Err fault ↦ Err fault ]
by_first n made w ws r h = ap (λ (r : Result Entry ScheduleFault). elim r as (λ r. Result (List Entry) ScheduleFault) [ Ok e ↦ followed e (entries n (made + e.times) ws) | Err fault ↦ Err fault ]) h

pub first_bad : (n made : ℕ) (ts : List Turn) (w : Word) (ws all : List Word) (fault : ScheduleFault) → all ≡ w ∷ ws → admitted n made w ≡ Err fault → after_turns ts (entries n made all) ≡ Err fault
first_bad n made ts w ws all fault is h = ap (λ all. after_turns ts (entries n made all)) is ∙ ap (after_turns ts) (by_first n made w ws (Err fault) h)

pub first_good : (n made more : ℕ) (ts us : List Turn) (w : Word) (ws all : List Word) (e : Entry) → all ≡ w ∷ ws → admitted n made w ≡ Ok e → us ≡ ts ++ replicate e.times (turn_of e)
    → more ≡ made + e.times → after_turns us (entries n more ws) ≡ after_turns ts (entries n made all)
first_good n made more ts us w ws all e is h us_is more_is =
    ap (λ us. after_turns us (entries n more ws)) us_is ∙ ap (λ k. after_turns (ts ++ replicate e.times (turn_of e)) (entries n k ws)) more_is
    ∙ sym (ap (λ all. after_turns ts (entries n made all)) is ∙ ap (after_turns ts) (by_first n made w ws (Ok e) h) ∙ after_followed ts e (entries n (made + e.times) ws))

pub code_ends_within : (bytes : List ℕ) (i k : ℕ) → i < length bytes → k ≡ word_length (take (length bytes - i) (drop i bytes)) → i + k ≤ length bytes
code_ends_within bytes i k l long = omega (arith, long ∙ ap word_length (rest_is bytes i), word_within (drop i bytes), length-drop i bytes, l)

-- the word at a place, as the code sees it
module _ (n : ℕ) (ts : List Turn) (bytes : List ℕ) (i k made : ℕ) (word : Option Entry) (r : Result Entry ScheduleFault)
    (same : after_turns ts (entries n (length ts) (words i (drop i bytes))) ≡ text_turns n bytes) (l : i < length bytes) (h : is_blank (get_or bytes i 0) ≡ false)
    (long : k ≡ word_length (take (length bytes - i) (drop i bytes))) (is : word ≡ spelled (take (i + k - i) (drop i bytes))) (made_is : made ≡ length ts)
    (told : r ≡ admitted_entry n made i word) where
  long_is : k ≡ word_length (drop i bytes)
  long_is = long ∙ ap word_length (rest_is bytes i)

  first : words i (drop i bytes) ≡ record { place = i; bytes = take k (drop i bytes) } ∷ words (i + k) (drop (i + k) bytes)
  first = word_at bytes i k l h long_is

  answer : admitted n (length ts) (record { place = i; bytes = take k (drop i bytes) }) ≡ r
  answer =
      let e : k ≡ i + k - i = omega arith in
      sym (told ∙ ap (λ m. admitted_entry n m i word) made_is ∙ ap (admitted_entry n (length ts) i) (is ∙ ap (λ j. spelled (take j (drop i bytes))) (sym e)))

  pub bad_at : (fault : ScheduleFault) → r ≡ Err fault → text_turns n bytes ≡ Err fault
  bad_at fault e = sym same ∙ first_bad n (length ts) ts (record { place = i; bytes = take k (drop i bytes) }) _ _ fault first (answer ∙ e)

  pub good_at : (e : Entry) (us : List Turn) → r ≡ Ok e → us ≡ ts ++ replicate e.times (turn_of e) → after_turns us (entries n (length us) (words (i + k) (drop (i + k) bytes))) ≡ text_turns n bytes
  good_at e us ok us_is =
      first_good n (length ts) (length us) ts us (record { place = i; bytes = take k (drop i bytes) }) _ _ e first (answer ∙ ok) us_is
      (ap length us_is ∙ length-append ts (replicate e.times (turn_of e)) ∙ ap (λ m. length ts + m) (length-replicate e.times (turn_of e)))
      ∙ same

  pub good_few : (e : Entry) (us : List Turn) → r ≡ Ok e → us ≡ ts ++ replicate e.times (turn_of e) → length us ≤ 1000000
  good_few e us ok us_is =
      let f = entry_fits n made i word e (sym ok ∙ told) in
      omega (arith, f.1, made_is, ap length us_is, length-append ts (replicate e.times (turn_of e)), length-replicate e.times (turn_of e))

-- so many of the same turn
pub same_turns_start : (t : Turn) (ts : List Turn) (k : ℕ) → ts ++ replicate (k - 0) t ≡ ts ++ replicate k t
same_turns_start t ts k = let e : k - 0 ≡ k = omega arith in ap (λ j. ts ++ replicate j t) e

pub same_turns_more : (t : Turn) (ts us all : List Turn) (k i : ℕ) → i < k → us ≡ ts ++ t ∷ [] → ts ++ replicate (k - i) t ≡ all → us ++ replicate (k - (i + 1)) t ≡ all
same_turns_more t ts us all k i l is h =
    let e : k - i ≡ suc (k - (i + 1)) = omega (arith, l) in
    ap (λ us. us ++ replicate (k - (i + 1)) t) is ∙ append_assoc ts (t ∷ []) (replicate (k - (i + 1)) t) ∙ sym (ap (λ j. ts ++ replicate j t) e) ∙ h

pub same_turns_all : (t : Turn) (ts all : List Turn) (k i : ℕ) → k ≤ i → ts ++ replicate (k - i) t ≡ all → ts ≡ all
same_turns_all t ts all k i l h = let e : k - i ≡ 0 = omega (arith, l) in sym (ap (λ j. ts ++ replicate j t) e ∙ append-nil ts) ∙ h
