-- The front of a line that a buffer keeps.
use Rattle.std.proofs.Common.{◌≡◌, ℕ, zero, suc, ◌+◌, ◌<◌, ◌≤◌, min, Bool, true, false, List, [], ◌∷◌, ◌++◌, length, take, set, get_or, refl, sym, ap, ◌∙◌, arith, cond, length-take}
use Rattle.std.specs.Prelude.{◌==◌, nat_lt, Some, None}
use Rattle.std.proofs.lemmas.Bool.{ltb-true, ltb-false, lt-ltb, le-ltb, eq-eqb, ne_eqb, lt-leb}
use Rattle.std.proofs.lemmas.List.{take_all, take-append-le, take_more_set, length_push}
use Rattle.nm_top.specs.Debugging.{without_return}
use Rattle.nm_top.specs.private.LineFronts.{Front, front_of, short}

-- ---- the carriage return

pub return_dropped : (line : List ℕ) (n : ℕ) → n + 1 ≡ length line → get_or line n 0 ≡ 13 → take n line ≡ without_return line
return_dropped [] n e at = absurd (omega arith)
return_dropped (b ∷ []) zero e at = sym (ap (λ t. cond t [] (b ∷ [])) (eq-eqb b 13 at))
return_dropped (b ∷ []) (suc n) e at = absurd (omega arith)
return_dropped (b ∷ c ∷ line) zero e at = absurd (omega arith)
return_dropped (b ∷ c ∷ line) (suc n) e at = ap (λ xs. b ∷ xs) (return_dropped (c ∷ line) n (omega arith) at)

pub return_kept : (line : List ℕ) (n : ℕ) → n + 1 ≡ length line → (get_or line n 0 ≡ 13 → ⊥) → line ≡ without_return line
return_kept [] n e at = absurd (omega arith)
return_kept (b ∷ []) zero e at = sym (ap (λ t. cond t [] (b ∷ [])) (ne_eqb b 13 at))
return_kept (b ∷ []) (suc n) e at = absurd (omega arith)
return_kept (b ∷ c ∷ line) zero e at = absurd (omega arith)
return_kept (b ∷ c ∷ line) (suc n) e at = ap (λ xs. b ∷ xs) (return_kept (c ∷ line) n (omega arith) at)

pub none_kept : (line : List ℕ) → length line ≤ 0 → line ≡ without_return line
none_kept [] e = refl
none_kept (b ∷ line) e = absurd (omega arith)

one_kept : (t : Bool) (b : ℕ) → 1 ≤ length (cond t [] (b ∷ [])) + 1
one_kept true b = omega arith
one_kept false b = omega arith

pub length_without : (line : List ℕ) → length line ≤ length (without_return line) + 1
length_without [] = omega arith
length_without (b ∷ []) = one_kept (b == 13) b
length_without (b ∷ c ∷ line) = omega (arith, length_without (c ∷ line))

-- ---- what is kept

pub some_kept : (bytes line : List ℕ) (len : ℕ) (more : Bool) → length bytes ≡ 256 → len ≤ 256
    → record { bytes = take len bytes; more = more } ≡ front_of line → len ≡ min 256 (length line)
some_kept bytes line len more size within is =
    let e : length (take len bytes) ≡ length (take 256 line) = ap (λ f. length f.bytes) is in
    omega (arith, e, length-take len bytes, length-take 256 line)

pub short_more : (bytes line : List ℕ) (len b : ℕ) (more : Bool) → length bytes ≡ 256 → len < 256
    → record { bytes = take len bytes; more = more } ≡ front_of line
    → record { bytes = take (len + 1) (set bytes len b); more = more } ≡ front_of (line ++ b ∷ [])
short_more bytes line len b more size within is =
    let at : len ≡ min 256 (length line) = some_kept bytes line len more size (omega arith) is in
    let grown : length (line ++ b ∷ []) ≡ length line + 1 = length_push line b in
    let whole : take 256 line ≡ line = take_all 256 line (omega (arith, at)) in
    let wide : take 256 (line ++ b ∷ []) ≡ line ++ b ∷ [] = take_all 256 (line ++ b ∷ []) (omega (arith, at, grown)) in
    let front : take len bytes ≡ line = ap (λ f. f.bytes) is ∙ whole in
    let bytes' : take (len + 1) (set bytes len b) ≡ take 256 (line ++ b ∷ []) =
    take_more_set bytes len b (omega (arith, size)) ∙ ap (λ xs. xs ++ b ∷ []) front ∙ sym wide in
    let no : nat_lt 256 (length line) ≡ false = le-ltb 256 (length line) (omega (arith, at)) in
    let still : nat_lt 256 (length (line ++ b ∷ [])) ≡ false = le-ltb 256 (length (line ++ b ∷ [])) (omega (arith, at, grown)) in
    let more' : more ≡ nat_lt 256 (length (line ++ b ∷ [])) = ap (λ f. f.more) is ∙ no ∙ sym still in
    ap (λ xs. let f : Front = record { bytes = xs; more = more } in f) bytes' ∙ ap (λ t. let f : Front = record { bytes = take 256 (line ++ b ∷ []); more = t } in f) more'

pub long_more : (bytes line : List ℕ) (len b : ℕ) (more : Bool) → length bytes ≡ 256 → len ≤ 256 → 256 ≤ len
    → record { bytes = take len bytes; more = more } ≡ front_of line
    → record { bytes = take len bytes; more = true } ≡ front_of (line ++ b ∷ [])
long_more bytes line len b more size within full is =
    let at : len ≡ min 256 (length line) = some_kept bytes line len more size within is in
    let grown : length (line ++ b ∷ []) ≡ length line + 1 = length_push line b in
    let bytes' : take len bytes ≡ take 256 (line ++ b ∷ []) = ap (λ f. f.bytes) is ∙ sym (take-append-le 256 line (b ∷ []) (omega (arith, at))) in
    let yes : nat_lt 256 (length (line ++ b ∷ [])) ≡ true = lt-ltb 256 (length (line ++ b ∷ [])) (omega (arith, at, grown)) in
    ap (λ xs. let f : Front = record { bytes = xs; more = true } in f) bytes' ∙ ap (λ t. let f : Front = record { bytes = take 256 (line ++ b ∷ []); more = t } in f) (sym yes)

-- ---- the line that is kept

pub whole_line : (xs line : List ℕ) (more : Bool) → more ≡ false → record { bytes = xs; more = more } ≡ front_of line → xs ≡ line
whole_line xs line more e is =
    let no : nat_lt 256 (length line) ≡ false = sym (ap (λ f. f.more) is) ∙ e in
    ap (λ f. f.bytes) is ∙ take_all 256 line (ltb-false 256 (length line) no)

pub long_line : (xs line : List ℕ) (more : Bool) → more ≡ true → record { bytes = xs; more = more } ≡ front_of line → 257 ≤ length line
long_line xs line more e is =
    let yes : nat_lt 256 (length line) ≡ true = sym (ap (λ f. f.more) is) ∙ e in
    let k = ltb-true 256 (length line) yes in
    omega (arith, k)

pub not_short : (line : List ℕ) → 256 ≤ length line → None ≡ short line
not_short line long = sym (ap (λ t. cond t (Some line) None) (lt-leb (length line) 255 (omega (arith, long))))
