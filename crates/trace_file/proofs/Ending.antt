-- The end of a file, and the whole file.
use Rattle.std.proofs.Common.{◌≡◌, ℕ, zero, suc, ◌+◌, ◌*◌, ◌≤◌, true, not, ltb, List, [], ◌∷◌, ◌++◌, length, get_or, take, drop, sum, Result, Ok, Err, refl, sym, ap, subst, ◌∙◌, arith, append_assoc, length-append, length-drop}
use Rattle.std.specs.List.{flat_map}
use Rattle.std.specs.Str.{bytes_eq}
use Rattle.std.proofs.lemmas.Bool.{ltb-false}
use Rattle.std.proofs.lemmas.List.{append-nil, drop-drop, take_at}
use Rattle.std.proofs.lemmas.Slice.Eq.{bytes_eq-Decides}
use Rattle.sha2.specs.Sha256.{sha256}
use Rattle.nm_base.specs.declared.limits.TheConstants.{MAX_EVENTS}
use Rattle.trace_file.specs.declared.fault.TraceFault.{TraceFault}
use Rattle.trace_file.specs.declared.fault.TraceFault.TheVariants as faults
use Rattle.trace_file.specs.declared.item.Item.TheVariants.{End}
use Rattle.trace_file.specs.Content.{Content}
use Rattle.trace_file.specs.Bytes.{front, number, counts_part, end_part, ended, spelling}
use Rattle.trace_file.specs.Rules.{AreCounts}
use Rattle.trace_file.specs.Reading.{Damage, word_at, counts_at, end_at, FailsAs}
use Rattle.trace_file.specs.private.Places.{EndsAt}
use Rattle.trace_file.specs.Outcomes.{IsSpelling, TellsDamage}
use Rattle.trace_file.specs.Outcomes.IsDamage.{in_end}
use Rattle.trace_file.proofs.Cells.{IsBytes, IsBytes-drop, drop_cells, word_back}
use Rattle.trace_file.proofs.Counts.{length_counts}
use Rattle.trace_file.proofs.Shapes.{guard_ok, is_true}
use Rattle.trace_file.proofs.Passing.{next_is}

pub counts_spelled : (n : ℕ) (bytes : List ℕ) → IsBytes bytes → 4 * n ≤ length bytes → bytes ≡ flat_map number (counts_at n bytes) ++ drop (4 * n) bytes
counts_spelled zero bytes fits le = refl
counts_spelled (suc n) bytes fits le =
    let tail = drop 4 bytes in
    let long : 4 ≤ length bytes = omega arith in
    let more : 4 * n ≤ length tail = omega (arith, length-drop 4 bytes) in
    let size : 4 + 4 * n ≡ 4 * suc n = omega arith in
    drop_cells 4 0 4 bytes refl long
    ∙ ap (λ (xs : List ℕ). xs ++ tail) (sym (word_back bytes 0 fits))
    ∙ ap (λ (xs : List ℕ). number (word_at bytes 0) ++ xs) (counts_spelled n tail (IsBytes-drop 4 bytes fits) more
    ∙ ap (λ (xs : List ℕ). flat_map number (counts_at n tail) ++ xs) (drop-drop (4 * n) 4 bytes ∙ ap (λ (k : ℕ). drop k bytes) size))
    ∙ sym (append_assoc (number (word_at bytes 0)) (flat_map number (counts_at n tail)) (drop (4 * suc n) bytes))

pub length_numbers : (cs : List ℕ) → length (flat_map number cs) ≡ 4 * length cs
length_numbers [] = refl
length_numbers (c ∷ cs) = length-append (number c) (flat_map number cs) ∙ omega (arith, length_numbers cs)

abbrev counted : List ℕ → Result (List ℕ) Damage
counted cs = Ok cs

same_counts : (a b : List ℕ) → counted a ≡ counted b → a ≡ b
same_counts a b e = cc

same_bytes : (a b : List ℕ) → bytes_eq a b ≡ true → a ≡ b
same_bytes a b e = (bytes_eq-Decides a b).0 e

pub whole : (xs : List ℕ) (k : ℕ) → length xs ≡ k → take k xs ≡ xs
whole xs k e = ap (take k) (sym (append-nil xs)) ∙ take_at xs [] k e

pub ending : (n : ℕ) (before rest counts : List ℕ) → IsBytes rest → get_or rest 0 0 ≡ 3 → end_at n before rest ≡ Ok counts
    → (before ++ rest ≡ ended before counts) × AreCounts n counts
unfolding end_at
ending n before rest counts fits tag e =
    let len = 1 + 4 * n in
    let cs = counts_at n (drop 1 rest) in
    let g1 = guard_ok (ltb (length rest) (len + 32)) _ _ counts e in
    let g2 = guard_ok (ltb MAX_EVENTS (sum cs)) _ _ counts g1.1 in
    let g3 = guard_ok (not (bytes_eq (take 32 (drop len rest)) (sha256 (before ++ take len rest)))) _ _ counts g2.1 in
    let g4 = guard_ok (ltb (len + 32) (length rest)) _ _ counts g3.1 in
    let long : len + 32 ≤ length rest = ltb-false _ _ g1.0 in
    let short : length rest ≤ len + 32 = ltb-false _ _ g4.0 in
    let p : List ℕ = 3 ∷ flat_map number cs in
    let one : 1 ≤ length rest = omega (arith, long) in
    let four : 4 * n ≤ length (drop 1 rest) = omega (arith, long, length-drop 1 rest) in
    let parts : rest ≡ p ++ drop len rest =
    drop_cells 1 0 1 rest refl one ∙ ap (λ (t : ℕ). t ∷ drop 1 rest) tag
    ∙ ap (λ (xs : List ℕ). 3 ∷ xs) (counts_spelled n (drop 1 rest) (IsBytes-drop 1 rest fits) four ∙ ap (λ (xs : List ℕ). flat_map number cs ++ xs) (drop-drop (4 * n) 1 rest)) in
    let p_len : length p ≡ len = omega (arith, length_numbers cs, length_counts n (drop 1 rest)) in
    let body : take len rest ≡ p = ap (take len) parts ∙ take_at p (drop len rest) len p_len in
    let last_len : length (drop len rest) ≡ 32 = omega (arith, length-drop len rest, long, short) in
    let last : drop len rest ≡ sha256 (before ++ p) =
    sym (whole (drop len rest) 32 last_len) ∙ same_bytes _ _ (is_true _ g3.0) ∙ ap (λ (xs : List ℕ). sha256 (before ++ xs)) body in
    let is : cs ≡ counts = same_counts cs counts g4.1 in
    subst (λ (cs : List ℕ). (before ++ rest ≡ ended before cs) × AreCounts n cs) is (
      ap (λ (xs : List ℕ). before ++ xs) (parts ∙ ap (λ (xs : List ℕ). p ++ xs) last) ∙ sym (append_assoc before p (sha256 (before ++ p))),
      record { each = length_counts n (drop 1 rest); sum = ltb-false _ _ g2.0 },
    )

-- what a failed end tells
pub end_fault : (t : Content) (place : ℕ) (bytes : List ℕ) (e : TraceFault) → EndsAt t place bytes → FailsAs e (end_at t.n (front t) (drop place bytes)) → TellsDamage bytes e
end_fault t place bytes (faults.Damage kind p) at e = in_end t (drop place bytes) at.before.rules at.before.split at.tag e
end_fault t place bytes faults.Memory at e = tt

abbrev pub with_counts : Content → List ℕ → Content
with_counts t counts = record { version = t.version; mask = t.mask; n = t.n; digest = t.digest; notes = t.notes; lost = t.lost; counts = counts }

-- t and its counts are spelled by the bytes
pub is_whole : (t : Content) (place : ℕ) (bytes counts : List ℕ) → IsBytes bytes → EndsAt t place bytes → end_at t.n (front t) (drop place bytes) ≡ Ok counts → IsSpelling (with_counts t counts) bytes
unfolding front
is_whole t place bytes counts fits at e =
    let end = ending t.n (front t) (drop place bytes) counts (IsBytes-drop place bytes fits) (next_is t (drop place bytes) End at.tag) e in
    let h = at.before.rules.header in
    record {
      rules = record { front = record { header = record { version = h.version; some = h.some; few = h.few; digest = h.digest }; notes = at.before.rules.notes; lost = at.before.rules.lost }; counts = end.1 };
      spelled = at.before.split ∙ end.0;
    }

pub end_here : (t : Content) (place : ℕ) (bytes before rest : List ℕ) (r : Result (List ℕ) Damage) → EndsAt t place bytes → before ≡ take place bytes
    → rest ≡ drop place bytes → end_at t.n before rest ≡ r
    → end_at t.n (front t) (drop place bytes) ≡ r
end_here t place bytes before rest r at b is e =
    let front_is : take place bytes ≡ front t = ap (take place) at.before.split ∙ take_at (front t) (drop place bytes) place (sym at.before.place_is) in
    sym (ap (λ (xs : List ℕ). end_at t.n xs rest) (b ∙ front_is) ∙ ap (λ (xs : List ℕ). end_at t.n (front t) xs) is) ∙ e

pub end_fault_here : (t : Content) (place : ℕ) (bytes before rest : List ℕ) (e : TraceFault) → EndsAt t place bytes → before ≡ take place bytes
    → rest ≡ drop place bytes → FailsAs e (end_at t.n before rest) → TellsDamage bytes e
end_fault_here t place bytes before rest (faults.Damage kind p) at b is e = end_fault t place bytes (faults.Damage kind p) at (end_here t place bytes before rest (Err (kind, p)) at b is e)
end_fault_here t place bytes before rest faults.Memory at b is e = tt

-- what a writer writes is the spelling
pub end_spelled : (t : Content) → front t ++ end_part (front t) t.counts ≡ spelling t
end_spelled t = sym (append_assoc (front t) (counts_part t.counts) (sha256 (front t ++ counts_part t.counts)))
