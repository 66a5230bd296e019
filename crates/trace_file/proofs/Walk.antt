-- Bytes stand for one thing alone: what they spell, or their damage.
use Rattle.std.proofs.Common.{◌≡◌, add-zero, zero-add, ℕ, zero, suc, ◌+◌, ◌*◌, ◌<◌, ◌≤◌, ◌^◌, false, cond, not, ◌||◌, ◌&&◌, eqb, ltb, List, [], ◌∷◌, ◌++◌, length, take, drop, sum, Option, Some, None, Result, Ok, Err, refl, sym, ap, subst, ◌∙◌, arith, append_assoc, length-append, inl, inr}
use Rattle.std.specs.Prelude.{IfOk, IfErr}
use Rattle.std.specs.List.{flat_map}
use Rattle.std.proofs.lemmas.Bool.{le-ltb, lt-ltb, ne_eqb}
use Rattle.std.proofs.lemmas.List.{drop-drop, take_at, drop_at, get_or-drop, get_or_past}
use Rattle.std.proofs.lemmas.Nat.{from_be_bytes-to_be_bytes_4}
use Rattle.nm_base.specs.declared.limits.TheConstants.{MAX_EVENTS, MAX_PROCESSES}
use Rattle.nm_base.specs.Fitting.{EachFits}
use Rattle.nm_base.specs.Fitting.EachFits.{none, more}
use Rattle.nm_base.specs.declared.letter.LetterId.{LetterId}
use Rattle.nm_base.specs.declared.letter.AcceptNote.{AcceptNote}
use Rattle.trace_file.specs.declared.fault.DamageKind.TheVariants.{Short, Process}
use Rattle.trace_file.specs.declared.fault.TraceFault.{TraceFault}
use Rattle.trace_file.specs.declared.fault.TraceFault.TheVariants as faults
use Rattle.trace_file.specs.declared.item.Item.{Item}
use Rattle.trace_file.specs.declared.item.Item.TheVariants.{Note, Lost, End}
use Rattle.trace_file.specs.Content.{Content, count_of}
use Rattle.trace_file.specs.Bytes.{front, header, mask_bytes, number, note, lost_entry}
use Rattle.trace_file.specs.Rules.{IsFront, IsHeader, IsVersion, AreCounts, IsTrace, FitsNote, FitsLost, is_late_note, is_named}
use Rattle.trace_file.specs.Reading.{Damage, header_at, header_len, note_shape, lost_shape, shape_at, ranked, item_at, word_at, counts_at, end_at, ReadsAs, ◌>>=◌}
use Rattle.trace_file.specs.private.Places.{with_entries}
use Rattle.trace_file.specs.Outcomes.{IsDamage, IsSpelling, TellsDamage}
use Rattle.trace_file.specs.private.Found.{HasReading}
use Rattle.trace_file.specs.Outcomes.IsDamage.{in_header, in_entry, in_end}
use Rattle.trace_file.proofs.Cells.{note_again, lost_again}
use Rattle.trace_file.proofs.Marks.{passed, neither}
use Rattle.trace_file.proofs.Passing.{flat_more}
use Rattle.trace_file.proofs.Ending.{with_counts, length_numbers, whole}
use Rattle.std.proofs.lemmas.List.Sums.{sum_by-cons}
use Rattle.std.specs.Str.{bytes_eq}
use Rattle.std.proofs.lemmas.Slice.Eq.{bytes_eq-Decides}
use Rattle.sha2.specs.Sha256.{sha256}
use Rattle.sha2.proofs.Facts256.{length-sha256}

-- ---- an item that was written is read

not_zero : (n : ℕ) → eqb (suc n) 0 ≡ false
not_zero n = ne_eqb (suc n) 0 (λ e. omega arith)

below_true : (a b n : ℕ) → a < n → b < n → not (ltb a n && ltb b n) ≡ false
below_true a b n p q = rw (lt-ltb a n p, lt-ltb b n q) refl

one_below : (a n : ℕ) → a < n → not (ltb a n) ≡ false
one_below a n p = rw (lt-ltb a n p) refl

note_there : (t : Content) (a : AcceptNote) (rest : List ℕ) → t.lost ≡ [] → FitsNote t.n t.notes a → item_at t (note a ++ rest) ≡ Ok (Note a)
unfolding shape_at
note_there t a rest nothing fits =
    let place = length (front t) in
    let long : ltb (length (note a ++ rest)) 11 ≡ false = le-ltb _ _ (omega (arith, length-append (note a) rest)) in
    let again = note_again a rest fits.receive fits.letter.number in
    let shape : shape_at t.n place (note a ++ rest) ≡ Ok (Note a) =
    passed (eqb (length (note a ++ rest)) 0) (Err (Short, place)) (note_shape t.n place (note a ++ rest)) (ne_eqb _ 0 (λ e. omega (arith, length-append (note a) rest)))
    ∙ passed (ltb (length (note a ++ rest)) 11) (Err (Short, place + length (note a ++ rest))) _ long
    ∙ passed _ (Err (Process, place)) _ (below_true a.receiver.no a.id.sender.no t.n fits.receiver fits.letter.sender)
    ∙ ap (λ (b : AcceptNote). Ok (Note b)) again in
    let late : not (eqb (length t.lost) 0) || is_late_note t.notes a ≡ false = neither _ _ (ap (λ (xs : List LetterId). not (eqb (length xs) 0)) nothing) fits.rises in
    let fresh : is_named t.notes t.lost a.id ≡ false = subst (λ (xs : List LetterId). is_named t.notes xs a.id ≡ false) (sym nothing) fits.fresh in
    ap (λ (r : Result Item Damage). r >>= ranked t.notes t.lost place) shape ∙ passed _ _ _ late ∙ passed _ _ _ fresh

lost_there : (t : Content) (id : LetterId) (rest : List ℕ) → FitsLost t.n t.notes t.lost id → item_at t (lost_entry id ++ rest) ≡ Ok (Lost id)
unfolding shape_at
lost_there t id rest fits =
    let place = length (front t) in
    let long : ltb (length (lost_entry id ++ rest)) 6 ≡ false = le-ltb _ _ (omega (arith, length-append (lost_entry id) rest)) in
    let shape : shape_at t.n place (lost_entry id ++ rest) ≡ Ok (Lost id) =
    passed (eqb (length (lost_entry id ++ rest)) 0) (Err (Short, place)) (lost_shape t.n place (lost_entry id ++ rest)) (ne_eqb _ 0 (λ e. omega (arith, length-append (lost_entry id) rest)))
    ∙ passed (ltb (length (lost_entry id ++ rest)) 6) (Err (Short, place + length (lost_entry id ++ rest))) _ long
    ∙ passed _ (Err (Process, place)) _ (one_below id.sender.no t.n fits.letter.sender)
    ∙ ap (λ (b : LetterId). Ok (Lost b)) (lost_again id rest fits.letter.number) in
    ap (λ (r : Result Item Damage). r >>= ranked t.notes t.lost place) shape ∙ passed _ _ _ fits.rises ∙ passed _ _ _ fits.fresh

end_there : (t : Content) (rest : List ℕ) → item_at t (3 ∷ rest) ≡ Ok End
unfolding shape_at
end_there t rest = ap (λ (r : Result Item Damage). r >>= ranked t.notes t.lost (length (front t))) (passed _ _ _ (not_zero (length rest)))

-- ---- the counts and the digest

counts_again : (counts tail : List ℕ) → sum counts < 2 ^ 32 → counts_at (length counts) (flat_map number counts ++ tail) ≡ counts
counts_again [] tail lt = refl
counts_again (c ∷ cs) tail lt =
    let low : c < 2 ^ 32 = omega (arith, sum_by-cons (λ x. x) c cs) in
    let less : sum cs < 2 ^ 32 = omega (arith, sum_by-cons (λ x. x) c cs) in
    ap (λ (xs : List ℕ). counts_at (suc (length cs)) xs) (append_assoc (number c) (flat_map number cs) tail)
    ∙ ap (λ (n : ℕ). n ∷ counts_at (length cs) (flat_map number cs ++ tail)) (from_be_bytes-to_be_bytes_4 c low)
    ∙ ap (λ (xs : List ℕ). c ∷ xs) (counts_again cs tail less)

end_again : (n : ℕ) (before counts : List ℕ) → AreCounts n counts
    → end_at n before (3 ∷ (flat_map number counts ++ sha256 (before ++ 3 ∷ flat_map number counts))) ≡ Ok counts
unfolding end_at
end_again n before counts are =
    let len = 1 + 4 * n in
    let p : List ℕ = 3 ∷ flat_map number counts in
    let d = sha256 (before ++ p) in
    let rest = p ++ d in
    let p_len : length p ≡ len = omega (arith, length_numbers counts, are.each) in
    let d_len : length d ≡ 32 = length-sha256 (before ++ p) in
    let size : length rest ≡ len + 32 = length-append p d ∙ omega (arith, p_len, d_len) in
    let cs : counts_at n (drop 1 rest) ≡ counts = ap (λ (k : ℕ). counts_at k (flat_map number counts ++ d)) (sym are.each) ∙ counts_again counts d (omega (arith, are.sum)) in
    let body : take len rest ≡ p = take_at p d len p_len in
    let last : drop len rest ≡ d = drop_at p d len p_len in
    let tail : take 32 (drop len rest) ≡ sha256 (before ++ take len rest) =
    ap (take 32) last ∙ whole d 32 d_len ∙ ap (λ (xs : List ℕ). sha256 (before ++ xs)) (sym body) in
    passed (ltb (length rest) (len + 32)) _ _ (le-ltb _ _ (omega (arith, size)))
    ∙ passed (ltb MAX_EVENTS (sum (counts_at n (drop 1 rest)))) _ _ (le-ltb _ _ (omega (arith, are.sum, ap sum cs)))
    ∙ passed (not (bytes_eq (take 32 (drop len rest)) (sha256 (before ++ take len rest)))) _ _ (ap not ((bytes_eq-Decides _ _).1 tail))
    ∙ passed (ltb (len + 32) (length rest)) _ _ (le-ltb _ _ (omega (arith, size)))
    ∙ ap (λ (xs : List ℕ). Ok xs) cs

-- ---- the header

version_known : (v m : ℕ) → IsVersion v m → not (eqb v 1 || eqb v 2) ≡ false
version_known v m (inl e) = ap (λ (v : ℕ). not (eqb v 1 || eqb v 2)) e.0
version_known v m (inr e) = ap (λ (v : ℕ). not (eqb v 1 || eqb v 2)) e.0

word_at_drop : (xs : List ℕ) (n : ℕ) → word_at (drop n xs) 0 ≡ word_at xs n
word_at_drop xs n = rw (get_or-drop, get_or-drop, get_or-drop, get_or-drop, add-zero) refl

-- the mask that the bytes behind a header's digest give
mask_there : (v m : ℕ) (xs rest : List ℕ) → IsVersion v m → drop 38 xs ≡ mask_bytes v m ++ rest → (cond (eqb v 2) (word_at xs 38) 0 ≡ m) × (38 + length (mask_bytes v m) ≡ header_len v)
mask_there v m xs rest (inl e) split =
    subst (λ (v : ℕ). (cond (eqb v 2) (word_at xs 38) 0 ≡ m) × (38 + length (mask_bytes v m) ≡ header_len v)) (sym e.0) (sym e.1, refl)
mask_there v m xs rest (inr e) split =
    let behind : drop 38 xs ≡ number m ++ rest = split ∙ ap (λ (v : ℕ). mask_bytes v m ++ rest) e.0 in
    subst (λ (v : ℕ). (cond (eqb v 2) (word_at xs 38) 0 ≡ m) × (38 + length (mask_bytes v m) ≡ header_len v)) (sym e.0)
    (sym (word_at_drop xs 38) ∙ ap (λ (ys : List ℕ). word_at ys 0) behind ∙ from_be_bytes-to_be_bytes_4 m e.1, refl)

content_ap : (t : Content) (m : ℕ) (d : List ℕ) → m ≡ t.mask → d ≡ t.digest
    → record { version = t.version; mask = m; n = t.n; digest = d; notes = []; lost = []; counts = [] } ≡ with_entries t [] []
content_ap t m d e f =
    ap (λ (m : ℕ). record { version = t.version; mask = m; n = t.n; digest = d; notes = []; lost = []; counts = [] }) e
    ∙ ap (λ (d : List ℕ). record { version = t.version; mask = t.mask; n = t.n; digest = d; notes = []; lost = []; counts = [] }) f

header_again : (t : Content) (rest : List ℕ) → IsHeader t → (header_at (header t ++ rest) ≡ Ok (with_entries t [] [])) × (drop (header_len t.version) (header t ++ rest) ≡ rest)
unfolding header_at
header_again t rest h =
    let bytes = header t ++ rest in
    let v = t.version in
    let n = t.n in
    let mask = mask_bytes v t.mask in
    let behind : drop 38 bytes ≡ mask ++ rest =
    sym (drop-drop 32 6 bytes) ∙ ap (drop 32) (append_assoc t.digest mask rest) ∙ drop_at t.digest (mask ++ rest) 32 h.digest in
    let m = mask_there v t.mask bytes rest h.version behind in
    let size : length bytes ≡ header_len v + length rest = omega (arith, length-append (t.digest ++ mask) rest, length-append t.digest mask, h.digest, m.1) in
    let long : 38 ≤ header_len v = omega (arith, m.1) in
    let digest_is : take 32 (drop 6 bytes) ≡ t.digest = ap (take 32) (append_assoc t.digest mask rest) ∙ take_at t.digest (mask ++ rest) 32 h.digest in (
      passed (ltb (length bytes) 4) _ _ (le-ltb _ _ (omega (arith, size, long)))
          ∙ passed (ltb (length bytes) 5) _ _ (le-ltb _ _ (omega (arith, size, long)))
          ∙ passed (not (eqb v 1 || eqb v 2)) _ _ (version_known v t.mask h.version)
          ∙ passed (ltb (length bytes) 6) _ _ (le-ltb _ _ (omega (arith, size, long)))
          ∙ passed (eqb n 0 || ltb MAX_PROCESSES n) _ _ (neither _ _ (ne_eqb n 0 (λ e. let some = h.some in omega arith)) (le-ltb _ _ h.few))
          ∙ passed (ltb (length bytes) (header_len v)) _ _ (le-ltb _ _ (omega (arith, size)))
          ∙ ap (λ (t : Content). Ok t) (content_ap t _ _ m.0 digest_is),
      ap (λ (k : ℕ). drop k bytes) (sym m.1) ∙ sym (drop-drop (length mask) 38 bytes) ∙ ap (drop (length mask)) behind ∙ drop_at mask rest (length mask) refl,
    )

-- ---- reading on from a front

abbrev whole_answer : Content → Result Content Damage
whole_answer t = Ok t

abbrev damaged : Damage → Result Content Damage
damaged d = Err d

abbrev Answer : Type 0
Answer = Option (Result Content Damage)

end_answer : Content → Result (List ℕ) Damage → Answer
end_answer t (Ok counts) = Some (Ok (with_counts t counts))
end_answer t (Err d) = Some (Err d)

after : (Content → List ℕ → Answer) → Content → List ℕ → Result Item Damage → Answer
after go t rest (Err d) = Some (Err d)
after go t rest (Ok (Note a)) = go (with_entries t (t.notes ++ a ∷ []) t.lost) (drop 11 rest)
after go t rest (Ok (Lost id)) = go (with_entries t t.notes (t.lost ++ id ∷ [])) (drop 6 rest)
after go t rest (Ok End) = end_answer t (end_at t.n (front t) rest)

-- at most so many items
walk : ℕ → Content → List ℕ → Answer
walk zero t rest = None
walk (suc k) t rest = after (walk k) t rest (item_at t rest)

through_lost : (h : Content) (notes : List AcceptNote) (lost : List LetterId) → EachFits (FitsLost h.n notes) lost → (k : ℕ) (rest : List ℕ)
    → walk (length lost + k) (with_entries h notes []) (flat_map lost_entry lost ++ rest) ≡ walk k (with_entries h notes lost) rest
unfolding walk after
through_lost h notes [] none k rest = ap (λ (m : ℕ). walk m (with_entries h notes []) rest) (zero-add k)
through_lost h notes _ (more {xs = xs} {x = x} before fit) k rest =
    let steps : length (xs ++ x ∷ []) + k ≡ length xs + suc k = omega (arith, length-append xs (x ∷ [])) in
    let split : flat_map lost_entry (xs ++ x ∷ []) ++ rest ≡ flat_map lost_entry xs ++ (lost_entry x ++ rest) =
    ap (λ (ys : List ℕ). ys ++ rest) (flat_more lost_entry xs x) ∙ append_assoc (flat_map lost_entry xs) (lost_entry x) rest in
    let t = with_entries h notes xs in
    ap (λ (m : ℕ). walk m (with_entries h notes []) (flat_map lost_entry (xs ++ x ∷ []) ++ rest)) steps
    ∙ ap (walk (length xs + suc k) (with_entries h notes [])) split
    ∙ through_lost h notes xs before (suc k) (lost_entry x ++ rest)
    ∙ ap (after (walk k) t (lost_entry x ++ rest)) (lost_there t x rest fit)

through_notes : (h : Content) (notes : List AcceptNote) → EachFits (FitsNote h.n) notes → (k : ℕ) (rest : List ℕ)
    → walk (length notes + k) (with_entries h [] []) (flat_map note notes ++ rest) ≡ walk k (with_entries h notes []) rest
unfolding walk after
through_notes h [] none k rest = ap (λ (m : ℕ). walk m (with_entries h [] []) rest) (zero-add k)
through_notes h _ (more {xs = xs} {x = x} before fit) k rest =
    let steps : length (xs ++ x ∷ []) + k ≡ length xs + suc k = omega (arith, length-append xs (x ∷ [])) in
    let split : flat_map note (xs ++ x ∷ []) ++ rest ≡ flat_map note xs ++ (note x ++ rest) = ap (λ (ys : List ℕ). ys ++ rest) (flat_more note xs x) ∙ append_assoc (flat_map note xs) (note x) rest in
    let t = with_entries h xs [] in
    ap (λ (m : ℕ). walk m (with_entries h [] []) (flat_map note (xs ++ x ∷ []) ++ rest)) steps
    ∙ ap (walk (length xs + suc k) (with_entries h [] [])) split
    ∙ through_notes h xs before (suc k) (note x ++ rest)
    ∙ ap (after (walk k) t (note x ++ rest)) (note_there t x rest refl fit)

-- ---- the answer for a whole file

begin : ℕ → List ℕ → Result Content Damage → Answer
begin k bytes (Err d) = Some (Err d)
begin k bytes (Ok t) = walk k t (drop (header_len t.version) bytes)

answer : ℕ → List ℕ → Answer
answer k bytes = begin k bytes (header_at bytes)

reaches : (t : Content) (bytes rest : List ℕ) → IsFront t → bytes ≡ front t ++ rest → (k : ℕ) → answer (length t.notes + (length t.lost + k)) bytes ≡ walk k (with_entries t t.notes t.lost) rest
unfolding answer begin front
reaches t bytes rest is split k =
    let tail : List ℕ = flat_map note t.notes ++ (flat_map lost_entry t.lost ++ rest) in
    let parts : bytes ≡ header t ++ tail =
    split ∙ append_assoc (header t) (flat_map note t.notes ++ flat_map lost_entry t.lost) rest
    ∙ ap (λ (ys : List ℕ). header t ++ ys) (append_assoc (flat_map note t.notes) (flat_map lost_entry t.lost) rest) in
    let again = header_again t tail is.header in
    let m = length t.notes + (length t.lost + k) in
    ap (λ (bs : List ℕ). begin m bs (header_at bs)) parts
    ∙ ap (begin m (header t ++ tail)) again.0
    ∙ ap (walk m (with_entries t [] [])) again.1
    ∙ through_notes t t.notes is.notes (length t.lost + k) (flat_map lost_entry t.lost ++ rest)
    ∙ through_lost t t.notes t.lost is.lost k rest

-- with enough steps the answer is this
abbrev Answers : List ℕ → Result Content Damage → Type 0
Answers bytes o = (m : ℕ) × ((k : ℕ) → answer (m + k) bytes ≡ Some o)

sooner : (a b k : ℕ) → (a + b + 1) + k ≡ a + (b + suc k)
sooner a b k = omega arith

stands : (bytes : List ℕ) (o : Result Content Damage) → HasReading bytes o → Answers bytes o
unfolding answer begin walk after end_answer front
stands bytes (Ok t) s =
    let p : List ℕ = flat_map number t.counts in
    let tail : List ℕ = p ++ sha256 (front t ++ 3 ∷ p) in
    let split : bytes ≡ front t ++ 3 ∷ tail = s.spelled ∙ append_assoc (front t) (3 ∷ p) (sha256 (front t ++ 3 ∷ p)) in
    let u = with_entries t t.notes t.lost in (
      length t.notes + length t.lost + 1,
      λ k. ap (λ (m : ℕ). answer m bytes) (sooner (length t.notes) (length t.lost) k)
          ∙ reaches t bytes (3 ∷ tail) s.rules.front split (suc k)
          ∙ ap (after (walk k) u (3 ∷ tail)) (end_there u tail)
          ∙ ap (end_answer u) (end_again t.n (front t) t.counts s.rules.counts),
    )
stands bytes (Err d) (in_header e) = (0, λ k. ap (begin (0 + k) bytes) e)
stands bytes (Err d) (in_entry t rest is split e) =
    let u = with_entries t t.notes t.lost in (
      length t.notes + length t.lost + 1,
      λ k. ap (λ (m : ℕ). answer m bytes) (sooner (length t.notes) (length t.lost) k) ∙ reaches t bytes rest is split (suc k) ∙ ap (after (walk k) u rest) e,
    )
stands bytes (Err d) (in_end t rest is split tag e) =
    let u = with_entries t t.notes t.lost in (
      length t.notes + length t.lost + 1,
      λ k. ap (λ (m : ℕ). answer m bytes) (sooner (length t.notes) (length t.lost) k) ∙ reaches t bytes rest is split (suc k) ∙ ap (after (walk k) u rest) tag ∙ ap (end_answer u) e,
    )

some_is : (a b : Result Content Damage) (x : Answer) → x ≡ Some a → x ≡ Some b → a ≡ b
some_is a b x e f = cc

-- Bytes stand for one thing.
pub one_outcome : (bytes : List ℕ) (a b : Result Content Damage) → HasReading bytes a → HasReading bytes b → a ≡ b
one_outcome bytes a b s t =
    let p = stands bytes a s in
    let q = stands bytes b t in
    some_is a b (answer (p.0 + q.0) bytes) (p.1 q.0) (ap (λ (m : ℕ). answer m bytes) (let flip : p.0 + q.0 ≡ q.0 + p.0 = omega arith in flip) ∙ q.1 p.0)

pub gives_outcome : (bytes : List ℕ) (r : Result Content TraceFault) (o : Result Content Damage) → IfOk r (λ t. IsSpelling t bytes)
    → IfErr r (TellsDamage bytes) → HasReading bytes o → ReadsAs (λ x. x) r o
gives_outcome bytes (Ok x) o found damage s = one_outcome bytes o (Ok x) s found
gives_outcome bytes (Err (faults.Damage kind place)) o found damage s = one_outcome bytes o (Err (kind, place)) s damage
gives_outcome bytes (Err faults.Memory) o found damage s = tt

-- ---- laws

whole_is : (a b : Content) → whole_answer a ≡ whole_answer b → a ≡ b
whole_is a b e = cc

damage_is : (a b : Damage) → damaged a ≡ damaged b → a ≡ b
damage_is a b e = cc

apart : (t : Content) (d : Damage) → whole_answer t ≡ damaged d → ⊥
apart t d e = absurd cc

pub one_trace : (s t : Content) (bytes : List ℕ) → IsSpelling s bytes → IsSpelling t bytes → s ≡ t
one_trace s t bytes p q = whole_is s t (one_outcome bytes (Ok s) (Ok t) p q)

pub no_damage : (t : Content) (d : Damage) (bytes : List ℕ) → IsSpelling t bytes → IsDamage bytes d → ⊥
no_damage t d bytes p q = apart t d (one_outcome bytes (Ok t) (Err d) p q)

pub one_damage : (d e : Damage) (bytes : List ℕ) → IsDamage bytes d → IsDamage bytes e → d ≡ e
one_damage d e bytes p q = damage_is d e (one_outcome bytes (Err d) (Err e) p q)

-- a process that there isn't has no count
pub no_count : (t : Content) (p : ℕ) → IsTrace t → t.n ≤ p → count_of t p ≡ 0
no_count t p is le = get_or_past t.counts p 0 (omega (arith, is.counts.each))
