-- The header of a file.
use Rattle.std.proofs.Common.{◌≡◌, ℕ, ◌+◌, ◌≤◌, Bool, true, false, cond, not, ◌||◌, ◌&&◌, eqb, ltb, List, [], ◌∷◌, ◌++◌, length, get_or, take, drop, Result, Ok, refl, sym, ap, subst, ◌∙◌, arith, append_assoc, length-append, length-drop, ◌⊎◌, inl, inr}
use Rattle.std.proofs.lemmas.Bool.{eqb-true, ltb-false, eqb-false}
use Rattle.std.proofs.lemmas.List.{append-nil, take-append-drop, drop-drop, length-take}
use Rattle.nm_base.specs.Fitting.EachFits.{none}
use Rattle.nm_base.specs.declared.limits.TheConstants.{MAX_PROCESSES}
use Rattle.trace_file.specs.Content.{Content}
use Rattle.trace_file.specs.Bytes.{front, header, mask_bytes}
use Rattle.trace_file.specs.Rules.{IsHeader, IsVersion}
use Rattle.trace_file.specs.Reading.{Damage, header_at, header_len, word_at}
use Rattle.trace_file.specs.private.Places.{Reaches}
use Rattle.trace_file.proofs.Cells.{IsBytes, drop_cells, word_back, word_below}
use Rattle.trace_file.proofs.Shapes.{guard_ok, both_true, is_true}
use Rattle.trace_file.proofs.Passing.{neither_is}

either : (a b : ℕ) (v : ℕ) → eqb v a || eqb v b ≡ true → (v ≡ a) ⊎ (v ≡ b)
either a b v e = go (eqb v a) (eqb v b) e (eqb-true v a) (eqb-true v b) where
  go : (x y : Bool) → x || y ≡ true → (x ≡ true → v ≡ a) → (y ≡ true → v ≡ b) → (v ≡ a) ⊎ (v ≡ b)
  go true y e f g = inl (f refl)
  go false true e f g = inr (g refl)
  go false false e f g = absurd cc

abbrev mask_of : List ℕ → ℕ → ℕ
mask_of bytes v = cond (eqb v 2) (word_at bytes 38) 0

mask_part : (bytes : List ℕ) (v : ℕ) → IsBytes bytes → (v ≡ 1) ⊎ (v ≡ 2) → header_len v ≤ length bytes
    → (drop 38 bytes ≡ mask_bytes v (mask_of bytes v) ++ drop (header_len v) bytes) × (38 + length (mask_bytes v (mask_of bytes v)) ≡ header_len v) × IsVersion v (mask_of bytes v)
mask_part bytes v fits (inl e) long =
    subst (λ (v : ℕ). (drop 38 bytes ≡ mask_bytes v (mask_of bytes v) ++ drop (header_len v) bytes) ×
    (38 + length (mask_bytes v (mask_of bytes v)) ≡ header_len v) × IsVersion v (mask_of bytes v)) (sym e)
    (refl, refl, inl (refl, refl))
mask_part bytes v fits (inr e) long =
    let long2 : 42 ≤ length bytes = subst (λ (v : ℕ). header_len v ≤ length bytes) e long in
    subst (λ (v : ℕ). (drop 38 bytes ≡ mask_bytes v (mask_of bytes v) ++ drop (header_len v) bytes) ×
    (38 + length (mask_bytes v (mask_of bytes v)) ≡ header_len v) × IsVersion v (mask_of bytes v)) (sym e)
    (drop_cells 4 38 42 bytes refl long2 ∙ ap (λ (xs : List ℕ). xs ++ drop 42 bytes) (sym (word_back bytes 38 fits)), refl, inr (refl, word_below bytes 38 fits))

abbrev made : List ℕ → Content
made bytes = record { version = get_or bytes 4 0; mask = mask_of bytes (get_or bytes 4 0); n = get_or bytes 5 0; digest = take 32 (drop 6 bytes); notes = []; lost = []; counts = [] }

abbrev read_as : Content → Result Content Damage
read_as t = Ok t

content_is : (s t : Content) → read_as s ≡ read_as t → s ≡ t
content_is s t e = cc

and_true : (a b : Bool) → a && b ≡ true → (a ≡ true) × (b ≡ true)
and_true true b e = (refl, e)
and_true false b e = absurd cc

magic_is : (a b c d : ℕ) → not ((((eqb a 78) && (eqb b 77)) && (eqb c 84)) && (eqb d 82)) ≡ false → a ∷ b ∷ c ∷ d ∷ [] ≡ 78 ∷ 77 ∷ 84 ∷ 82 ∷ []
magic_is a b c d e =
    let p = both_true _ _ e in
    let q = and_true _ _ p.0 in
    let r = and_true _ _ q.0 in
    let ea = eqb-true a 78 r.0 in
    let eb = eqb-true b 77 r.1 in
    let ec = eqb-true c 84 q.1 in
    let ed = eqb-true d 82 p.1 in
    cc

front_made : (t : Content) → t.notes ≡ [] → t.lost ≡ [] → front t ≡ header t
unfolding front
front_made t n l = rw (n, l) (append-nil (header t))

pub header_takes : (bytes : List ℕ) (t : Content) → IsBytes bytes → header_at bytes ≡ Ok t → Reaches t (header_len t.version) bytes
unfolding header_at
header_takes bytes t fits e =
    let len = length bytes in
    let v = get_or bytes 4 0 in
    let n = get_or bytes 5 0 in
    let hl = header_len v in
    let m = made bytes in
    let g1 = guard_ok (ltb len 4) _ _ t e in
    let g2 = guard_ok (not ((((eqb (get_or bytes 0 0) 78) && (eqb (get_or bytes 1 0) 77)) && (eqb (get_or bytes 2 0) 84)) && (eqb (get_or bytes 3 0) 82))) _ _ t g1.1 in
    let g3 = guard_ok (ltb len 5) _ _ t g2.1 in
    let g4 = guard_ok (not (eqb v 1 || eqb v 2)) _ _ t g3.1 in
    let g5 = guard_ok (ltb len 6) _ _ t g4.1 in
    let g6 = guard_ok (eqb n 0 || ltb MAX_PROCESSES n) _ _ t g5.1 in
    let g7 = guard_ok (ltb len hl) _ _ t g6.1 in
    let long : hl ≤ len = ltb-false _ _ g7.0 in
    let kind = either 1 2 v (is_true _ g4.0) in
    let part = mask_part bytes v fits kind long in
    let count = neither_is (eqb n 0) (ltb MAX_PROCESSES n) g6.0 in
    let six : 6 ≤ len = omega (arith, part.1) in
    let digest_len : length m.digest ≡ 32 = length-take 32 (drop 6 bytes) ∙ omega (arith, length-drop 6 bytes, part.1) in
    let front_is = front_made m refl refl in
    let tail : drop 6 bytes ≡ (m.digest ++ mask_bytes v m.mask) ++ drop hl bytes =
    sym (take-append-drop 32 (drop 6 bytes)) ∙ ap (λ (xs : List ℕ). m.digest ++ xs) (drop-drop 32 6 bytes ∙ part.0) ∙ sym (append_assoc m.digest (mask_bytes v m.mask) (drop hl bytes)) in
    let split : bytes ≡ header m ++ drop hl bytes =
    drop_cells 6 0 6 bytes refl six ∙ ap (λ (xs : List ℕ). (xs ++ v ∷ n ∷ []) ++ drop 6 bytes) (magic_is _ _ _ _ g2.0) ∙ ap (λ (xs : List ℕ). 78 ∷ 77 ∷ 84 ∷ 82 ∷ v ∷ n ∷ xs) tail in
    let header_rules : IsHeader m = record { version = part.2; some = omega (arith, eqb-false _ _ count.0); few = ltb-false _ _ count.1; digest = digest_len } in
    let size : length (header m) ≡ hl = omega (arith, length-append m.digest (mask_bytes v m.mask), digest_len, part.1) in
    subst (λ (t : Content). Reaches t (header_len t.version) bytes) (content_is m t g7.1) (record {
      rules = record { header = header_rules; notes = none; lost = none };
      place_is = sym (ap length front_is ∙ size);
      split = split ∙ ap (λ (xs : List ℕ). xs ++ drop hl bytes) (sym front_is);
    })
