-- Watchers that are told of events, and their lines.
use Rattle.std.proofs.Common.{◌≡◌, ℕ, zero, suc, ◌+◌, ◌<◌, ◌≤◌, List, [], ◌∷◌, ◌++◌, length, take, drop, map, Option, Some, Ok, Err, Result, refl, sym, ap, ◌∙◌, subst, arith, append_assoc, append-nil, add-one}
use Rattle.std.specs.Prelude.{⊤, slice_index_or, slice_get}
use Rattle.std.specs.Result.{IsErr}
use Rattle.std.proofs.lemmas.List.{take_all, take-append-drop}
use Rattle.std.proofs.Math.Seq.{take-suc}
use Rattle.std.proofs.lemmas.Option.{slice_get_within, get_or_from_slice_get}
use Rattle.nm_outside.specs.declared.cabinet.Failed.{Failed}
use Rattle.event_list.specs.declared.Event.{Event}
use Rattle.watchers.specs.Watched.{Watched, Told}
use Rattle.watchers.proofs.Tellings.{told_on}
use Rattle.report.specs.Printing.{Prints}
use Rattle.report.specs.Texts.{watched_line}
use Rattle.report.proofs.Pieces.{prints_more, failed_first}
use Rattle.nm_top.specs.Watches.{Given, given, Hear, watch_lines}

one_more : {X : Type 0} (xs : List X) (i : ℕ) (x : X) → slice_get xs i ≡ Some x → take (i + 1) xs ≡ take i xs ++ x ∷ []
one_more xs i x at =
    ap (λ k. take k xs) (add-one i) ∙ take-suc xs i x (slice_get_within xs i x at) ∙ ap (λ u. take i xs ++ u ∷ []) (get_or_from_slice_get xs i x x at)

-- ---- what they are told

module _ (first : List Watched) where
  -- without an event they are as before
  pub hear_nothing : Hear [] (given first first)
  hear_nothing = refl

  -- one event more
  pub hear_more : (E : List Event) (e : Event) (now new : List Watched) (out : ℕ) → Hear E (given first now) → Told (e ∷ []) now new out → Hear (E ++ e ∷ []) (given first new)
  hear_more [] e now new out same told = (out, subst (λ ws. Told (e ∷ []) ws new out) same told)
  hear_more (d ∷ E) e now new out heard told = (heard.0 + out, told_on heard.1 told)

-- ---- their lines

watch_append : (k : ℕ) (vs ws : List Watched) → watch_lines k (vs ++ ws) ≡ watch_lines k vs ++ watch_lines (k + length vs) ws
watch_append k [] ws = ap (λ n. watch_lines n ws) (omega arith)
watch_append k (v ∷ vs) ws =
    ap (λ (text : List ℕ). watched_line k (v.kind.said v.notes) ++ text) (watch_append (k + 1) vs ws)
    ∙ sym (append_assoc (watched_line k (v.kind.said v.notes)) (watch_lines (k + 1) vs) (watch_lines (k + 1 + length vs) ws))
    ∙ ap (λ (n : ℕ). watch_lines k (v ∷ vs) ++ watch_lines n ws) (omega arith)

nothing_more : (n : ℕ) → 0 + n ≡ n
nothing_more n = omega arith

-- the watcher at a place
module _ {A : Type 0} (seen : A → Watched) where
  take_next : (xs : List A) (i : ℕ) (d : A) → i < length xs → take (suc i) (map seen xs) ≡ take i (map seen xs) ++ seen (slice_index_or xs i d) ∷ []
  take_next [] i d low = absurd (omega (arith, low))
  take_next (x ∷ xs) zero d low = refl
  take_next (x ∷ xs) (suc i) d low = ap (λ (ws : List Watched). seen x ∷ ws) (take_next xs i d (omega (arith, low)))

  map_long : (xs : List A) → length (map seen xs) ≡ length xs
  map_long [] = refl
  map_long (x ∷ xs) = ap suc (map_long xs)

  take_long : (xs : List A) (i : ℕ) → i < length xs → length (take i (map seen xs)) ≡ i
  take_long [] i low = absurd (omega (arith, low))
  take_long (x ∷ xs) zero low = refl
  take_long (x ∷ xs) (suc i) low = ap suc (take_long xs i (omega (arith, low)))

  lines_next : (xs : List A) (i : ℕ) (d : A) (w : Watched) → i < length xs → w ≡ seen (slice_index_or xs i d)
      → watch_lines 0 (take (i + 1) (map seen xs)) ≡ watch_lines 0 (take i (map seen xs)) ++ watched_line i (w.kind.said w.notes)
  lines_next xs i d w low is =
      ap (watch_lines 0) (ap (λ (k : ℕ). take k (map seen xs)) (add-one i) ∙ take_next xs i d low ∙ ap (λ (v : Watched). take i (map seen xs) ++ v ∷ []) (sym is))
      ∙ watch_append 0 (take i (map seen xs)) (w ∷ [])
      ∙ ap (λ (n : ℕ). watch_lines 0 (take i (map seen xs)) ++ watch_lines n (w ∷ [])) (nothing_more (length (take i (map seen xs))))
      ∙ ap (λ (text : List ℕ). watch_lines 0 (take i (map seen xs)) ++ text) (append-nil (watched_line (length (take i (map seen xs))) (w.kind.said w.notes)))
      ∙ ap (λ (n : ℕ). watch_lines 0 (take i (map seen xs)) ++ watched_line n (w.kind.said w.notes)) (take_long xs i low)

  module _ (a b c : Option (List ℕ)) (f g h : ℕ) (xs : List A) (i : ℕ) (d : A) (w : Watched) (low : i < length xs) (is : w ≡ seen (slice_index_or xs i d))
      (before : Prints a b f g (watch_lines 0 (take i (map seen xs))) (Ok tt)) where
    pub line_more : (r : Result ⊤ Failed) → r ≡ Ok tt → Prints b c g h (watched_line i (w.kind.said w.notes)) r
        → Prints a c f h (watch_lines 0 (take (i + 1) (map seen xs))) (Ok tt)
    line_more r ok one =
        let line = watched_line i (w.kind.said w.notes) in
        subst (λ t. Prints a c f h t (Ok tt)) (sym (lines_next xs i d w low is))
        (prints_more a b c f g h (watch_lines 0 (take i (map seen xs))) line (Ok tt) before (subst (Prints b c g h line) ok one))

    pub line_failed : (r s : Result ⊤ Failed) (e : Failed) → r ≡ Err e → IsErr s → Prints b c g h (watched_line i (w.kind.said w.notes)) r
        → Prints a c f h (watch_lines 0 (map seen xs)) s
    line_failed r s e bad fails one =
        let line = watched_line i (w.kind.said w.notes) in
        let ws = map seen xs in
        let rest = watch_lines (length (take (i + 1) ws)) (drop (i + 1) ws) in
        let all : watch_lines 0 ws ≡ (watch_lines 0 (take i ws) ++ line) ++ rest =
        ap (watch_lines 0) (sym (take-append-drop (i + 1) ws)) ∙ watch_append 0 (take (i + 1) ws) (drop (i + 1) ws)
        ∙ ap (λ (n : ℕ). watch_lines 0 (take (i + 1) ws) ++ watch_lines n (drop (i + 1) ws)) (nothing_more (length (take (i + 1) ws)))
        ∙ ap (λ (text : List ℕ). text ++ rest) (lines_next xs i d w low is) in
        let more = prints_more a b c f g h (watch_lines 0 (take i ws)) line r before one in
        subst (λ t. Prints a c f h t s) (sym all) (failed_first a c f h (watch_lines 0 (take i ws) ++ line) rest r s e bad fails more)

  pub lines_all : (a b : Option (List ℕ)) (f g : ℕ) (xs : List A) (i : ℕ) → length xs ≤ i → Prints a b f g (watch_lines 0 (take i (map seen xs))) (Ok tt)
      → Prints a b f g (watch_lines 0 (map seen xs)) (Ok tt)
  lines_all a b f g xs i high h =
      subst (λ (ws : List Watched). Prints a b f g (watch_lines 0 ws) (Ok tt)) (take_all i (map seen xs) (omega (arith, high, map_long xs))) h

  -- events that are told one after the other
  pub each_next : (first : List Watched) (E : List Event) (i : ℕ) (e : Event) (now new : List A) (out : ℕ) → slice_get E i ≡ Some e → Hear (take i E) (given first (map seen now))
      → Told (e ∷ []) (map seen now) (map seen new) out → Hear (take (i + 1) E) (given first (map seen new))
  each_next first E i e now new out at heard told =
      subst (λ (F : List Event). Hear F (given first (map seen new))) (sym (one_more E i e at)) (hear_more first (take i E) e (map seen now) (map seen new) out heard told)

-- all were told
pub all_heard : (E : List Event) (i : ℕ) (x : Given) → length E ≤ i → Hear (take i E) x → Hear E x
all_heard E i x high h = subst (λ (F : List Event). Hear F x) (take_all i E high) h

-- of the events of a list that is this one
pub heard_of : (first : List Watched) (E F : List Event) (now : List Watched) → E ≡ F → Hear E (given first now) → Hear F (given first now)
heard_of first E F now same h = subst (λ (G : List Event). Hear G (given first now)) same h
