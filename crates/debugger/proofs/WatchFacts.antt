-- What watchers say, by their places.
use Rattle.std.proofs.Common.{◌≡◌, ℕ, suc, ◌+◌, List, [], ◌∷◌, ◌++◌, map, length, Option, Some, None, refl, sym, ap, ◌∙◌, subst, arith}
use Rattle.std.specs.Prelude.{slice_get, option_map}
use Rattle.std.specs.List.{flat_map, range_with_len}
use Rattle.std.proofs.lemmas.Option.{slice_get-map}
use Rattle.watchers.specs.Watched.{Watched}
use Rattle.report.specs.Replies.{notice_line}
use Rattle.report.specs.declared.replies.Notice.TheVariants as notice
use Rattle.debugger.specs.Sessions.{watch_lines, watch_text}
use Rattle.debugger.specs.private.Making.{said_line}

-- the line of a place
abbrev pub said_if : ℕ → Option Watched → List ℕ
said_if k None = []
said_if k (Some w) = said_line k w

abbrev pub said_at : List Watched → ℕ → List ℕ
said_at watch k = said_if k (slice_get watch k)

by_place : (at : ℕ → List ℕ) (i : ℕ) (xs : List Watched) → ((j : ℕ) → at (i + j) ≡ said_if (i + j) (slice_get xs j))
    → flat_map at (range_with_len i (length xs)) ≡ watch_lines i xs
by_place at i [] h = refl
by_place at i (x ∷ xs) h =
    let here : i + 0 ≡ i = omega arith in
    let first : at i ≡ said_line i x = subst (λ k. at k ≡ said_line k x) here (h 0) in
    let next : (j : ℕ) → i + suc j ≡ (i + 1) + j = λ j. omega arith in
    let behind = by_place at (i + 1) xs (λ j. subst (λ k. at k ≡ said_if k (slice_get xs j)) (next j) (h (suc j))) in
    λ k. first k ++ behind k

pub lines_by_place : (watch : List Watched) → flat_map (said_at watch) (range_with_len 0 (length watch)) ≡ watch_lines 0 watch
lines_by_place watch =
    let same : (j : ℕ) → 0 + j ≡ j = λ j. omega arith in
    by_place (said_at watch) 0 watch (λ j. ap (λ k. said_if (0 + j) (slice_get watch k)) (same j))

pub said_there : {A : Type 0} (seen : A → Watched) (items : List A) (k : ℕ) (x : A) → slice_get items k ≡ Some x
    → said_line k (seen x) ≡ said_at (map seen items) k
said_there seen items k x at =
    sym (ap (said_if k) (slice_get-map seen items k ∙ ap (λ o. option_map seen o) at))

pub no_watchers : (watch : List Watched) → length watch ≡ 0 → notice_line notice.NoWatcher ≡ watch_text watch
no_watchers [] h = refl
no_watchers (w ∷ watch) h = absurd (omega (arith, h))

pub some_watchers : (watch : List Watched) → (length watch ≡ 0 → ⊥) → watch_lines 0 watch ≡ watch_text watch
some_watchers [] h = absurd (h refl)
some_watchers (w ∷ watch) h = refl
