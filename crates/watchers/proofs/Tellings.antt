-- Lemmas for a telling, step by step.
use Rattle.std.proofs.Common.{◌≡◌, ℕ, zero, suc, ◌+◌, ◌<◌, ◌≤◌, Bool, true, false, List, [], ◌∷◌, ◌++◌, length, take, drop, map, slice_index_or, slice_set, refl, sym, ap, ◌∙◌, subst, arith}
use Rattle.std.specs.Prelude.{All}
use Rattle.std.specs.List.{remove}
use Rattle.std.proofs.lemmas.List.Elements.{All-tail}
use Rattle.std.proofs.lemmas.List.{append_assoc, append-nil, take_all, drop_all}
use Rattle.event_list.specs.declared.Event.{Event}
use Rattle.watchers.specs.Watched.{Watched, Told, told, told_all, nobody, noted, lacked}
use Rattle.watchers.specs.private.Telling.{IsTelling}

-- one more watcher was told, and noted the events or lacked memory
pub noted_one_more : {E : List Event} {xs ys : List Watched} {n : ℕ} (w : Watched)
    → Told E xs ys n → Told E (xs ++ w ∷ []) (ys ++ told_all w E ∷ []) n
noted_one_more w nobody = noted nobody
noted_one_more w (noted rest) = noted (noted_one_more w rest)
noted_one_more w (lacked loose rest) = lacked loose (noted_one_more w rest)

pub lacked_one_more : {E : List Event} {xs ys : List Watched} {n : ℕ} (w : Watched)
    → w.kind.steady ≡ false → Told E xs ys n → Told E (xs ++ w ∷ []) ys (1 + n)
lacked_one_more w is nobody = lacked is nobody
lacked_one_more w is (noted rest) = noted (lacked_one_more w is rest)
lacked_one_more w is (lacked loose rest) = lacked loose (lacked_one_more w is rest)

-- as many as there were are left or out
pub told_length : {E : List Event} {xs ys : List Watched} {n : ℕ} → Told E xs ys n → n + length ys ≡ length xs
told_length nobody = refl
told_length (noted rest) = let a = told_length rest in omega arith
told_length (lacked loose rest) = let a = told_length rest in omega arith

-- no event changes a watcher's kind
pub same_kind : (w : Watched) (E : List Event) → (told_all w E).kind ≡ w.kind
same_kind w [] = refl
same_kind w (e ∷ E) = same_kind (told w e) E

pub told_further : (w : Watched) (E F : List Event) → told_all (told_all w E) F ≡ told_all w (E ++ F)
told_further w [] F = refl
told_further w (e ∷ E) F = told_further (told w e) E F

-- who was told of no event is as before
pub told_nothing : (ws : List Watched) → Told [] ws ws 0
told_nothing [] = nobody
told_nothing (w ∷ ws) = noted (told_nothing ws)

-- told of some events and then of others, they were told of all
pub told_on : {E F : List Event} {xs ys zs : List Watched} {n m : ℕ} → Told E xs ys n → Told F ys zs m
    → Told (E ++ F) xs zs (n + m)
told_on nobody nobody = nobody
told_on {E} {F} (noted {w} {before = xs} {out = n} rest) (noted {after = zs} {out = m} more) =
    subst (λ v. Told (E ++ F) (w ∷ xs) (v ∷ zs) (n + m)) (sym (told_further w E F)) (noted {w = w} (told_on rest more))
told_on {E} {F} (noted {w} {before = xs} {out = n} rest) (lacked {after = zs} {out = m} loose more) =
    let put : 1 + (n + m) ≡ n + (1 + m) = omega arith in
    let before = ap (λ k. k.steady) (sym (same_kind w E)) ∙ loose in
    subst (Told (E ++ F) (w ∷ xs) zs) put (lacked before (told_on rest more))
told_on {E} {F} {zs = zs} {m = m} (lacked {w} {before = xs} {out = n} loose rest) more =
    let put : 1 + (n + m) ≡ 1 + n + m = omega arith in
    subst (Told (E ++ F) (w ∷ xs) zs) put (lacked loose (told_on rest more))

-- where all are steady each noted the events, and none is out
pub all_noted : {E : List Event} {xs ys : List Watched} {n : ℕ} → Told E xs ys n → All (λ w. w.kind.steady ≡ true) xs
    → (ys ≡ map (λ w. told_all w E) xs) × (n ≡ 0)
all_noted nobody steady = (refl, refl)
all_noted {E} (noted {w} {before = xs} rest) steady =
    let same = all_noted rest (All-tail (λ w. w.kind.steady ≡ true) w xs steady) in
    (ap (λ l. told_all w E ∷ l) same.0, same.1)
all_noted (lacked {w} loose rest) steady = let no : false ≡ true = sym loose ∙ steady 0 w (omega arith) in absurd cc

-- what a change at one place, seen through f, leaves before and behind it
module _ {A B : Type 0} (f : A → B) where
  pub behind_is : (xs : List A) (i : ℕ) (d : A) → i < length xs
      → drop i (map f xs) ≡ f (slice_index_or xs i d) ∷ drop (suc i) (map f xs)
  behind_is [] i d lt = absurd (omega arith)
  behind_is (x ∷ xs) zero d lt = refl
  behind_is (x ∷ xs) (suc i) d lt = behind_is xs i d (omega arith)

  pub set_before : (xs : List A) (i : ℕ) (y : A) → i < length xs
      → take (suc i) (map f (slice_set xs i y)) ≡ take i (map f xs) ++ f y ∷ []
  set_before [] i y lt = absurd (omega arith)
  set_before (x ∷ xs) zero y lt = refl
  set_before (x ∷ xs) (suc i) y lt = ap (λ l. f x ∷ l) (set_before xs i y (omega arith))

  pub set_behind : (xs : List A) (i : ℕ) (y : A) → drop (suc i) (map f (slice_set xs i y)) ≡ drop (suc i) (map f xs)
  set_behind [] i y = refl
  set_behind (x ∷ xs) zero y = refl
  set_behind (x ∷ xs) (suc i) y = set_behind xs i y

  pub map_remove : (xs : List A) (i : ℕ) → map f (remove xs i) ≡ remove (map f xs) i
  map_remove [] zero = refl
  map_remove [] (suc i) = refl
  map_remove (x ∷ xs) zero = refl
  map_remove (x ∷ xs) (suc i) = ap (λ l. f x ∷ l) (map_remove xs i)

  pub set_alike : (xs : List A) (i : ℕ) (d y : A) → f y ≡ f (slice_index_or xs i d)
      → map f (slice_set xs i y) ≡ map f xs
  set_alike [] i d y is = refl
  set_alike (x ∷ xs) zero d y is = ap (λ v. v ∷ map f xs) is
  set_alike (x ∷ xs) (suc i) d y is = ap (λ l. f x ∷ l) (set_alike xs i d y is)

module _ {B : Type 0} where
  pub removed_before : (xs : List B) (i : ℕ) → take i (remove xs i) ≡ take i xs
  removed_before [] zero = refl
  removed_before [] (suc i) = refl
  removed_before (x ∷ xs) zero = refl
  removed_before (x ∷ xs) (suc i) = ap (λ l. x ∷ l) (removed_before xs i)

  pub removed_behind : (xs : List B) (i : ℕ) → drop i (remove xs i) ≡ drop (suc i) xs
  removed_behind [] zero = refl
  removed_behind [] (suc i) = refl
  removed_behind (x ∷ xs) zero = refl
  removed_behind (x ∷ xs) (suc i) = removed_behind xs i

pub begun : {e : Event} (ws : List Watched) → IsTelling e ws ws 0 0
begun ws = record { seen = []; is = refl; told = nobody }

pub ended : {e : Event} {old now : List Watched} {i n : ℕ} → IsTelling e old now i n → length now ≤ i
    → Told (e ∷ []) old now n
ended {e} {old} {now} {i} {n} t le =
    let is = t.is ∙ ap (λ l. t.seen ++ l) (drop_all i now le) ∙ append-nil t.seen in
    subst (λ l. Told (e ∷ []) l now n) (sym is) (subst (λ l. Told (e ∷ []) t.seen l n) (take_all i now le) t.told)

module _ {A : Type 0} (f : A → Watched) {e : Event} {old : List Watched} {i n : ℕ} where
  -- the i-th noted the event, and y is what it is afterwards
  pub one_noted : (xs : List A) (d y : A) → IsTelling e old (map f xs) i n → i < length xs
      → f y ≡ told (f (slice_index_or xs i d)) e
      → IsTelling e old (map f (slice_set xs i y)) (i + 1) n
  one_noted xs d y t lt is =
      let w = f (slice_index_or xs i d) in
      let on : suc i ≡ i + 1 = omega arith in
      let rest = behind_is f xs i d lt ∙ ap (λ l. w ∷ l) (sym (set_behind f xs i y)) in
      let front = ap (λ v. take i (map f xs) ++ v ∷ []) (sym is) ∙ sym (set_before f xs i y lt) in
      subst (λ k. IsTelling e old (map f (slice_set xs i y)) k n) on record {
        seen = t.seen ++ w ∷ [];
        is = t.is ∙ ap (λ l. t.seen ++ l) rest
            ∙ sym (append_assoc t.seen (w ∷ []) (drop (suc i) (map f (slice_set xs i y))));
        told = subst (λ l. Told (e ∷ []) (t.seen ++ w ∷ []) l n) front (noted_one_more w t.told);
      }

  -- the i-th lacked memory, and was taken out
  pub one_lacked : (xs : List A) (d y : A) → IsTelling e old (map f xs) i n → i < length xs
      → f y ≡ f (slice_index_or xs i d)
      → (f (slice_index_or xs i d)).kind.steady ≡ false
      → IsTelling e old (map f (remove (slice_set xs i y) i)) i (n + 1)
  one_lacked xs d y t lt is loose =
      let w = f (slice_index_or xs i d) in
      let on : 1 + n ≡ n + 1 = omega arith in
      let same = map_remove f (slice_set xs i y) i ∙ ap (λ l. remove l i) (set_alike f xs i d y is) in
      let rest = behind_is f xs i d lt ∙ ap (λ l. w ∷ l) (sym (removed_behind (map f xs) i)) in
      subst (λ l. IsTelling e old l i (n + 1)) (sym same) record {
        seen = t.seen ++ w ∷ [];
        is = t.is ∙ ap (λ l. t.seen ++ l) rest ∙ sym (append_assoc t.seen (w ∷ []) (drop i (remove (map f xs) i)));
        told = subst (λ l. Told (e ∷ []) (t.seen ++ w ∷ []) l (n + 1)) (sym (removed_before (map f xs) i))
            (subst (λ k. Told (e ∷ []) (t.seen ++ w ∷ []) (take i (map f xs)) k) on (lacked_one_more w loose t.told));
      }

-- what can't be steady isn't
pub not_steady : (b : Bool) → (b ≡ true → false ≡ true) → b ≡ false
not_steady true h = sym (h refl)
not_steady false h = refl
