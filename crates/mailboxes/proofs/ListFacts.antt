-- Facts on lists of letters.
use Rattle.std.proofs.Common.{◌≡◌, ℕ, zero, suc, ◌+◌, ◌^◌, ◌<◌, ◌≤◌, Bool, true, false, cond, List, [], ◌∷◌, ◌++◌, length, take, drop, get_or, None, refl, sym, ap, ◌∙◌, subst, inl, inr, arith, add-one}
use Rattle.std.specs.Prelude.{filter, Contains, slice_get, map, ◌⊎◌, ◌==◌, ◌&&◌}
use Rattle.std.specs.List.{IsDistinct, AllByRecursion}
use Rattle.std.proofs.Math.Seq.{drop-cons}
use Rattle.std.proofs.Math.ListN.{drop_of_length-le}
use Rattle.std.proofs.lemmas.Bool.{false≢true, and_parts, eq-eqb, eqb-true}
use Rattle.std.proofs.lemmas.List.{take_more, take_all}
use Rattle.std.proofs.lemmas.List.Elements.{Contains-push_cases, Contains-append_cases}
use Rattle.nm_base.specs.declared.letter.Letter.{Letter}
use Rattle.nm_base.specs.declared.letter.LetterId.{LetterId}
use Rattle.mailboxes.specs.Letters.{Rises, same_letter, is_named, Leaves}

module _ {X : Type 0} (test : X → Bool) where
  pub length-filter_le : (xs : List X) → length (filter test xs) ≤ length xs
  length-filter_le [] = omega arith
  length-filter_le (x ∷ xs) = go (test x) (length-filter_le xs)
    where
      go : (b : Bool) → length (filter test xs) ≤ length xs → length (cond b (x ∷ filter test xs) (filter test xs)) ≤ length (x ∷ xs)
      go true h = omega (arith, h)
      go false h = omega (arith, h)

  -- the element at a place, and those after it
  pub kept_at : (xs : List X) (i : ℕ) (d : X) → i < length xs → test (get_or xs i d) ≡ true → filter test (drop i xs) ≡ get_or xs i d ∷ filter test (drop (i + 1) xs)
  kept_at xs i d l t = ap (filter test) (drop-cons xs i d l) ∙ ap (λ b. cond b (get_or xs i d ∷ filter test (drop (suc i) xs)) (filter test (drop (suc i) xs))) t ∙ ap (λ j. get_or xs i d ∷ filter test (drop j xs)) (sym (add-one i))

  pub left_out_at : (xs : List X) (i : ℕ) (d : X) → i < length xs → test (get_or xs i d) ≡ false → filter test (drop i xs) ≡ filter test (drop (i + 1) xs)
  left_out_at xs i d l t = ap (filter test) (drop-cons xs i d l) ∙ ap (λ b. cond b (get_or xs i d ∷ filter test (drop (suc i) xs)) (filter test (drop (suc i) xs))) t ∙ ap (λ j. filter test (drop j xs)) (sym (add-one i))

  pub none_more : (xs : List X) (i : ℕ) (d : X) → i < length xs → ((w : X) → Contains (take i xs) w → test w ≡ false) → test (get_or xs i d) ≡ false → (w : X) → Contains (take (i + 1) xs) w → test w ≡ false
  none_more xs i d l h t w c = elim (Contains-push_cases (take i xs) (get_or xs i d) w (subst (λ ys. Contains ys w) (take_more xs i d l) c)) [
    | inl o ↦ h w o
    | inr e ↦ ap test (sym e) ∙ t
  ]

  pub none_at_all : (xs : List X) (i : ℕ) → length xs ≤ i → ((w : X) → Contains (take i xs) w → test w ≡ false) → (w : X) → Contains xs w → test w ≡ true → ⊥
  none_at_all xs i l h w c t = false≢true (sym (h w (subst (λ ys. Contains ys w) (sym (take_all i xs l)) c)) ∙ t)

-- what an element at the front and those behind it are
empty : {X : Type 0} (x : X) → Contains [] x → ⊥
empty x h = omega (arith, h.1)

pub cons_cases : {X : Type 0} (x : X) (xs : List X) (y : X) → Contains (x ∷ xs) y → (x ≡ y) ⊎ Contains xs y
cons_cases x xs y h = elim (Contains-append_cases (x ∷ []) xs y h) [
  | inl a ↦ elim (Contains-push_cases [] x y a) [ inl e ↦ absurd (empty y e) | inr e ↦ inl e ]
  | inr b ↦ inr b
]

some_below : {X : Type 0} (xs : List X) (k : ℕ) → k < length xs → None ≡ slice_get xs k → ⊥
some_below [] k l h = omega (arith, l)
some_below (x ∷ xs) zero l h = absurd (cc)
some_below (x ∷ xs) (suc k) l h = some_below xs k (omega (arith, l)) h

pub length-map' : {X Y : Type 0} (f : X → Y) (xs : List X) → length (map f xs) ≡ length xs
length-map' f [] = refl
length-map' f (x ∷ xs) = ap suc (length-map' f xs)

-- past the end no element is left to find
pub found : {X Y : Type 0} (f : X → Y) (test : X → Bool) (xs : List X) (i left k : ℕ) → length xs ≤ i → k < length (filter test xs) → slice_get (map f (filter test (drop i xs))) left ≡ slice_get (map f (filter test xs)) k → ⊥
found f test xs i left k l h e =
    some_below (map f (filter test xs)) k (omega (arith, h, length-map' f (filter test xs)))
    (sym (ap (λ ys. slice_get (map f (filter test ys)) left) (drop_of_length-le xs l)) ∙ e)

-- rising numbers of posting bound their count
rises_below : (low : ℕ) (ls : List Letter) → Rises low ls → low ≤ 2 ^ 32 → low + length ls ≤ 2 ^ 32
rises_below low [] r h = omega (arith, h)
rises_below low (l ∷ ls) r h = omega (arith, r.0, r.1.0, rises_below (l.posted + 1) ls r.1.1 (omega (arith, r.1.0)))

rises_under : (low : ℕ) (l : Letter) (ls : List Letter) → Rises low (l ∷ ls) → low + length (l ∷ ls) < 2 ^ 32
rises_under low l [] r = omega (arith, r.0, r.1.0)
rises_under low l (m ∷ ls) r = let n = rises_under (l.posted + 1) m ls r.1.1 in omega (arith, r.0, n)

pub rises_length : (ls : List Letter) → Rises 0 ls → length ls < 2 ^ 32
rises_length [] r = omega arith
rises_length (l ∷ ls) r = let n = rises_under 0 l ls r in omega (arith, n)

pub rises_lower : (low high : ℕ) (ls : List Letter) → low ≤ high → Rises high ls → Rises low ls
rises_lower low high [] h r = tt
rises_lower low high (l ∷ ls) h r = (omega (arith, h, r.0), r.1)

-- a letter posted after all others stands last
pub rises_push : (low : ℕ) (ls : List Letter) (l : Letter) → Rises low ls → low ≤ l.posted → ((w : Letter) → Contains ls w → w.posted < l.posted) → l.posted + 1 < 2 ^ 32 → Rises low (ls ++ l ∷ [])
rises_push low [] l r h last fits = (h, (fits, tt))
rises_push low (k ∷ ls) l r h last fits =
    let above = last k (0, omega arith, refl) in
    (r.0, (r.1.0, rises_push (k.posted + 1) ls l r.1.1 (omega (arith, above)) (λ w c. last w (c.0 + 1, omega (arith, c.1), there k ls w c.0 ∙ c.2)) fits))
  where
    there : (k : Letter) (ls : List Letter) (w : Letter) (i : ℕ) → get_or (k ∷ ls) (i + 1) w ≡ get_or ls i w
    there k ls w i = ap (λ j. get_or (k ∷ ls) j w) (add-one i)

-- one letter less
pub rises_without : (low : ℕ) (ls : List Letter) (i : ℕ) → Rises low ls → Rises low (take i ls ++ drop (suc i) ls)
rises_without low [] zero r = tt
rises_without low [] (suc i) r = tt
rises_without low (l ∷ ls) zero r = rises_lower low (l.posted + 1) ls (omega (arith, r.0)) r.1.1
rises_without low (l ∷ ls) (suc i) r = (r.0, (r.1.0, rises_without (l.posted + 1) ls i r.1.1))

-- a list by one of its places
pub parted : {X : Type 0} (xs : List X) (i : ℕ) (d : X) → i < length xs → xs ≡ take i xs ++ (get_or xs i d ∷ drop (suc i) xs)
parted [] i d l = absurd (omega (arith, l))
parted (x ∷ xs) zero d l = refl
parted (x ∷ xs) (suc i) d l = ap (λ ys. x ∷ ys) (parted xs i d (omega (arith, l)))

pub rises_pushed : (b : Bool) (ls : List Letter) (l : Letter) → Rises 0 ls → ((w : Letter) → Contains ls w → w.posted < l.posted) → l.posted + 1 < 2 ^ 32 → Rises 0 (cond b (ls ++ l ∷ []) ls)
rises_pushed true ls l r last fits = rises_push 0 ls l r (omega arith) last fits
rises_pushed false ls l r last fits = r

-- a letter of this name has this name
pub named_is : (id : LetterId) (l : Letter) → is_named id l ≡ true → l.id ≡ id
named_is id l h =
    let k = and_parts _ _ h in
    let p = eqb-true l.id.sender.no id.sender.no k.0 in
    let n = eqb-true l.id.number id.number k.1 in
    λ i. record { sender = record { no = p i }; number = n i }

-- the letter at a place leaves
pub leaves_at : (ls : List Letter) (i : ℕ) (id : LetterId) (l : Letter) → i < length ls → l ≡ get_or ls i l → l.id ≡ id → ((w : Letter) → Contains (take i ls) w → is_named id w ≡ false) → Leaves ls l (take i ls ++ drop (suc i) ls)
leaves_at ls i id l h at name first = record {
  before = take i ls;
  after = drop (suc i) ls;
  was = parted ls i l h ∙ ap (λ k. take i ls ++ (k ∷ drop (suc i) ls)) (sym at);
  is = refl;
  first = λ k c. ap (λ name. is_named name k) name ∙ first k c;
}

-- a letter whose name none of the others has
all_pushed : {X : Type 0} (P : X → Type 0) (xs : List X) (x : X) → AllByRecursion P xs → P x → AllByRecursion P (xs ++ x ∷ [])
all_pushed P [] x h k = (k, tt)
all_pushed P (y ∷ xs) x h k = (h.0, all_pushed P xs x h.1 k)

distinct_push : (ls : List Letter) (l : Letter) → IsDistinct same_letter ls → ((w : Letter) → Contains ls w → is_named l.id w ≡ false) → IsDistinct same_letter (ls ++ l ∷ [])
unfolding IsDistinct
distinct_push [] l d h = (tt, tt)
distinct_push (k ∷ ls) l d h = (all_pushed (λ w. same_letter k w ≡ false) ls l d.0 (h k (0, omega arith, refl)), distinct_push ls l d.1 (λ w c. h w (c.0 + 1, omega (arith, c.1), there k ls w c.0 ∙ c.2)))
  where
    there : (k : Letter) (ls : List Letter) (w : Letter) (i : ℕ) → get_or (k ∷ ls) (i + 1) w ≡ get_or ls i w
    there k ls w i = ap (λ j. get_or (k ∷ ls) j w) (add-one i)

pub distinct_pushed : (b : Bool) (ls : List Letter) (l : Letter) → IsDistinct same_letter ls → ((w : Letter) → Contains ls w → is_named l.id w ≡ false) → IsDistinct same_letter (cond b (ls ++ l ∷ []) ls)
distinct_pushed true ls l d h = distinct_push ls l d h
distinct_pushed false ls l d h = d

-- one letter less
all_without : {X : Type 0} (P : X → Type 0) (xs : List X) (i : ℕ) → AllByRecursion P xs → AllByRecursion P (take i xs ++ drop (suc i) xs)
all_without P [] zero h = tt
all_without P [] (suc i) h = tt
all_without P (x ∷ xs) zero h = h.1
all_without P (x ∷ xs) (suc i) h = (h.0, all_without P xs i h.1)

pub distinct_without : (ls : List Letter) (i : ℕ) → IsDistinct same_letter ls → IsDistinct same_letter (take i ls ++ drop (suc i) ls)
unfolding IsDistinct
distinct_without [] zero d = tt
distinct_without [] (suc i) d = tt
distinct_without (l ∷ ls) zero d = d.1
distinct_without (l ∷ ls) (suc i) d = (all_without (λ w. same_letter l w ≡ false) ls i d.0, distinct_without ls i d.1)

pub distinct_none : (ls : List Letter) → ls ≡ [] → IsDistinct same_letter ls
unfolding IsDistinct
distinct_none ls h = subst (IsDistinct same_letter) (sym h) tt

all_in : {X : Type 0} (P : X → Type 0) (xs : List X) (x : X) → AllByRecursion P xs → Contains xs x → P x
all_in P [] x h c = absurd (empty x c)
all_in P (y ∷ xs) x h c = elim (cons_cases y xs x c) [ inl e ↦ subst P e h.0 | inr d ↦ all_in P xs x h.1 d ]

two_named : (id : LetterId) (k l : Letter) → is_named id k ≡ true → is_named id l ≡ true → same_letter k l ≡ true
two_named id k l h m =
    let a = and_parts _ _ h in let b = and_parts _ _ m in
    let s : k.id.sender.no ≡ l.id.sender.no = eqb-true k.id.sender.no id.sender.no a.0 ∙ sym (eqb-true l.id.sender.no id.sender.no b.0) in
    let n : k.id.number ≡ l.id.number = eqb-true k.id.number id.number a.1 ∙ sym (eqb-true l.id.number id.number b.1) in
    ap (λ b. b && (k.id.number == l.id.number)) (eq-eqb k.id.sender.no l.id.sender.no s) ∙ eq-eqb k.id.number l.id.number n

-- one letter has the name
pub one_named : (id : LetterId) (ls : List Letter) → IsDistinct same_letter ls → (k l : Letter) → Contains ls k → Contains ls l → is_named id k ≡ true → is_named id l ≡ true → k ≡ l
unfolding IsDistinct
one_named id [] d k l c e h m = absurd (empty k c)
one_named id (x ∷ ls) d k l c e h m = elim (cons_cases x ls k c) [
  | inl p ↦ elim (cons_cases x ls l e) [
    | inl q ↦ sym p ∙ q
    | inr q ↦ absurd (false≢true (sym (all_in (λ w. same_letter x w ≡ false) ls l d.0 q) ∙ two_named id x l (ap (is_named id) p ∙ h) m))
  ]
  | inr p ↦ elim (cons_cases x ls l e) [
    | inl q ↦ absurd (false≢true (sym (all_in (λ w. same_letter x w ≡ false) ls k d.0 p) ∙ two_named id x k (ap (is_named id) q ∙ m) h))
    | inr q ↦ one_named id ls d.1 k l p q h m
  ]
]

-- what is asked of the letter of a name
pub asked_of : (id : LetterId) (ls : List Letter) (l w : Letter) (b : Bool) (test : Letter → Bool) → IsDistinct same_letter ls → Contains ls l → is_named id l ≡ true → Contains ls w → is_named id w ≡ true → b ≡ test l → b ≡ test w
asked_of id ls l w b test d c m e n h = h ∙ ap test (one_named id ls d l w c e m n)
