-- Going through the letters that wait for a process.
use Rattle.std.proofs.Common.{◌≡◌, ℕ, ◌+◌, ◌<◌, ◌≤◌, Bool, true, false, cond, leb, List, [], ◌∷◌, ◌++◌, Some, None}
use Rattle.std.proofs.Common.{refl, sym, ap, ◌∙◌, subst, inl, inr, arith, append_assoc, append-nil}
use Rattle.std.specs.Prelude.{Contains, ◌^◌, ◌==◌, find, filter, map}
use Rattle.std.specs.List.{flat_map}
use Rattle.std.proofs.lemmas.List.Elements.{Contains-append_cases, Contains-append_right}
use Rattle.std.proofs.lemmas.Option.{same_Some, none-some}
use Rattle.std.proofs.lemmas.Bool.Decides.{nat_tests}
use Rattle.nm_base.specs.declared.letter.Letter.{Letter}
use Rattle.nm_base.specs.Message.{Message, message_of}
use Rattle.event_list.proofs.Members.{empty, cons_here, cons_there, cons_cases, in_filter}
use Rattle.mailboxes.specs.Letters.{Rises}
use Rattle.debugger.specs.Looks.{messages_to}
use Rattle.debugger.specs.private.Looking.{letters_to, is_from}

-- ---- what is found among those that are kept

module _ {A : Type 0} (t : A → Bool) (y : A) (ys : List A) where
  find_first : t y ≡ true → find t (y ∷ ys) ≡ Some y
  find_first e = ap (λ b. cond b (Some y) (find t ys)) e

  find_next : t y ≡ false → find t (y ∷ ys) ≡ find t ys
  find_next e = ap (λ b. cond b (Some y) (find t ys)) e

  filter_in : t y ≡ true → filter t (y ∷ ys) ≡ y ∷ filter t ys
  filter_in e = ap (λ b. cond b (y ∷ filter t ys) (filter t ys)) e

  filter_out : t y ≡ false → filter t (y ∷ ys) ≡ filter t ys
  filter_out e = ap (λ b. cond b (y ∷ filter t ys) (filter t ys)) e

module _ {A : Type 0} (keep t : A → Bool) where
  find_kept : (y : A) (ys : List A) → keep y ≡ true → t y ≡ false
      → find t (filter keep (y ∷ ys)) ≡ find t (filter keep ys)
  find_kept y ys k e = ap (find t) (filter_in keep y ys k) ∙ find_next t y (filter keep ys) e

  find_dropped : (y : A) (ys : List A) → keep y ≡ false → find t (filter keep (y ∷ ys)) ≡ find t (filter keep ys)
  find_dropped y ys k = ap (find t) (filter_out keep y ys k)

  find_past : (y : A) (ys : List A) → t y ≡ false → find t (filter keep (y ∷ ys)) ≡ find t (filter keep ys)
  find_past y ys e = by (keep y) refl
    where
      by : (d : Bool) → keep y ≡ d → find t (filter keep (y ∷ ys)) ≡ find t (filter keep ys)
      by true k = find_kept y ys k e
      by false k = find_dropped y ys k

  -- what is found first of all is found first of those that are kept, if it is one of them
  pub found_kept : (xs : List A) (x : A) → find t xs ≡ Some x → keep x ≡ true → find t (filter keep xs) ≡ Some x
  found_kept [] x h k = absurd (none-some x h)
  found_kept (y ∷ ys) x h k = by (λ h. found_kept ys x h k) (t y) refl
    where
      by : (find t ys ≡ Some x → find t (filter keep ys) ≡ Some x) → (b : Bool) → t y ≡ b
          → find t (filter keep (y ∷ ys)) ≡ Some x
      by behind true e =
          let same : y ≡ x = same_Some y x (sym (find_first t y ys e) ∙ h) in
          ap (find t) (filter_in keep y ys (ap keep same ∙ k)) ∙ find_first t y (filter keep ys) e ∙ ap Some same
      by behind false e = find_past y ys e ∙ behind (sym (find_next t y ys e) ∙ h)

  -- and where nothing is found, nothing is found of those
  pub none_kept : (xs : List A) → find t xs ≡ None → find t (filter keep xs) ≡ None
  none_kept [] h = refl
  none_kept (y ∷ ys) h = by (none_kept ys) (t y) refl
    where
      by : (find t ys ≡ None → find t (filter keep ys) ≡ None) → (b : Bool) → t y ≡ b
          → find t (filter keep (y ∷ ys)) ≡ None
      by behind true e = absurd (none-some y (sym h ∙ find_first t y ys e))
      by behind false e = find_past y ys e ∙ behind (sym (find_next t y ys e) ∙ h)

-- ---- by numbers of posting

is_later : (from posted : ℕ) → from ≤ posted → leb from posted ≡ true
is_later from posted h = grind (arith, nat_tests)

is_earlier : (from posted : ℕ) → posted < from → leb from posted ≡ false
is_earlier from posted h = grind (arith, nat_tests)

at_least : (from posted : ℕ) → leb from posted ≡ true → from ≤ posted
at_least from posted h = grind (arith, nat_tests)

at_most : (from posted : ℕ) → leb from posted ≡ false → posted < from
at_most from posted h = grind (arith, nat_tests)

pub found_fits : (low from : ℕ) (ls : List Letter) (l : Letter) → Rises low ls → find (is_from from) ls ≡ Some l
    → (from ≤ l.posted) × (l.posted + 1 < 2 ^ 32)
found_fits low from [] l r h = absurd (none-some l h)
found_fits low from (k ∷ ks) l r h = by (found_fits (k.posted + 1) from ks l r.1.1) (leb from k.posted) refl
  where
    by : (find (is_from from) ks ≡ Some l → (from ≤ l.posted) × (l.posted + 1 < 2 ^ 32)) → (b : Bool)
        → leb from k.posted ≡ b
        → (from ≤ l.posted) × (l.posted + 1 < 2 ^ 32)
    by behind true e =
        let same : k ≡ l = same_Some k l (sym (find_first (is_from from) k ks e) ∙ h) in
        subst (λ (j : Letter). (from ≤ j.posted) × (j.posted + 1 < 2 ^ 32)) same (at_least from k.posted e, r.1.0)
    by behind false e = behind (sym (find_next (is_from from) k ks e) ∙ h)

module _ (keep : Letter → Bool) where
  -- the same is found from any number that is no more than all of them
  same_above : (low a b : ℕ) (ls : List Letter) → Rises low ls → a ≤ low → b ≤ low
      → find (is_from a) (filter keep ls) ≡ find (is_from b) (filter keep ls)
  same_above low a b [] r x y = refl
  same_above low a b (l ∷ ls) r x y =
      by (same_above (l.posted + 1) a b ls r.1.1 (omega (arith, r.0, x)) (omega (arith, r.0, y))) (keep l) refl
    where
      by : find (is_from a) (filter keep ls) ≡ find (is_from b) (filter keep ls) → (d : Bool) → keep l ≡ d
          → find (is_from a) (filter keep (l ∷ ls)) ≡ find (is_from b) (filter keep (l ∷ ls))
      by behind true k =
          ap (find (is_from a)) (filter_in keep l ls k)
          ∙ find_first (is_from a) l (filter keep ls) (is_later a l.posted (omega (arith, r.0, x)))
          ∙ sym (find_first (is_from b) l (filter keep ls) (is_later b l.posted (omega (arith, r.0, y))))
          ∙ sym (ap (find (is_from b)) (filter_in keep l ls k))
      by behind false k = find_dropped keep (is_from a) l ls k ∙ behind ∙ sym (find_dropped keep (is_from b) l ls k)

  -- behind one that isn't kept the same is found
  pub found_behind : (low from : ℕ) (ls : List Letter) (l : Letter) → Rises low ls → find (is_from from) ls ≡ Some l
      → keep l ≡ false
      → find (is_from from) (filter keep ls) ≡ find (is_from (l.posted + 1)) (filter keep ls)
  found_behind low from [] l r h k = absurd (none-some l h)
  found_behind low from (j ∷ js) l r h k =
      by (λ h. found_behind (j.posted + 1) from js l r.1.1 h k) (leb from j.posted) refl
    where
      by : (find (is_from from) js ≡ Some l
          → find (is_from from) (filter keep js) ≡ find (is_from (l.posted + 1)) (filter keep js))
          → (b : Bool) → leb from j.posted ≡ b
          → find (is_from from) (filter keep (j ∷ js)) ≡ find (is_from (l.posted + 1)) (filter keep (j ∷ js))
      by behind true e =
          let same : j ≡ l = same_Some j l (sym (find_first (is_from from) j js e) ∙ h) in
          let dropped : keep j ≡ false = ap keep same ∙ k in
          let number : j.posted ≡ l.posted = ap (λ (m : Letter). m.posted) same in
          find_dropped keep (is_from from) j js dropped
          ∙ same_above (j.posted + 1) from (l.posted + 1) js r.1.1 (omega (arith, at_least from j.posted e))
          (omega (arith, number))
          ∙ sym (find_dropped keep (is_from (l.posted + 1)) j js dropped)
      by behind false e =
          let more = sym (find_next (is_from from) j js e) ∙ h in
          let fits = found_fits (j.posted + 1) from js l r.1.1 more in
          let past = is_earlier (l.posted + 1) j.posted (omega (arith, fits.0, at_most from j.posted e)) in
          find_past keep (is_from from) j js e ∙ behind more
          ∙ sym (find_past keep (is_from (l.posted + 1)) j js past)

lower : (a b : ℕ) (ls : List Letter) → a ≤ b → Rises b ls → Rises a ls
lower a b [] h r = tt
lower a b (l ∷ ls) h r = (omega (arith, h, r.0), r.1)

-- those that are kept rise, too
pub rises_kept : (keep : Letter → Bool) (low : ℕ) (ls : List Letter) → Rises low ls → Rises low (filter keep ls)
rises_kept keep low [] r = tt
rises_kept keep low (l ∷ ls) r = by (rises_kept keep (l.posted + 1) ls r.1.1) (keep l) refl
  where
    by : Rises (l.posted + 1) (filter keep ls) → (b : Bool) → keep l ≡ b → Rises low (filter keep (l ∷ ls))
    by behind true k = subst (Rises low) (sym (filter_in keep l ls k)) (r.0, (r.1.0, behind))
    by behind false k =
        subst (Rises low) (sym (filter_out keep l ls k))
        (lower low (l.posted + 1) (filter keep ls) (omega (arith, r.0)) behind)

pub kept_in : (keep : Letter → Bool) (ls : List Letter) (l : Letter) → Contains (filter keep ls) l → Contains ls l
kept_in keep ls l c = (in_filter keep ls l c).0

-- ---- the letters from a number of posting on

-- the letters that were posted at this number or later are those from a place on
pub record IsFrom (letters : List Letter) (from : ℕ) (before rest : List Letter) : Type 0 where
  pub split : letters ≡ before ++ rest
  pub earlier : (l : Letter) → Contains before l → l.posted < from
  pub later : Rises from rest

skipped : (from : ℕ) (before rest : List Letter) → ((l : Letter) → Contains before l → l.posted < from)
    → find (is_from from) (before ++ rest) ≡ find (is_from from) rest
skipped from [] rest h = refl
skipped from (l ∷ ls) rest h =
    find_next (is_from from) l (ls ++ rest) (is_earlier from l.posted (h l (cons_here l ls)))
    ∙ skipped from ls rest (λ k c. h k (cons_there l ls k c))

pub all_from : (letters : List Letter) → Rises 0 letters → IsFrom letters 0 [] letters
all_from letters r = record { split = refl; earlier = λ l c. absurd (empty l c); later = r }

-- the letter that is found, and those behind it
pub record Found (letters : List Letter) (from : ℕ) (rest : List Letter) (l : Letter) : Type 0 where
  pub more : List Letter
  pub is : rest ≡ l ∷ more
  pub first : from ≤ l.posted
  pub fits : l.posted + 1 < 2 ^ 32
  pub in_it : Contains letters l

module _ (letters : List Letter) (from : ℕ) (before rest : List Letter) (place : IsFrom letters from before rest) where
  found_rest : find (is_from from) letters ≡ find (is_from from) rest
  found_rest = ap (find (is_from from)) place.split ∙ skipped from before rest place.earlier

  pub found : (l : Letter) → Some l ≡ find (is_from from) letters → Found letters from rest l
  found l e = by rest place.split place.later (sym found_rest ∙ sym e)
    where
      by : (rest : List Letter) → letters ≡ before ++ rest → Rises from rest → find (is_from from) rest ≡ Some l
          → Found letters from rest l
      by [] split r e = absurd (none-some l e)
      by (k ∷ ks) split r e =
          let same : k ≡ l = same_Some k l (sym (find_first (is_from from) k ks (is_later from k.posted r.0)) ∙ e) in
          let in_all =
          subst (λ (ls : List Letter). Contains ls k) (sym split)
          (Contains-append_right before (k ∷ ks) k (cons_here k ks)) in
          record {
            more = ks;
            is = ap (λ (j : Letter). j ∷ ks) same;
            first = subst (λ (j : Letter). from ≤ j.posted) same r.0;
            fits = subst (λ (j : Letter). j.posted + 1 < 2 ^ 32) same r.1.0;
            in_it = subst (λ (j : Letter). Contains letters j) same in_all;
          }

  -- where nothing is found, none is left
  pub found_nothing : None ≡ find (is_from from) letters → rest ≡ []
  found_nothing e = by rest place.later (sym found_rest ∙ sym e)
    where
      by : (rest : List Letter) → Rises from rest → find (is_from from) rest ≡ None → rest ≡ []
      by [] r e = refl
      by (k ∷ ks) r e = absurd (none-some k (sym e ∙ find_first (is_from from) k ks (is_later from k.posted r.0)))

  pub before_all : rest ≡ [] → before ≡ letters
  before_all none = sym (place.split ∙ ap (λ (ls : List Letter). before ++ ls) none ∙ append-nil before)

  -- behind the letter that was found
  pub next_from : (l : Letter) (more : List Letter) → rest ≡ l ∷ more
      → IsFrom letters (l.posted + 1) (before ++ l ∷ []) more
  next_from l more is =
      let later : Rises from (l ∷ more) = subst (Rises from) is place.later in
      record {
        split = place.split ∙ ap (λ (ls : List Letter). before ++ ls) is ∙ sym (append_assoc before (l ∷ []) more);
        earlier = λ k c. elim (Contains-append_cases before (l ∷ []) k c) [
          | inl o ↦ omega (arith, place.earlier k o, later.0)
          | inr o ↦ elim (cons_cases l [] k o) [
            | inl e ↦ subst (λ (j : Letter). j.posted < l.posted + 1) e (omega arith)
            | inr n ↦ absurd (empty k n)
          ]
        ];
        later = later.1.1;
      }

-- ---- the letters to a process

pub to_map : (q : ℕ) (ls : List Letter) → messages_to q (map message_of ls) ≡ map message_of (letters_to q ls)
to_map q [] = refl
to_map q (l ∷ ls) = by (to_map q ls) (l.dest.no == q) refl
  where
    by : messages_to q (map message_of ls) ≡ map message_of (letters_to q ls) → (b : Bool) → (l.dest.no == q) ≡ b
        → messages_to q (map message_of (l ∷ ls)) ≡ map message_of (letters_to q (l ∷ ls))
    by behind true e =
        filter_in (λ (m : Message). m.dest.no == q) (message_of l) (map message_of ls) e
        ∙ ap (λ (ms : List Message). message_of l ∷ ms) behind
        ∙ sym (ap (map message_of) (filter_in (λ (k : Letter). k.dest.no == q) l ls e))
    by behind false e =
        filter_out (λ (m : Message). m.dest.no == q) (message_of l) (map message_of ls) e ∙ behind
        ∙ sym (ap (map message_of) (filter_out (λ (k : Letter). k.dest.no == q) l ls e))

flat_of_map : {A B : Type 0} (f : B → List ℕ) (g : A → B) (xs : List A)
    → flat_map f (map g xs) ≡ flat_map (λ x. f (g x)) xs
flat_of_map f g [] = refl
flat_of_map f g (x ∷ xs) = ap (λ (ys : List ℕ). f (g x) ++ ys) (flat_of_map f g xs)

-- a text of the letters is one of the messages
pub text_to : (f : Message → List ℕ) (q : ℕ) (ls : List Letter) (ms : List Message) → map message_of ls ≡ ms
    → flat_map (λ l. f (message_of l)) (letters_to q ls) ≡ flat_map f (messages_to q ms)
text_to f q ls ms same =
    sym (flat_of_map f message_of (letters_to q ls)) ∙ ap (flat_map f) (sym (to_map q ls) ∙ ap (messages_to q) same)

-- no message waits for a process that no letter waits for
pub none_to : (q : ℕ) (ls : List Letter) (ms : List Message) → map message_of ls ≡ ms → letters_to q ls ≡ []
    → messages_to q ms ≡ []
none_to q ls ms same none = ap (messages_to q) (sym same) ∙ to_map q ls ∙ ap (map message_of) none

pub other_numbers : (p q : ℕ) → (p ≡ q → ⊥) → (p == q) ≡ false
other_numbers p q h = grind (arith, nat_tests)

pub equal_numbers : (p q : ℕ) → p ≡ q → (p == q) ≡ true
equal_numbers p q h = grind (arith, nat_tests)
