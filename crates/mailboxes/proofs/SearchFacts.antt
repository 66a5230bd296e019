-- Where a search among the waiting letters may begin.
use Rattle.std.proofs.Common.{◌≡◌, ℕ, zero, suc, ◌+◌, ◌-◌, ◌<◌, ◌≤◌, Bool, true, false, cond, List, [], ◌∷◌, ◌++◌, length, take, drop, get_or, Some, refl, sym, ap, ◌∙◌, arith, add-one}
use Rattle.std.specs.Prelude.{find, not, slice_get, filter, map, nat_le}
use Rattle.std.proofs.lemmas.Bool.{lt-leb, false≢true}
use Rattle.std.proofs.lemmas.Option.{same_Some, none-some}
use Rattle.std.proofs.Math.Seq.{take-suc}
use Rattle.std.proofs.lemmas.List.Filters.{length-filter_both}
use Rattle.nm_base.specs.declared.letter.Letter.{Letter}
use Rattle.mailboxes.specs.declared.queues.Slot.{Slot}
use Rattle.mailboxes.specs.Letters.{Rises}
use Rattle.mailboxes.specs.Queues.{waiting_in}
use Rattle.mailboxes.proofs.QueueFacts.{posted_from, read_at}

-- what was posted at a number or later
abbrev since : ℕ → Letter → Bool
since posted l = nat_le posted l.posted

-- nothing is found up to a waiting letter that was posted before
skipped : (posted low : ℕ) (slots : List Slot) (i : ℕ) (s : Slot) → Rises low (waiting_in slots) → slice_get slots i ≡ Some s → s.waits ≡ true → s.letter.posted < posted
    → find (since posted) (waiting_in (drop (suc i) slots)) ≡ find (since posted) (waiting_in slots)
skipped posted low [] i s r is w l = absurd (none-some s is)
skipped posted low (x ∷ xs) i s r is w l = by x.waits refl r i is (λ low i r is. skipped posted low xs i s r is w l)
  where
    by : (b : Bool) → x.waits ≡ b → Rises low (map (λ t. t.letter) (cond b (x ∷ filter (λ t. t.waits) xs) (filter (λ t. t.waits) xs))) → (i : ℕ) → slice_get (x ∷ xs) i ≡ Some s
        → ((low i : ℕ) → Rises low (waiting_in xs) → slice_get xs i ≡ Some s → find (since posted) (waiting_in (drop (suc i) xs)) ≡ find (since posted) (waiting_in xs))
        → find (since posted) (waiting_in (drop i xs)) ≡ find (since posted) (map (λ t. t.letter) (cond b (x ∷ filter (λ t. t.waits) xs) (filter (λ t. t.waits) xs)))
    by true e r zero is ih =
        let earlier : x.letter.posted < posted = omega (arith, l, ap (λ (t : Slot). t.letter.posted) (same_Some x s is)) in
        ap (λ b. cond b (Some x.letter) (find (since posted) (waiting_in xs))) (sym (lt-leb posted x.letter.posted earlier))
    by true e r (suc i) is ih =
        let later = posted_from (x.letter.posted + 1) xs i s r.1.1 is w in
        ih (x.letter.posted + 1) i r.1.1 is
        ∙ ap (λ b. cond b (Some x.letter) (find (since posted) (waiting_in xs))) (sym (lt-leb posted x.letter.posted (omega (arith, later, l))))
    by false e r zero is ih = absurd (false≢true (sym e ∙ ap (λ (t : Slot). t.waits) (same_Some x s is) ∙ w))
    by false e r (suc i) is ih = ih low i r is

-- so a search may begin behind it
pub before_start : (posted : ℕ) (slots : List Slot) (start : ℕ) (d : Slot) → Rises 0 (waiting_in slots) → 0 < start → start ≤ length slots → (get_or slots (start - 1) d).waits ≡ true
    → (get_or slots (start - 1) d).letter.posted < posted → find (since posted) (waiting_in (drop start slots)) ≡ find (since posted) (waiting_in slots)
before_start posted slots start d r some within w l =
    let at = read_at slots (start - 1) d (omega (arith, some, within)) in
    let next : start ≡ suc (start - 1) = omega (arith, some) in
    ap (λ j. find (since posted) (waiting_in (drop j slots))) next ∙ skipped posted 0 slots (start - 1) (get_or slots (start - 1) d) r at w l

-- the slots that wait, and those of them that wait
kept_twice : (slots : List Slot) → filter (λ s. s.waits) (filter (λ s. s.waits) slots) ≡ filter (λ s. s.waits) slots
kept_twice [] = refl
kept_twice (x ∷ xs) = by x.waits refl (kept_twice xs)
  where
    by : (b : Bool) → x.waits ≡ b → filter (λ s. s.waits) (filter (λ s. s.waits) xs) ≡ filter (λ s. s.waits) xs
        → filter (λ s. s.waits) (cond b (x ∷ filter (λ s. s.waits) xs) (filter (λ s. s.waits) xs)) ≡ cond b (x ∷ filter (λ s. s.waits) xs) (filter (λ s. s.waits) xs)
    by true e ih = ap (λ b. cond b (x ∷ filter (λ s. s.waits) (filter (λ s. s.waits) xs)) (filter (λ s. s.waits) (filter (λ s. s.waits) xs))) e ∙ ap (λ ys. x ∷ ys) ih
    by false e ih = ih

-- letting go of the others keeps the letters that wait
pub waiting_kept : (old kept : List Slot) → kept ≡ filter (λ s. s.waits) old → waiting_in kept ≡ waiting_in old
waiting_kept old kept is = ap waiting_in is ∙ ap (λ ss. map (λ s. s.letter) ss) (kept_twice old)

pub fewer_kept : (old kept : List Slot) → kept ≡ filter (λ s. s.waits) old → length kept ≤ length old
fewer_kept old kept is = omega (arith, ap length is, length-filter_both (λ (s : Slot). s.waits) (λ (s : Slot). not s.waits) (λ x. refl) old)

-- the slots up to a place, and the one there
pub upto_next : (slots : List Slot) (i : ℕ) (d : Slot) → i < length slots → take (i + 1) slots ≡ take i slots ++ get_or slots i d ∷ []
upto_next slots i d l = ap (λ k. take k slots) (add-one i) ∙ take-suc slots i d l
