-- Which channels had a letter already.
use Rattle.std.proofs.Common.{◌≡◌, ℕ, zero, suc, ◌*◌, ◌%◌, ◌^◌, ◌<◌, Bool, true, false, List, [], ◌∷◌, ◌++◌, length, set, get_or, get_or-set_same, get_or-set_other, replicate, refl, sym, ap, ◌∙◌, inl, inr, arith, w32}
use Rattle.std.specs.Prelude.{◌&&◌, ◌||◌, ◌==◌, nat_lt, bit_or}
use Rattle.std.specs.List.{list_any}
use Rattle.std.proofs.lemmas.Bool.{cases_eq, cases_Bool, false_from_ne_true, and_parts, and_from, or_right, ltb-true, eqb-true, eq-eqb, false≢true}
use Rattle.std.proofs.lemmas.List.Folds.{list_any-append}
use Rattle.std.proofs.lemmas.Nat.Bits.{bit_at-zero, bit_at_set_same, bit_at_set_other}
use Rattle.nm_base.specs.declared.letter.Letter.{Letter}
use Rattle.nm_base.specs.declared.limits.TheConstants.{MAX_PROCESSES}
use Rattle.nm_base.specs.Channels.{has_channel}
use Rattle.mailboxes.specs.Letters.{are_rivals}
use Rattle.recorder.specs.private.Seen.{has_place, set_of, Holds}

-- the three numbers are small
pub record IsSmall (l : Letter) : Type 0 where
  pub dest : l.dest.no < 32
  pub sender : l.id.sender.no < 32
  pub chan : l.chan < 32

pub small : (l : Letter) → has_place l ≡ true → IsSmall l
small l h =
    let a = and_parts _ _ h in
    let b = and_parts _ _ a.1 in
    record { dest = ltb-true l.dest.no 32 a.0; sender = ltb-true l.id.sender.no 32 b.0; chan = ltb-true l.chan 32 b.1 }

-- two letters of one sender, receiver and channel
record Same (k l : Letter) : Type 0 where
  sender : k.id.sender.no ≡ l.id.sender.no
  dest : k.dest.no ≡ l.dest.no
  chan : k.chan ≡ l.chan

same : (k l : Letter) → are_rivals k l ≡ true → Same k l
same k l h =
    let a = and_parts _ _ h in
    let b = and_parts _ _ a.1 in
    record {
      sender = eqb-true k.id.sender.no l.id.sender.no a.0;
      dest = eqb-true k.dest.no l.dest.no b.0;
      chan = eqb-true k.chan l.chan b.1;
    }

rivals : (k l : Letter) → Same k l → are_rivals k l ≡ true
rivals k l s =
    and_from _ _ (eq-eqb k.id.sender.no l.id.sender.no s.sender)
    (and_from _ _ (eq-eqb k.dest.no l.dest.no s.dest) (eq-eqb k.chan l.chan s.chan))

no_channel : (chan : ℕ) → has_channel 0 chan ≡ false
unfolding has_channel
no_channel chan = ap (λ b. b == 1) (bit_at-zero chan)

all_zero : (n i : ℕ) → (get_or {A = ℕ} (replicate n 0) i 0) ≡ 0
all_zero zero i = refl
all_zero (suc n) zero = refl
all_zero (suc n) (suc i) = all_zero n i

-- before the first letter
pub holds_none : Holds (replicate 1024 0) []
holds_none = record { each = λ l h. ap (λ s. has_channel s l.chan) (all_zero 1024 (set_of l)) ∙ no_channel l.chan }

-- a channel more in a set
abbrev pub with_channel : ℕ → ℕ → ℕ
with_channel s chan = bit_or s (1 * 2 ^ chan % 2 ^ 32)

-- the sets with the letter's channel
abbrev pub marked : List ℕ → Letter → List ℕ
marked sets l = set sets (set_of l) (with_channel (get_or sets (set_of l) 0) l.chan)

channel_same : (s chan : ℕ) → chan < 32 → has_channel (with_channel s chan) chan ≡ true
unfolding has_channel
channel_same s chan h = ap (λ b. b == 1) (bit_at_set_same w32 s chan h)

channel_other : (s chan c : ℕ) → chan < 32 → (c ≡ chan → ⊥)
    → has_channel (with_channel s chan) c ≡ has_channel s c
unfolding has_channel
channel_other s chan c h n = ap (λ b. b == 1) (bit_at_set_other w32 s chan h c n)

or_false : (a b : Bool) → b ≡ false → (a || (b || false)) ≡ a
or_false true b e = refl
or_false false b e = ap (λ c. c || false) e

-- with one letter more behind those that were gone through
more_behind : (gone : List Letter) (l m : Letter)
    → list_any (λ k. are_rivals k m) (gone ++ l ∷ [])
    ≡ (list_any (λ k. are_rivals k m) gone || (are_rivals l m || false))
more_behind gone l m = list_any-append (λ k. are_rivals k m) gone (l ∷ [])

-- rivals have a place both or neither
place_same : (k l : Letter) → are_rivals k l ≡ true → has_place k ≡ has_place l
place_same k l r =
    let s = same k l r in
    ap (λ n. nat_lt n MAX_PROCESSES && (nat_lt k.id.sender.no MAX_PROCESSES && nat_lt k.chan 32)) s.dest
    ∙ ap (λ n. nat_lt l.dest.no MAX_PROCESSES && (nat_lt n MAX_PROCESSES && nat_lt k.chan 32)) s.sender
    ∙ ap (λ n. nat_lt l.dest.no MAX_PROCESSES && (nat_lt l.id.sender.no MAX_PROCESSES && nat_lt n 32)) s.chan

-- a letter that has no place
pub holds_past : (sets : List ℕ) (gone : List Letter) (l : Letter) → has_place l ≡ false → Holds sets gone
    → Holds sets (gone ++ l ∷ [])
holds_past sets gone l out h = record {
  each = λ m place. h.each m place ∙ sym (more_behind gone l m ∙ or_false _ _ (apart m place));
}
  where
    apart : (m : Letter) → has_place m ≡ true → are_rivals l m ≡ false
    apart m place = false_from_ne_true (are_rivals l m) (λ r. false≢true (sym out ∙ place_same l m r ∙ place))

-- a letter that is marked
module _ (sets : List ℕ) (gone : List Letter) (l : Letter) (has : has_place l ≡ true) (long : length sets ≡ 1024) where
  abbrev new : ℕ
  new = with_channel (get_or sets (set_of l) 0) l.chan

  here : (m : Letter) → set_of m ≡ set_of l → get_or (marked sets l) (set_of m) 0 ≡ new
  here m e =
      ap (λ i. get_or (marked sets l) i 0) e
      ∙ get_or-set_same sets (set_of l) new 0 (let s = small l has in omega (arith, s.dest, s.sender, long))

  other : (m : Letter) → has_place m ≡ true → are_rivals l m ≡ false
      → has_channel (get_or (marked sets l) (set_of m) 0) m.chan ≡ has_channel (get_or sets (set_of m) 0) m.chan
  other m place r = elim (cases_eq (set_of m) (set_of l)) [
    | inl e ↦
        let s = small l has in
        let t = small m place in
        let not_same : m.chan ≡ l.chan → ⊥ = λ c. false≢true (sym r ∙ rivals l m record {
          sender = omega (arith, e, s.dest, t.dest);
          dest = omega (arith, e, s.dest, t.dest);
          chan = sym c;
        }) in
        ap (λ n. has_channel n m.chan) (here m e)
        ∙ channel_other (get_or sets (set_of l) 0) l.chan m.chan s.chan not_same
        ∙ ap (λ i. has_channel (get_or sets i 0) m.chan) (sym e)
    | inr n ↦ ap (λ i. has_channel i m.chan) (get_or-set_other sets (set_of l) (set_of m) new 0 n)
  ]

  pub holds_more : Holds sets gone → Holds (marked sets l) (gone ++ l ∷ [])
  holds_more h = record { each = λ m place. by m place ∙ sym (more_behind gone l m) }
    where
      by : (m : Letter) → has_place m ≡ true
          → has_channel (get_or (marked sets l) (set_of m) 0) m.chan
          ≡ (list_any (λ k. are_rivals k m) gone || (are_rivals l m || false))
      by m place = elim (cases_Bool (are_rivals l m)) [
        | inl r ↦
            let s = same l m r in
            let e : set_of m ≡ set_of l = omega (arith, s.sender, s.dest) in
            ap (λ n. has_channel n m.chan) (here m e) ∙ ap (has_channel new) (sym s.chan)
            ∙ channel_same (get_or sets (set_of l) 0) l.chan (small l has).chan
            ∙ sym (or_right (list_any (λ k. are_rivals k m) gone) (are_rivals l m || false) (ap (λ b. b || false) r))
        | inr r ↦ other m place r ∙ h.each m place ∙ sym (or_false _ _ r)
      ]
