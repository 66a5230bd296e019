-- Facts on the queues of an ordered mail.
use Rattle.std.proofs.Common.{◌≡◌, ℕ, zero, suc, ◌+◌, ◌-◌, ◌*◌, ◌/◌, ◌%◌, ◌^◌, ◌<◌, ◌≤◌, Bool, true, false, cond, List, [], ◌∷◌, ◌++◌, length, take, drop, set, get_or, get_or-set_same, get_or-set_other, length-set, length-append, replicate, Result, Ok, Err, Some, None, refl, sym, ap, ◌∙◌, subst, inl, inr, arith, add-one, min}
use Rattle.std.specs.Prelude.{is_ok, is_err, OnOk, OnErr, option_map, Contains, find, ◌⊎◌, ◌&&◌, ◌||◌, ◌==◌, slice_get, filter, map}
use Rattle.std.specs.List.{list_any, IsDistinct, AllByRecursion}
use Rattle.std.proofs.Math.ListN.{drop_of_length-le}
use Rattle.std.proofs.Math.Nat.{lt-div-mul-add}
use Rattle.std.proofs.Math.Pow.{ones_lt}
use Rattle.std.proofs.lemmas.List.{append-nil}
use Rattle.std.proofs.lemmas.List.Elements.{Contains-append_right}
use Rattle.std.proofs.Math.Bool.{and-false}
use Rattle.std.proofs.lemmas.Bool.{cases_eq, cases_order, cases_Bool, cases_lt, false_from_ne_true, le-ltb, lt-ltb, and_parts, eqb-true, false≢true}
use Rattle.std.proofs.lemmas.Option.{slice_get_within, same_Some, none-some}
use Rattle.std.proofs.lemmas.Nat.Bits.{bit_at_above}
use Rattle.nm_base.specs.declared.letter.LetterId.{LetterId}
use Rattle.nm_base.specs.declared.letter.Letter.{Letter}
use Rattle.nm_base.specs.Channels.{has_channel}
use Rattle.mailboxes.proofs.ListFacts.{kept_at, left_out_at, none_at_all, rises_push, distinct_pushed, length-map', cons_cases, rises_lower}
use Rattle.mailboxes.specs.declared.queues.Slot.{Slot}
use Rattle.mailboxes.specs.Letters.{Rises, precedes, same_letter, is_named, Leaves, are_rivals}
use Rattle.mailboxes.specs.Queues.{no_place, queue_of, at, waiting_in, is_ready, IsLeast, IsLeastBelow, Queued, Chain, Reached, Tails, Linked}

-- the next place of a queue
pub step : (slots : List Slot) (next : List ℕ) (test : Slot → Bool) (q i : ℕ) (s : Slot) → Chain slots next → Reached slots test q i → slice_get slots i ≡ Some s → test s ≡ false → Reached slots test q (at next i)
step slots next test q i s c r is fails = record {
  ends = c.ends i (slice_get_within slots i s is);
  here = λ t there. c.same i s t is there ∙ r.here s is;
  before = λ j t l there e. elim (cases_order j i) [
    | inl p ↦ ap test (same_Some t s (sym there ∙ ap (slice_get slots) p ∙ is)) ∙ fails
    | inr n ↦ elim n [
      | inl k ↦ r.before j t k there e
      | inr k ↦ absurd (c.between i j s t is k l there (e ∙ sym (r.here s is)))
    ]
  ];
}

pub read_at : {X : Type 0} (xs : List X) (i : ℕ) (d : X) → i < length xs → slice_get xs i ≡ Some (get_or xs i d)
read_at [] i d l = absurd (omega (arith, l))
read_at (x ∷ xs) zero d l = refl
read_at (x ∷ xs) (suc i) d l = read_at xs i d (omega (arith, l))

pub any_default : {X : Type 0} (xs : List X) (i : ℕ) (d e : X) → i < length xs → get_or xs i d ≡ get_or xs i e
any_default [] i d e l = absurd (omega (arith, l))
any_default (x ∷ xs) zero d e l = refl
any_default (x ∷ xs) (suc i) d e l = any_default xs i d e (omega (arith, l))

pub step_at : (slots : List Slot) (next : List ℕ) (test : Slot → Bool) (q i : ℕ) (d : Slot) → Chain slots next → Reached slots test q i → i < length slots → test (get_or slots i d) ≡ false → Reached slots test q (get_or next i 0)
step_at slots next test q i d c r l fails =
    subst (Reached slots test q) (any_default next i no_place 0 (omega (arith, l, c.many))) (step slots next test q i (get_or slots i d) c r (read_at slots i d l) fails)

pub further : (slots : List Slot) (next : List ℕ) (i e : ℕ) → Chain slots next → i < length slots → e ≡ 0 → i < get_or next i e
further slots next i e c l z = omega (arith, c.forward i l, any_default next i no_place e (omega (arith, l, c.many)))

-- a test that fails where another fails
pub weaker : (slots : List Slot) (a b : Slot → Bool) (q i : ℕ) → ((s : Slot) → a s ≡ false → b s ≡ false) → Reached slots a q i → Reached slots b q i
weaker slots a b q i h r = record { ends = r.ends; here = r.here; before = λ j s l is e. h s (r.before j s l is e) }

pub rivals_queue : (k l : Letter) → are_rivals k l ≡ true → queue_of k ≡ queue_of l
unfolding queue_of
rivals_queue k l h =
    let a = and_parts _ _ (and_parts _ _ h).1 in
    ap (λ d. (d % 32) * 32 + k.chan % 32) (eqb-true k.dest.no l.dest.no a.0) ∙ ap (λ c. (l.dest.no % 32) * 32 + c % 32) (eqb-true k.chan l.chan a.1)

pub any_take : {X : Type 0} (test : X → Bool) (xs : List X) (i n : ℕ) (x : X) → i < n → slice_get xs i ≡ Some x → test x ≡ true → list_any test (take n xs) ≡ true
any_take test [] i n x l is t = absurd (none-some x is)
any_take test (y ∷ xs) i zero x l is t = absurd (omega (arith, l))
any_take test (y ∷ xs) zero (suc n) x l is t = ap (λ b. b || list_any test (take n xs)) (ap test (same_Some y x is) ∙ t)
any_take test (y ∷ xs) (suc i) (suc n) x l is t = by (test y) (any_take test xs i n x (omega (arith, l)) is t)
  where
    by : (b : Bool) → list_any test (take n xs) ≡ true → (b || list_any test (take n xs)) ≡ true
    by true h = refl
    by false h = h

pub none_take : {X : Type 0} (test : X → Bool) (xs : List X) (n : ℕ) → ((i : ℕ) (x : X) → i < n → slice_get xs i ≡ Some x → test x ≡ false) → list_any test (take n xs) ≡ false
none_take test [] zero h = refl
none_take test [] (suc n) h = refl
none_take test (y ∷ xs) zero h = refl
none_take test (y ∷ xs) (suc n) h = ap (λ b. b || list_any test (take n xs)) (h 0 y (omega arith) refl) ∙ none_take test xs n (λ i x l is. h (suc i) x (omega (arith, l)) is)

-- no rival waits before a place that was reached without one
pub none_preceding : (slots : List Slot) (l : Letter) (i place : ℕ) → place ≤ i → Reached slots (λ s. s.waits && are_rivals s.letter l) (queue_of l) i → list_any (λ s. s.waits && are_rivals s.letter l) (take place slots) ≡ false
none_preceding slots l i place le r = none_take (λ s. s.waits && are_rivals s.letter l) slots place (λ j s b is. elim (cases_Bool (are_rivals s.letter l)) [
  | inl t ↦ r.before j s (omega (arith, b, le)) is (rivals_queue s.letter l t)
  | inr f ↦ ap (λ b. s.waits && b) f ∙ and-false s.waits
])

-- what was read at a place of the list
pub got : {X : Type 0} (xs : List X) (i : ℕ) (x : X) → i < length xs → x ≡ get_or xs i x → slice_get xs i ≡ Some x
got [] i x l e = absurd (omega (arith, l))
got (y ∷ xs) zero x l e = ap (λ z. Some z) (sym e)
got (y ∷ xs) (suc i) x l e = got xs i x (omega (arith, l)) e

-- what stands at a place of a list with one element more
pub push_at : {X : Type 0} (xs : List X) (y : X) (p : ℕ) (z : X) → slice_get (xs ++ y ∷ []) p ≡ Some z → (slice_get xs p ≡ Some z) ⊎ ((p ≡ length xs) × (y ≡ z))
push_at [] y zero z h = inr (refl, same_Some y z h)
push_at [] y (suc p) z h = absurd (none-some z h)
push_at (x ∷ xs) y zero z h = inl h
push_at (x ∷ xs) y (suc p) z h = elim (push_at xs y p z h) [ inl e ↦ inl e | inr e ↦ inr (ap suc e.0, e.1) ]

pub slot_at : {X : Type 0} (xs : List X) (i : ℕ) → i < length xs → (x : X) × (slice_get xs i ≡ Some x)
slot_at [] i l = absurd (omega (arith, l))
slot_at (x ∷ xs) zero l = (x, refl)
slot_at (x ∷ xs) (suc i) l = slot_at xs i (omega (arith, l))

get_push_old : (xs : List ℕ) (y d i : ℕ) → i < length xs → get_or (xs ++ y ∷ []) i d ≡ get_or xs i d
get_push_old [] y d i l = absurd (omega (arith, l))
get_push_old (x ∷ xs) y d zero l = refl
get_push_old (x ∷ xs) y d (suc i) l = get_push_old xs y d i (omega (arith, l))

get_push_new : (xs : List ℕ) (d : ℕ) → get_or (xs ++ d ∷ []) (length xs) d ≡ d
get_push_new [] d = refl
get_push_new (x ∷ xs) d = get_push_new xs d

set_here : {X : Type 0} (xs : List X) (i : ℕ) (y : X) → i < length xs → slice_get (set xs i y) i ≡ Some y
set_here [] i y l = absurd (omega (arith, l))
set_here (x ∷ xs) zero y l = refl
set_here (x ∷ xs) (suc i) y l = set_here xs i y (omega (arith, l))

set_there : {X : Type 0} (xs : List X) (i j : ℕ) (y : X) → (j ≡ i → ⊥) → slice_get (set xs i y) j ≡ slice_get xs j
set_there [] i j y h = refl
set_there (x ∷ xs) zero zero y h = absurd (h refl)
set_there (x ∷ xs) zero (suc j) y h = refl
set_there (x ∷ xs) (suc i) zero y h = refl
set_there (x ∷ xs) (suc i) (suc j) y h = set_there xs i j y (λ e. h (ap suc e))

-- one slot more
module _ (slots : List Slot) (s : Slot) (next heads tails next1 next2 heads2 tails2 : List ℕ) (h : Linked slots next heads tails)
    (few : length slots < no_place)
    (more : next1 ≡ next ++ no_place ∷ [])
    (many : length next2 ≡ length next1)
    (next_here : at tails (queue_of s.letter) < length slots → at next2 (at tails (queue_of s.letter)) ≡ length slots)
    (next_there : (i : ℕ) → (at tails (queue_of s.letter) < length slots → i ≡ at tails (queue_of s.letter) → ⊥) → at next2 i ≡ at next1 i)
    (head_here : at heads2 (queue_of s.letter) ≡ min (at heads (queue_of s.letter)) (length slots))
    (head_there : (q : ℕ) → (q ≡ queue_of s.letter → ⊥) → at heads2 q ≡ at heads q)
    (tail_here : at tails2 (queue_of s.letter) ≡ length slots)
    (tail_there : (q : ℕ) → (q ≡ queue_of s.letter → ⊥) → at tails2 q ≡ at tails q) where
  n : ℕ
  n = length slots

  q0 : ℕ
  q0 = queue_of s.letter

  pushed : List Slot
  pushed = slots ++ s ∷ []

  longer : length pushed ≡ n + 1
  unfolding n pushed
  longer = length-append slots (s ∷ [])

  -- what follows a place that was there
  data Next (i : ℕ) : Type 0 where
    ToNew : i ≡ at tails q0 → at next2 i ≡ n → Next i
    ToOld : (i ≡ at tails q0 → ⊥) → at next2 i ≡ at next i → Next i

  next_of : (i : ℕ) → i < n → Next i
  unfolding n q0
  next_of i l = elim (cases_eq i (at tails (queue_of s.letter))) [
    | inl e ↦ ToNew e (ap (at next2) e ∙ next_here (omega (arith, l, e)))
    | inr k ↦ ToOld k (next_there i (λ b e. k e) ∙ ap (λ xs. at xs i) more ∙ get_push_old next no_place no_place i (omega (arith, l, h.chain.many)))
  ]

  next_new : at next2 n ≡ no_place
  unfolding n q0
  next_new = next_there (length slots) (λ b e. omega (arith, b, e)) ∙ ap (λ xs. at xs (length slots)) more ∙ ap (λ k. get_or (next ++ no_place ∷ []) k no_place) (sym h.chain.many) ∙ get_push_new next no_place

  -- a slot of the longer list
  data Which (i : ℕ) (t : Slot) : Type 0 where
    Old : i < n → slice_get slots i ≡ Some t → Which i t
    New : i ≡ n → s ≡ t → Which i t

  which : (i : ℕ) (t : Slot) → slice_get pushed i ≡ Some t → Which i t
  unfolding n pushed
  which i t is = elim (push_at slots s i t is) [ inl o ↦ Old (slice_get_within slots i t o) o | inr e ↦ New e.0 e.1 ]

  chain_more : Chain pushed next2
  unfolding n q0 pushed
  chain_more = record {
    many = many ∙ ap length more ∙ length-append next (no_place ∷ []) ∙ ap (λ k. k + 1) h.chain.many ∙ sym longer;
    forward = λ i l. elim (cases_order i (length slots)) [
      | inl e ↦ omega (arith, e, ap (at next2) e, next_new, few)
      | inr k ↦ elim k [
        | inl b ↦ elim (next_of i b) [ ToNew e f ↦ omega (arith, b, f) | ToOld e f ↦ omega (arith, f, h.chain.forward i b) ]
        | inr b ↦ absurd (omega (arith, b, l, longer))
      ]
    ];
    ends = λ i l. elim (cases_order i (length slots)) [
      | inl e ↦ inr (omega (arith, ap (at next2) e, next_new))
      | inr k ↦ elim k [
        | inl b ↦ elim (next_of i b) [
          | ToNew e f ↦ inl (omega (arith, f, longer))
          | ToOld e f ↦ elim (h.chain.ends i b) [ inl z ↦ inl (omega (arith, f, z, longer)) | inr z ↦ inr (omega (arith, f, z)) ]
        ]
        | inr b ↦ absurd (omega (arith, b, l, longer))
      ]
    ];
    same = λ i t u is there. elim (which i t is) [
      | Old b old ↦ elim (which (at next2 i) u there) [
        | Old c o ↦ elim (next_of i b) [
          | ToNew e f ↦ absurd (omega (arith, c, f))
          | ToOld e f ↦ h.chain.same i t u old (ap (slice_get slots) (sym f) ∙ o)
        ]
        | New c o ↦ elim (next_of i b) [
          | ToNew e f ↦ ap (λ (z : Slot). queue_of z.letter) (sym o) ∙ sym (h.lasts.here (queue_of s.letter) t (ap (slice_get slots) (sym e) ∙ old))
          | ToOld e f ↦ absurd (elim (h.chain.ends i b) [ inl z ↦ omega (arith, z, c, f) | inr z ↦ omega (arith, z, c, f, few) ])
        ]
      ]
      | New b o ↦ let l = slice_get_within (slots ++ s ∷ []) (at next2 i) u there in absurd (omega (arith, l, ap (at next2) b, next_new, longer, few))
    ];
    between = λ i j t u is l m there e. elim (which i t is) [
      | New b o ↦ let k = slice_get_within (slots ++ s ∷ []) j u there in omega (arith, k, b, l, longer)
      | Old b old ↦ elim (which j u there) [
        | Old c o ↦ elim (next_of i b) [
          | ToNew z f ↦
              let past = h.lasts.end (queue_of s.letter) (omega (arith, z, b)) in
              h.chain.between i j t u old l (omega (arith, c, few, past, ap (at next) z)) o e
          | ToOld z f ↦ h.chain.between i j t u old l (omega (arith, m, f)) o e
        ]
        | New c o ↦ elim (next_of i b) [
          | ToNew z f ↦ omega (arith, m, c, f)
          | ToOld z f ↦ elim (h.lasts.last i t old) [
            | inl w ↦ z (sym w ∙ ap (at tails) (sym e ∙ ap (λ (x : Slot). queue_of x.letter) (sym o)))
            | inr w ↦ omega (arith, m, c, f, w)
          ]
        ]
      ]
    ];
  }

  -- a queue whose first place stays
  front_kept : (q : ℕ) → at heads2 q ≡ at heads q → ((j : ℕ) (t : Slot) → j < at heads2 q → j ≡ n → s ≡ t → queue_of t.letter ≡ q → ⊥) → Reached pushed (λ t. t.waits) q (at heads2 q)
  unfolding n q0 pushed
  front_kept q e none_new = record {
    ends = elim (h.fronts q).ends [ inl b ↦ inl (omega (arith, e, b, longer)) | inr b ↦ inr (omega (arith, e, b)) ];
    here = λ t is. elim (which (at heads2 q) t is) [
      | Old c o ↦ (h.fronts q).here t (ap (slice_get slots) (sym e) ∙ o)
      | New c o ↦ absurd (elim (h.fronts q).ends [ inl b ↦ omega (arith, e, b, c) | inr b ↦ omega (arith, e, b, c, few) ])
    ];
    before = λ j t l is f. elim (which j t is) [
      | Old c o ↦ (h.fronts q).before j t (omega (arith, l, e)) o f
      | New c o ↦ absurd (none_new j t l c o f)
    ];
  }

  front_own : Reached pushed (λ t. t.waits) q0 (at heads2 q0)
  unfolding n q0 pushed
  front_own = elim (h.fronts (queue_of s.letter)).ends [
    | inl b ↦ front_kept (queue_of s.letter) (omega (arith, head_here, b)) (λ j t l c o f. omega (arith, head_here, b, c, l))
    | inr b ↦ record {
      ends = inl (omega (arith, head_here, b, few, longer));
      here = λ t is. elim (which (at heads2 (queue_of s.letter)) t is) [
        | Old c o ↦ absurd (omega (arith, c, head_here, b, few))
        | New c o ↦ ap (λ (z : Slot). queue_of z.letter) (sym o)
      ];
      before = λ j t l is f. elim (which j t is) [
        | Old c o ↦ (h.fronts (queue_of s.letter)).before j t (omega (arith, c, b, few)) o f
        | New c o ↦ absurd (omega (arith, c, l, head_here, b, few))
      ];
    }
  ]

  fronts_more : (q : ℕ) → Reached pushed (λ t. t.waits) q (at heads2 q)
  unfolding n q0 pushed
  fronts_more q = elim (cases_eq q (queue_of s.letter)) [
    | inl e ↦ subst (λ p. Reached (slots ++ s ∷ []) (λ t. t.waits) p (at heads2 p)) (sym e) front_own
    | inr k ↦ front_kept q (head_there q k) (λ j t l c o f. k (sym f ∙ ap (λ (z : Slot). queue_of z.letter) (sym o)))
  ]

  lasts_more : Tails pushed next2 tails2
  unfolding n q0 pushed
  lasts_more = record {
    ends = λ q. elim (cases_eq q (queue_of s.letter)) [
      | inl e ↦ inl (omega (arith, ap (at tails2) e, tail_here, longer))
      | inr k ↦ elim (h.lasts.ends q) [ inl b ↦ inl (omega (arith, tail_there q k, b, longer)) | inr b ↦ inr (omega (arith, tail_there q k, b)) ]
    ];
    here = λ q t is. elim (cases_eq q (queue_of s.letter)) [
      | inl e ↦ elim (which (at tails2 q) t is) [
        | Old c o ↦ absurd (omega (arith, c, ap (at tails2) e, tail_here))
        | New c o ↦ ap (λ (z : Slot). queue_of z.letter) (sym o) ∙ sym e
      ]
      | inr k ↦ elim (which (at tails2 q) t is) [
        | Old c o ↦ h.lasts.here q t (ap (slice_get slots) (sym (tail_there q k)) ∙ o)
        | New c o ↦ absurd (elim (h.lasts.ends q) [ inl b ↦ omega (arith, c, tail_there q k, b) | inr b ↦ omega (arith, c, tail_there q k, b, few) ])
      ]
    ];
    end = λ q l. elim (cases_eq q (queue_of s.letter)) [
      | inl e ↦ omega (arith, ap (at next2) (ap (at tails2) e ∙ tail_here), next_new)
      | inr k ↦ elim (h.lasts.ends q) [
        | inl b ↦ elim (next_of (at tails q) b) [
          | ToNew z f ↦
              let x = slot_at slots (at tails q) b in
              absurd (k (sym (h.lasts.here q x.0 x.1) ∙ h.lasts.here (queue_of s.letter) x.0 (ap (slice_get slots) (sym z) ∙ x.1)))
          | ToOld z f ↦ omega (arith, ap (at next2) (tail_there q k), f, h.lasts.end q b)
        ]
        | inr b ↦ absurd (omega (arith, b, l, tail_there q k, longer, few))
      ]
    ];
    last = λ i t is. elim (which i t is) [
      | New c o ↦ inl (ap (at tails2) (ap (λ (z : Slot). queue_of z.letter) (sym o)) ∙ tail_here ∙ sym c)
      | Old c o ↦ elim (next_of i c) [
        | ToNew z f ↦ inr (omega (arith, f, longer))
        | ToOld z f ↦ elim (h.lasts.last i t o) [
          | inl w ↦ elim (cases_eq (queue_of t.letter) (queue_of s.letter)) [
            | inl e ↦ absurd (z (sym w ∙ ap (at tails) e))
            | inr k ↦ inl (tail_there (queue_of t.letter) k ∙ w)
          ]
          | inr w ↦ inr (omega (arith, w, f, longer))
        ]
      ]
    ];
  }

  pub linked_more : Linked (slots ++ s ∷ []) next2 heads2 tails2
  unfolding n q0 pushed
  linked_more = record { chain = chain_more; fronts = fronts_more; lasts = lasts_more }

-- what a place last in its queue changes
pub record LinksAt (next1 next2 heads heads2 tails tails2 : List ℕ) (queue place : ℕ) : Type 0 where
  pub next_here : at tails queue < place → at next2 (at tails queue) ≡ place
  pub next_there : (i : ℕ) → (at tails queue < place → i ≡ at tails queue → ⊥) → at next2 i ≡ at next1 i
  pub head_here : at heads2 queue ≡ min (at heads queue) place
  pub head_there : (q : ℕ) → (q ≡ queue → ⊥) → at heads2 q ≡ at heads q
  pub tail_here : at tails2 queue ≡ place
  pub tail_there : (q : ℕ) → (q ≡ queue → ⊥) → at tails2 q ≡ at tails q

pub linked_push : (slots pushed : List Slot) (s : Slot) (next heads tails next1 next2 heads2 tails2 : List ℕ) (queue place : ℕ) → Linked slots next heads tails → length slots < no_place → next1 ≡ next ++ no_place ∷ [] → length next2 ≡ length next1 → LinksAt next1 next2 heads heads2 tails tails2 queue place → queue ≡ queue_of s.letter → place ≡ length slots → pushed ≡ slots ++ s ∷ [] → Linked pushed next2 heads2 tails2
linked_push slots pushed s next heads tails next1 next2 heads2 tails2 queue place h few more many l q p is =
    let m = subst (λ q. LinksAt next1 next2 heads heads2 tails tails2 q (length slots)) q (subst (λ p. LinksAt next1 next2 heads heads2 tails tails2 queue p) p l) in
    subst (λ xs. Linked xs next2 heads2 tails2) (sym is) (linked_more slots s next heads tails next1 next2 heads2 tails2 h few more many m.next_here m.next_there m.head_here m.head_there m.tail_here m.tail_there)

-- a slot is taken
module _ (slots : List Slot) (p : ℕ) (old new : Slot) (is : slice_get slots p ≡ Some old) (letter : new.letter ≡ old.letter) (taken : new.waits ≡ false) where
  -- what a slot was
  record Was (t u : Slot) : Type 0 where
    same : t.letter ≡ u.letter
    fewer : u.waits ≡ false → t.waits ≡ false

  was : (i : ℕ) (t : Slot) → slice_get (set slots p new) i ≡ Some t → (u : Slot) × (slice_get slots i ≡ Some u) × Was t u
  was i t there = elim (cases_eq i p) [
    | inl e ↦
        let q : new ≡ t = same_Some new t (sym (set_here slots p new (slice_get_within slots p old is)) ∙ ap (slice_get (set slots p new)) (sym e) ∙ there) in
        (old, ap (slice_get slots) e ∙ is, record { same = ap (λ (z : Slot). z.letter) (sym q) ∙ letter; fewer = λ h. ap (λ (z : Slot). z.waits) (sym q) ∙ taken })
    | inr k ↦ (t, sym (set_there slots p i new k) ∙ there, record { same = refl; fewer = λ h. h })
  ]

  queue : {t u : Slot} → Was t u → queue_of t.letter ≡ queue_of u.letter
  queue w = ap queue_of w.same

  pub linked_taken : (next heads tails : List ℕ) → Linked slots next heads tails → Linked (set slots p new) next heads tails
  linked_taken next heads tails h =
      let long = length-set slots p new in
      record {
        chain = record {
          many = h.chain.many ∙ sym long;
          forward = λ i l. h.chain.forward i (omega (arith, l, long));
          ends = λ i l. elim (h.chain.ends i (omega (arith, l, long))) [ inl b ↦ inl (omega (arith, b, long)) | inr b ↦ inr b ];
          same = λ i s t a b. let x = was i s a in let y = was (at next i) t b in queue y.2 ∙ h.chain.same i x.0 y.0 x.1 y.1 ∙ sym (queue x.2);
          between = λ i j s t a l m b e. let x = was i s a in let y = was j t b in h.chain.between i j x.0 y.0 x.1 l m y.1 (sym (queue y.2) ∙ e ∙ queue x.2);
        };
        fronts = λ q. record {
          ends = elim (h.fronts q).ends [ inl b ↦ inl (omega (arith, b, long)) | inr b ↦ inr b ];
          here = λ s a. let x = was (at heads q) s a in queue x.2 ∙ (h.fronts q).here x.0 x.1;
          before = λ j s l a e. let x = was j s a in x.2.fewer ((h.fronts q).before j x.0 l x.1 (sym (queue x.2) ∙ e));
        };
        lasts = record {
          ends = λ q. elim (h.lasts.ends q) [ inl b ↦ inl (omega (arith, b, long)) | inr b ↦ inr b ];
          here = λ q s a. let x = was (at tails q) s a in queue x.2 ∙ h.lasts.here q x.0 x.1;
          end = λ q l. h.lasts.end q (omega (arith, l, long));
          last = λ i s a. let x = was i s a in elim (h.lasts.last i x.0 x.1) [ inl w ↦ inl (ap (at tails) (queue x.2) ∙ w) | inr w ↦ inr (omega (arith, w, long)) ];
        };
      }

-- the first place of a queue moves on
pub linked_moved : (slots : List Slot) (next heads tails : List ℕ) (q i : ℕ) → Linked slots next heads tails → q < length heads → Reached slots (λ s. s.waits) q i → Linked slots next (set heads q i) tails
linked_moved slots next heads tails q i h l r = record {
  chain = h.chain;
  fronts = λ p. elim (cases_eq p q) [
    | inl e ↦ subst (λ p. Reached slots (λ s. s.waits) p (at (set heads q i) p)) (sym e) (subst (Reached slots (λ s. s.waits) q) (sym (get_or-set_same heads q i no_place l)) r)
    | inr k ↦ subst (Reached slots (λ s. s.waits) p) (sym (get_or-set_other heads q p i no_place k)) (h.fronts p)
  ];
  lasts = h.lasts;
}

-- queues without slots
pub linked_none : (slots : List Slot) (next heads tails : List ℕ) → slots ≡ [] → next ≡ [] → ((q : ℕ) → at heads q ≡ no_place) → ((q : ℕ) → at tails q ≡ no_place) → Linked slots next heads tails
linked_none slots next heads tails e f h t = record {
  chain = record {
    many = ap length f ∙ sym (ap length e);
    forward = λ i l. absurd (none i l);
    ends = λ i l. absurd (none i l);
    same = λ i s u is there. absurd (none i (slice_get_within slots i s is));
    between = λ i j s u is l m there q. none i (slice_get_within slots i s is);
  };
  fronts = λ q. record {
    ends = inr (omega (arith, h q));
    here = λ s is. absurd (none (at heads q) (slice_get_within slots (at heads q) s is));
    before = λ j s l is f. absurd (none j (slice_get_within slots j s is));
  };
  lasts = record {
    ends = λ q. inr (omega (arith, t q));
    here = λ q s is. absurd (none (at tails q) (slice_get_within slots (at tails q) s is));
    end = λ q l. absurd (none (at tails q) l);
    last = λ i s is. absurd (none i (slice_get_within slots i s is));
  };
}
  where
    none : (i : ℕ) → i < length slots → ⊥
    none i l = omega (arith, l, ap length e)

pub all_alike : (n d i : ℕ) → get_or (replicate n d) i d ≡ d
all_alike zero d i = refl
all_alike (suc n) d zero = refl
all_alike (suc n) d (suc i) = all_alike n d i

pub when_ok : {T E X : Type 0} (r : Result T E) (a b : X) (e : Bool) → e ≡ is_err r → e ≡ false → cond (is_ok r) a b ≡ a
when_ok (Ok t) a b e h f = refl
when_ok (Err t) a b e h f = absurd (false≢true (sym f ∙ h))

-- a waiting letter was posted at this number or later
pub posted_from : (low : ℕ) (slots : List Slot) (i : ℕ) (s : Slot) → Rises low (waiting_in slots) → slice_get slots i ≡ Some s → s.waits ≡ true → low ≤ s.letter.posted
posted_from low [] i s r is w = absurd (none-some s is)
posted_from low (x ∷ xs) i s r is w = by x.waits refl r i is (λ low i r is. posted_from low xs i s r is w)
  where
    by : (b : Bool) → x.waits ≡ b → Rises low (map (λ t. t.letter) (cond b (x ∷ filter (λ t. t.waits) xs) (filter (λ t. t.waits) xs))) → (i : ℕ) → slice_get (x ∷ xs) i ≡ Some s
        → ((low i : ℕ) → Rises low (waiting_in xs) → slice_get xs i ≡ Some s → low ≤ s.letter.posted) → low ≤ s.letter.posted
    by true e r zero is ih = omega (arith, r.0, ap (λ (t : Slot). t.letter.posted) (same_Some x s is))
    by true e r (suc i) is ih = omega (arith, r.0, ih (x.letter.posted + 1) i r.1.1 is)
    by false e r zero is ih = absurd (false≢true (sym e ∙ ap (λ (t : Slot). t.waits) (same_Some x s is) ∙ w))
    by false e r (suc i) is ih = ih low i r is

-- letters that were posted later don't precede
none_later : (low : ℕ) (slots : List Slot) (l : Letter) → Rises low (waiting_in slots) → l.posted ≤ low → list_any (λ k. precedes k l) (waiting_in slots) ≡ false
none_later low [] l r h = refl
none_later low (x ∷ xs) l r h = by x.waits r (λ low r h. none_later low xs l r h)
  where
    by : (b : Bool) → Rises low (map (λ t. t.letter) (cond b (x ∷ filter (λ t. t.waits) xs) (filter (λ t. t.waits) xs))) → ((low : ℕ) → Rises low (waiting_in xs) → l.posted ≤ low → list_any (λ k. precedes k l) (waiting_in xs) ≡ false)
        → list_any (λ k. precedes k l) (map (λ t. t.letter) (cond b (x ∷ filter (λ t. t.waits) xs) (filter (λ t. t.waits) xs))) ≡ false
    by true r ih =
        ap (λ b. (b && are_rivals x.letter l) || list_any (λ k. precedes k l) (waiting_in xs)) (le-ltb x.letter.posted l.posted (omega (arith, h, r.0)))
        ∙ ih (x.letter.posted + 1) r.1.1 (omega (arith, h, r.0))
    by false r ih = ih low r h

-- what precedes the letter at a place are its waiting rivals before it
pub preceded_at : (low : ℕ) (slots : List Slot) (i : ℕ) (s : Slot) → Rises low (waiting_in slots) → slice_get slots i ≡ Some s → s.waits ≡ true → list_any (λ k. precedes k s.letter) (waiting_in slots) ≡ list_any (λ t. t.waits && are_rivals t.letter s.letter) (take i slots)
preceded_at low [] i s r is w = absurd (none-some s is)
preceded_at low (x ∷ xs) i s r is w = by x.waits refl r i is (λ low i r is. preceded_at low xs i s r is w)
  where
    by : (b : Bool) → x.waits ≡ b → Rises low (map (λ t. t.letter) (cond b (x ∷ filter (λ t. t.waits) xs) (filter (λ t. t.waits) xs))) → (i : ℕ) → slice_get (x ∷ xs) i ≡ Some s
        → ((low i : ℕ) → Rises low (waiting_in xs) → slice_get xs i ≡ Some s → list_any (λ k. precedes k s.letter) (waiting_in xs) ≡ list_any (λ t. t.waits && are_rivals t.letter s.letter) (take i xs))
        → list_any (λ k. precedes k s.letter) (map (λ t. t.letter) (cond b (x ∷ filter (λ t. t.waits) xs) (filter (λ t. t.waits) xs))) ≡ list_any (λ t. t.waits && are_rivals t.letter s.letter) (take i (x ∷ xs))
    by true e r zero is ih =
        let same = ap (λ (t : Slot). t.letter.posted) (same_Some x s is) in
        ap (λ b. (b && are_rivals x.letter s.letter) || list_any (λ k. precedes k s.letter) (waiting_in xs)) (le-ltb x.letter.posted s.letter.posted (omega (arith, same)))
        ∙ none_later (x.letter.posted + 1) xs s.letter r.1.1 (omega (arith, same))
    by true e r (suc i) is ih =
        let later = posted_from (x.letter.posted + 1) xs i s r.1.1 is w in
        ap (λ b. (b && are_rivals x.letter s.letter) || list_any (λ k. precedes k s.letter) (waiting_in xs)) (lt-ltb x.letter.posted s.letter.posted (omega (arith, later)))
        ∙ ap (λ b. are_rivals x.letter s.letter || b) (ih (x.letter.posted + 1) i r.1.1 is)
        ∙ ap (λ b. (b && are_rivals x.letter s.letter) || list_any (λ t. t.waits && are_rivals t.letter s.letter) (take i xs)) (sym e)
    by false e r zero is ih = absurd (false≢true (sym e ∙ ap (λ (t : Slot). t.waits) (same_Some x s is) ∙ w))
    by false e r (suc i) is ih =
        ih low i r is
        ∙ ap (λ b. (b && are_rivals x.letter s.letter) || list_any (λ t. t.waits && are_rivals t.letter s.letter) (take i xs)) (sym e)

pub read_is : {X : Type 0} (xs : List X) (i : ℕ) (d x : X) → i < length xs → slice_get xs i ≡ Some x → get_or xs i d ≡ x
read_is xs i d x l is = same_Some (get_or xs i d) x (sym (read_at xs i d l) ∙ is)

-- as many letters are ready as wait, or fewer
-- a set that is shifted to nothing has no channel from there on
pub few_channels : (set n : ℕ) → set / 2 ^ n ≡ 0 → set < 2 ^ n
few_channels set n h =
    let some : 0 < 2 ^ n = omega (arith, ones_lt n) in
    let below = subst (λ q. set < q * 2 ^ n + 2 ^ n) h (lt-div-mul-add {a = set} {b = 2 ^ n} some) in
    omega (arith, below)

pub fewer_ready : (test : Slot → Bool) (slots : List Slot) → length (filter (λ s. s.waits && test s) slots) ≤ length (waiting_in slots)
fewer_ready test [] = omega arith
fewer_ready test (x ∷ xs) = by x.waits (test x) (fewer_ready test xs)
  where
    by : (b c : Bool) → length (filter (λ s. s.waits && test s) xs) ≤ length (waiting_in xs)
        → length (cond (b && c) (x ∷ filter (λ s. s.waits && test s) xs) (filter (λ s. s.waits && test s) xs)) ≤ length (map (λ t. t.letter) (cond b (x ∷ filter (λ t. t.waits) xs) (filter (λ t. t.waits) xs)))
    by true true h = omega (arith, h)
    by true false h = omega (arith, h)
    by false c h = h

pub step_on : (slots : List Slot) (next : List ℕ) (test : Slot → Bool) (q i : ℕ) (s : Slot) → Chain slots next → Reached slots test q i → slice_get slots i ≡ Some s → test s ≡ false → Reached slots test q (get_or next i 0)
step_on slots next test q i s c r is fails =
    subst (Reached slots test q) (any_default next i no_place 0 (omega (arith, slice_get_within slots i s is, c.many))) (step slots next test q i s c r is fails)

pub kept_from : {X : Type 0} (test : X → Bool) (xs : List X) (i : ℕ) (x : X) → slice_get xs i ≡ Some x → test x ≡ true → filter test (drop i xs) ≡ x ∷ filter test (drop (i + 1) xs)
kept_from test xs i x is t =
    let l = slice_get_within xs i x is in
    let e = read_is xs i x x l is in
    kept_at test xs i x l (ap test e ∙ t) ∙ ap (λ y. y ∷ filter test (drop (i + 1) xs)) e

pub left_from : {X : Type 0} (test : X → Bool) (xs : List X) (i : ℕ) (x : X) → slice_get xs i ≡ Some x → test x ≡ false → filter test (drop i xs) ≡ filter test (drop (i + 1) xs)
left_from test xs i x is t = let l = slice_get_within xs i x is in left_out_at test xs i x l (ap test (read_is xs i x x l is) ∙ t)

pub get_after : {X : Type 0} (y : X) (ys : List X) (n : ℕ) → (n ≡ 0 → ⊥) → slice_get (y ∷ ys) n ≡ slice_get ys (n - 1)
get_after y ys zero h = absurd (h refl)
get_after y ys (suc n) h = let e : n ≡ suc n - 1 = omega arith in ap (slice_get ys) e

-- the least place over the channels of a set
module _ (mask : ℕ) (lets : LetterId → Bool) (dest set : ℕ) (slots : List Slot) where
  ready : Slot → Bool
  ready s = is_ready mask lets dest set slots s

  pub least_none : (i : ℕ) → i ≡ length slots → IsLeastBelow slots (is_ready mask lets dest set slots) 0 i
  least_none i e = record {
    here = λ s is. absurd (omega (arith, e, slice_get_within slots i s is));
    before = λ j s l is c. absurd (omega (arith, c));
  }

  -- what is ready is for the process and on a channel of the set
  ready_parts : (s : Slot) → is_ready mask lets dest set slots s ≡ true → (s.letter.dest.no ≡ dest) × (has_channel set s.letter.chan ≡ true)
  ready_parts s h =
      let w = and_parts _ _ (and_parts _ _ (and_parts _ _ h).1).0 in
      (eqb-true s.letter.dest.no dest w.0, (and_parts _ _ w.1).0)

  not_in_set : (s : Slot) → has_channel set s.letter.chan ≡ false → is_ready mask lets dest set slots s ≡ false
  not_in_set s h = false_from_ne_true _ (λ t. false≢true (sym h ∙ (ready_parts s t).1))

  pub least_passed : (chan i : ℕ) → IsLeastBelow slots (is_ready mask lets dest set slots) chan i → has_channel set chan ≡ false → IsLeastBelow slots (is_ready mask lets dest set slots) (chan + 1) i
  least_passed chan i k h = record {
    here = k.here;
    before = λ j s l is c. elim (cases_lt s.letter.chan chan) [
      | inl b ↦ k.before j s l is b
      | inr b ↦ let e : s.letter.chan ≡ chan = omega (arith, b, c) in not_in_set s (ap (has_channel set) e ∙ h)
    ];
  }

  pub least_more : (chan i place queue : ℕ) → chan < 32 → queue ≡ (dest % 32) * 32 + chan → IsLeastBelow slots (is_ready mask lets dest set slots) chan i
      → Reached slots (is_ready mask lets dest set slots) queue place → ((s : Slot) → slice_get slots place ≡ Some s → is_ready mask lets dest set slots s ≡ true) → IsLeastBelow slots (is_ready mask lets dest set slots) (chan + 1) (min i place)
  unfolding queue_of
  least_more chan i place queue few q k r here = record {
    here = λ s is. elim (cases_lt i place) [
      | inl b ↦ let e : min i place ≡ i = omega (arith, b) in k.here s (ap (slice_get slots) (sym e) ∙ is)
      | inr b ↦ let e : min i place ≡ place = omega (arith, b) in here s (ap (slice_get slots) (sym e) ∙ is)
    ];
    before = λ j s l is c. elim (cases_lt s.letter.chan chan) [
      | inl b ↦ k.before j s (omega (arith, l)) is b
      | inr b ↦
          let e : s.letter.chan ≡ chan = omega (arith, b, c) in
          false_from_ne_true _ (λ t.
          let p = ready_parts s t in
          let small : chan % 32 ≡ chan = omega (arith, few) in
          let same : queue_of s.letter ≡ queue = ap (λ d. (d % 32) * 32 + s.letter.chan % 32) p.0 ∙ ap (λ n. (dest % 32) * 32 + n % 32) e ∙ ap (λ n. (dest % 32) * 32 + n) small ∙ sym q in
          false≢true (sym (r.before j s (omega (arith, l)) is same) ∙ t))
    ];
  }

  -- no channel of the set is n or more
  pub least_of_few : (n i : ℕ) → set < 2 ^ n → IsLeastBelow slots (is_ready mask lets dest set slots) n i → IsLeast slots (is_ready mask lets dest set slots) i
  unfolding has_channel
  least_of_few n i few k = record {
    here = k.here;
    before = λ j s l is. elim (cases_lt s.letter.chan n) [
      | inl b ↦ k.before j s l is b
      | inr b ↦ not_in_set s (ap (λ m. m == 1) (bit_at_above set n s.letter.chan few b))
    ];
  }

  pub least_all : (i : ℕ) → set < 2 ^ 32 → IsLeastBelow slots (is_ready mask lets dest set slots) 32 i → IsLeast slots (is_ready mask lets dest set slots) i
  least_all i few k = least_of_few 32 i few k

-- the letters of the slots that are ready are those that may be accepted
pub ready_letters : (test : Letter → Bool) (slots : List Slot) → map (λ s. s.letter) (filter (λ s. s.waits && test s.letter) slots) ≡ filter test (waiting_in slots)
ready_letters test [] = refl
ready_letters test (x ∷ xs) = by x.waits (ready_letters test xs)
  where
    by : (b : Bool) → map (λ s. s.letter) (filter (λ s. s.waits && test s.letter) xs) ≡ filter test (waiting_in xs)
        → map (λ s. s.letter) (cond (b && test x.letter) (x ∷ filter (λ s. s.waits && test s.letter) xs) (filter (λ s. s.waits && test s.letter) xs)) ≡ filter test (map (λ t. t.letter) (cond b (x ∷ filter (λ t. t.waits) xs) (filter (λ t. t.waits) xs)))
    by false h = h
    by true h = kept (test x.letter) h
      where
        kept : (c : Bool) → map (λ s. s.letter) (filter (λ s. s.waits && test s.letter) xs) ≡ filter test (waiting_in xs)
            → map (λ s. s.letter) (cond c (x ∷ filter (λ s. s.waits && test s.letter) xs) (filter (λ s. s.waits && test s.letter) xs)) ≡ cond c (x.letter ∷ filter test (waiting_in xs)) (filter test (waiting_in xs))
        kept true h = ap (λ ls. x.letter ∷ ls) h
        kept false h = h

map_map : {X Y Z : Type 0} (f : X → Y) (g : Y → Z) (xs : List X) → map g (map f xs) ≡ map (λ x. g (f x)) xs
map_map f g [] = refl
map_map f g (x ∷ xs) = ap (λ zs. g (f x) ∷ zs) (map_map f g xs)

pub ready_count : (test : Letter → Bool) (slots : List Slot) → length (filter (λ s. s.waits && test s.letter) slots) ≡ length (filter test (waiting_in slots))
ready_count test slots = sym (length-map' (λ s. s.letter) (filter (λ s. s.waits && test s.letter) slots)) ∙ ap length (ready_letters test slots)

pub ready_names : (test : Letter → Bool) (slots : List Slot) → map (λ s. s.letter.id) (filter (λ s. s.waits && test s.letter) slots) ≡ map (λ l. l.id) (filter test (waiting_in slots))
ready_names test slots = sym (map_map (λ s. s.letter) (λ l. l.id) (filter (λ s. s.waits && test s.letter) slots)) ∙ ap (map (λ l. l.id)) (ready_letters test slots)

-- the first that passes the test is the one at the least place
pub least_first : {Y : Type 0} (f : Slot → Y) (test : Slot → Bool) (slots : List Slot) (i : ℕ) → IsLeast slots test i → slice_get (map f (filter test slots)) 0 ≡ option_map f (slice_get slots i)
least_first f test [] i k = refl
least_first f test (x ∷ xs) zero k = ap (λ b. slice_get (map f (cond b (x ∷ filter test xs) (filter test xs))) 0) (k.here x refl)
least_first f test (x ∷ xs) (suc i) k =
    ap (λ b. slice_get (map f (cond b (x ∷ filter test xs) (filter test xs))) 0) (k.before 0 x (omega arith) refl)
    ∙ least_first f test xs i record { here = k.here; before = λ j s l is. k.before (suc j) s (omega (arith, l)) is }

-- one slot more
pub waiting_more : (slots : List Slot) (l : Letter) → waiting_in (slots ++ record { letter = l; waits = true } ∷ []) ≡ waiting_in slots ++ l ∷ []
waiting_more [] l = refl
waiting_more (x ∷ xs) l = by x.waits (waiting_more xs l)
  where
    by : (b : Bool) → waiting_in (xs ++ record { letter = l; waits = true } ∷ []) ≡ waiting_in xs ++ l ∷ []
        → map (λ t. t.letter) (cond b (x ∷ filter (λ t. t.waits) (xs ++ record { letter = l; waits = true } ∷ [])) (filter (λ t. t.waits) (xs ++ record { letter = l; waits = true } ∷ []))) ≡ map (λ t. t.letter) (cond b (x ∷ filter (λ t. t.waits) xs) (filter (λ t. t.waits) xs)) ++ l ∷ []
    by true h = ap (λ ls. x.letter ∷ ls) h
    by false h = h

-- a letter leaves
pub record Parted (old : List Letter) (l : Letter) (new : List Letter) : Type 0 where
  pub before : List Letter
  pub after : List Letter
  pub was : old ≡ before ++ (l ∷ after)
  pub is : new ≡ before ++ after

pub parted_at : (slots : List Slot) (i : ℕ) (s t : Slot) → slice_get slots i ≡ Some s → s.waits ≡ true → t.waits ≡ false → Parted (waiting_in slots) s.letter (waiting_in (set slots i t))
parted_at [] i s t is w f = absurd (none-some s is)
parted_at (x ∷ xs) zero s t is w f =
    let e = same_Some x s is in record {
      before = [];
      after = waiting_in xs;
      was = ap (λ b. map (λ u. u.letter) (cond b (x ∷ filter (λ u. u.waits) xs) (filter (λ u. u.waits) xs))) (ap (λ (u : Slot). u.waits) e ∙ w) ∙ ap (λ (u : Slot). u.letter ∷ waiting_in xs) e;
      is = ap (λ b. map (λ u. u.letter) (cond b (t ∷ filter (λ u. u.waits) xs) (filter (λ u. u.waits) xs))) f;
    }
parted_at (x ∷ xs) (suc i) s t is w f = by x.waits (parted_at xs i s t is w f)
  where
    by : (b : Bool) → Parted (waiting_in xs) s.letter (waiting_in (set xs i t))
        → Parted (map (λ u. u.letter) (cond b (x ∷ filter (λ u. u.waits) xs) (filter (λ u. u.waits) xs))) s.letter (map (λ u. u.letter) (cond b (x ∷ filter (λ u. u.waits) (set xs i t)) (filter (λ u. u.waits) (set xs i t))))
    by true p = record { before = x.letter ∷ p.before; after = p.after; was = ap (λ ls. x.letter ∷ ls) p.was; is = ap (λ ls. x.letter ∷ ls) p.is }
    by false p = p

-- a letter that waits stands in a slot
abbrev HasSlot : List Slot → Letter → Type 0
HasSlot slots w = (s : Slot) × Contains slots s × (s.waits ≡ true) × (s.letter ≡ w)

pub slot_with : (slots : List Slot) (w : Letter) → Contains (waiting_in slots) w → (s : Slot) × Contains slots s × (s.waits ≡ true) × (s.letter ≡ w)
slot_with [] w c = absurd (omega (arith, c.1))
slot_with (x ∷ xs) w c = by x.waits refl c (slot_with xs w)
  where
    there : HasSlot xs w → HasSlot (x ∷ xs) w
    there r = (r.0, Contains-append_right (x ∷ []) xs r.0 r.1, r.2, r.3)

    by : (b : Bool) → x.waits ≡ b → Contains (map (λ t. t.letter) (cond b (x ∷ filter (λ t. t.waits) xs) (filter (λ t. t.waits) xs))) w → (Contains (waiting_in xs) w → HasSlot xs w) → HasSlot (x ∷ xs) w
    by true e c ih = elim (cons_cases x.letter (waiting_in xs) w c) [
      | inl q ↦ (x, (0, omega arith, refl), e, q)
      | inr d ↦ there (ih d)
    ]
    by false e c ih = there (ih c)

pub no_slot : (slots : List Slot) (id : LetterId) (i : ℕ) → length slots ≤ i → ((s : Slot) → Contains (take i slots) s → (s.waits && is_named id s.letter) ≡ false) → (w : Letter) → Contains (waiting_in slots) w → is_named id w ≡ true → ⊥
no_slot slots id i l h w c t =
    let r = slot_with slots w c in
    none_at_all (λ s. s.waits && is_named id s.letter) slots i l h r.0 r.1 (ap (λ b. b && is_named id r.0.letter) r.2 ∙ ap (is_named id) r.3 ∙ t)

-- what is found from a place on
pub find_here : (test : Letter → Bool) (slots : List Slot) (i : ℕ) (s : Slot) → slice_get slots i ≡ Some s → (s.waits && test s.letter) ≡ true → find test (waiting_in (drop i slots)) ≡ Some s.letter
find_here test [] i s is t = absurd (none-some s is)
find_here test (x ∷ xs) zero s is t =
    let e = same_Some x s is in let p = and_parts _ _ t in
    ap (λ b. find test (map (λ u. u.letter) (cond b (x ∷ filter (λ u. u.waits) xs) (filter (λ u. u.waits) xs)))) (ap (λ (u : Slot). u.waits) e ∙ p.0)
    ∙ ap (λ b. cond b (Some x.letter) (find test (waiting_in xs))) (ap (λ (u : Slot). test u.letter) e ∙ p.1) ∙ ap (λ (u : Slot). Some u.letter) e
find_here test (x ∷ xs) (suc i) s is t = find_here test xs i s is t

find_next : (test : Letter → Bool) (slots : List Slot) (i : ℕ) (s : Slot) → slice_get slots i ≡ Some s → (s.waits && test s.letter) ≡ false → find test (waiting_in (drop i slots)) ≡ find test (waiting_in (drop (suc i) slots))
find_next test [] i s is t = absurd (none-some s is)
find_next test (x ∷ xs) zero s is t = by x.waits (ap (λ (u : Slot). u.waits && test u.letter) (same_Some x s is) ∙ t)
  where
    by : (b : Bool) → (b && test x.letter) ≡ false → find test (map (λ u. u.letter) (cond b (x ∷ filter (λ u. u.waits) xs) (filter (λ u. u.waits) xs))) ≡ find test (waiting_in xs)
    by false h = refl
    by true h = ap (λ b. cond b (Some x.letter) (find test (waiting_in xs))) h
find_next test (x ∷ xs) (suc i) s is t = find_next test xs i s is t

pub find_past : (test : Letter → Bool) (slots : List Slot) (i : ℕ) (s : Slot) → slice_get slots i ≡ Some s → (s.waits && test s.letter) ≡ false → find test (waiting_in (drop i slots)) ≡ find test (waiting_in (drop (i + 1) slots))
find_past test slots i s is t = find_next test slots i s is t ∙ ap (λ j. find test (waiting_in (drop j slots))) (sym (add-one i))

pub find_end : (test : Letter → Bool) (slots : List Slot) (i : ℕ) → length slots ≤ i → find test (waiting_in (drop i slots)) ≡ None
find_end test slots i l = ap (λ xs. find test (waiting_in xs)) (drop_of_length-le slots l)

-- one letter less
pub rises_parted : (low : ℕ) (xs : List Letter) (l : Letter) (ys : List Letter) → Rises low (xs ++ (l ∷ ys)) → Rises low (xs ++ ys)
rises_parted low [] l ys r = rises_lower low (l.posted + 1) ys (omega (arith, r.0)) r.1.1
rises_parted low (x ∷ xs) l ys r = (r.0, (r.1.0, rises_parted (x.posted + 1) xs l ys r.1.1))

all_parted : (P : Letter → Type 0) (xs : List Letter) (l : Letter) (ys : List Letter) → AllByRecursion P (xs ++ (l ∷ ys)) → AllByRecursion P (xs ++ ys) × P l
all_parted P [] l ys h = (h.1, h.0)
all_parted P (x ∷ xs) l ys h = let r = all_parted P xs l ys h.1 in ((h.0, r.0), r.1)

pub distinct_parted : (xs : List Letter) (l : Letter) (ys : List Letter) → IsDistinct same_letter (xs ++ (l ∷ ys)) → IsDistinct same_letter (xs ++ ys)
unfolding IsDistinct
distinct_parted [] l ys d = d.1
distinct_parted (x ∷ xs) l ys d = ((all_parted (λ w. same_letter x w ≡ false) xs l ys d.0).0, distinct_parted xs l ys d.1)

unlike : (xs : List Letter) (l : Letter) (ys : List Letter) → IsDistinct same_letter (xs ++ (l ∷ ys)) → (k : Letter) → Contains xs k → same_letter k l ≡ false
unfolding IsDistinct
unlike [] l ys d k c = absurd (omega (arith, c.1))
unlike (x ∷ xs) l ys d k c = elim (cons_cases x xs k c) [
  | inl e ↦ subst (λ k. same_letter k l ≡ false) e (all_parted (λ w. same_letter x w ≡ false) xs l ys d.0).1
  | inr b ↦ unlike xs l ys d.1 k b
]

pub rises_left : (old : List Letter) (l : Letter) (new : List Letter) → Parted old l new → Rises 0 old → Rises 0 new
rises_left old l new p r = subst (Rises 0) (sym p.is) (rises_parted 0 p.before l p.after (subst (Rises 0) p.was r))

pub distinct_left : (old : List Letter) (l : Letter) (new : List Letter) → Parted old l new → IsDistinct same_letter old → IsDistinct same_letter new
distinct_left old l new p d = subst (IsDistinct same_letter) (sym p.is) (distinct_parted p.before l p.after (subst (IsDistinct same_letter) p.was d))

pub leaves_parted : (old : List Letter) (l : Letter) (new : List Letter) → Parted old l new → IsDistinct same_letter old → Leaves old l new
leaves_parted old l new p d = record { before = p.before; after = p.after; was = p.was; is = p.is; first = λ k c. unlike p.before l p.after (subst (IsDistinct same_letter) p.was d) k c }

pub parted_by : (slots : List Slot) (i : ℕ) (s : Slot) (l : Letter) (after : List Slot) → slice_get slots i ≡ Some s → s.waits ≡ true → l ≡ s.letter → after ≡ set slots i (record { letter = l; waits = false }) → Parted (waiting_in slots) l (waiting_in after)
parted_by slots i s l after is w e a =
    subst (λ k. Parted (waiting_in slots) k (waiting_in after)) (sym e) (subst (λ xs. Parted (waiting_in slots) s.letter (waiting_in xs)) (sym a) (parted_at slots i s (record { letter = l; waits = false }) is w refl))

-- the letter of a slot waits
pub waits_at : (slots : List Slot) (i : ℕ) (s : Slot) → slice_get slots i ≡ Some s → s.waits ≡ true → Contains (waiting_in slots) s.letter
waits_at slots i s is w =
    let p = parted_at slots i s (record { letter = s.letter; waits = false }) is w refl in
    subst (λ ls. Contains ls s.letter) (sym p.was) (Contains-append_right p.before (s.letter ∷ p.after) s.letter (0, omega arith, refl))

pub queued_by : (a b : List Slot) (next c heads tails : List ℕ) → Linked b next heads tails → a ≡ b → c ≡ next → Rises 0 (waiting_in a) → Queued a c heads
queued_by a b next c heads tails h e f r = subst (λ xs. Queued xs c heads) (sym e) (subst (λ ns. Queued b ns heads) (sym f) record { chain = h.chain; fronts = h.fronts; rising = subst (λ xs. Rises 0 (waiting_in xs)) e r })

-- what a push leaves
pub posted_rises : {T E : Type 0} (r : Result T E) (old new : List Slot) (l : Letter) → OnOk r (new ≡ old ++ record { letter = l; waits = true } ∷ []) → OnErr r (new ≡ old) → Rises 0 (waiting_in old) → ((w : Letter) → Contains (waiting_in old) w → w.posted < l.posted) → l.posted + 1 < 2 ^ 32 → Rises 0 (waiting_in new)
posted_rises (Ok t) old new l e f r last fits = subst (Rises 0) (sym (ap waiting_in e ∙ waiting_more old l)) (rises_push 0 (waiting_in old) l r (omega arith) last fits)
posted_rises (Err t) old new l e f r last fits = subst (λ xs. Rises 0 (waiting_in xs)) (sym f) r

pub posted_distinct : {T E : Type 0} (r : Result T E) (old new : List Slot) (l : Letter) → OnOk r (new ≡ old ++ record { letter = l; waits = true } ∷ []) → OnErr r (new ≡ old) → IsDistinct same_letter (waiting_in old) → ((w : Letter) → Contains (waiting_in old) w → is_named l.id w ≡ false) → IsDistinct same_letter (waiting_in new)
posted_distinct (Ok t) old new l e f d none = subst (IsDistinct same_letter) (sym (ap waiting_in e ∙ waiting_more old l)) (distinct_pushed true (waiting_in old) l d none)
posted_distinct (Err t) old new l e f d none = subst (λ xs. IsDistinct same_letter (waiting_in xs)) (sym f) d

-- the waiting letters of the first slots
waiting_upto : (slots : List Slot) (i : ℕ) (s : Slot) → slice_get slots i ≡ Some s → waiting_in (take (suc i) slots) ≡ waiting_in (take i slots) ++ cond s.waits (s.letter ∷ []) []
waiting_upto [] i s is = absurd (none-some s is)
waiting_upto (x ∷ xs) zero s is = by x.waits ∙ ap (λ (u : Slot). cond u.waits (u.letter ∷ []) []) (same_Some x s is)
  where
    by : (b : Bool) → map (λ t. t.letter) (cond b (x ∷ []) []) ≡ cond b (x.letter ∷ []) []
    by true = refl
    by false = refl
waiting_upto (x ∷ xs) (suc i) s is = by x.waits (waiting_upto xs i s is)
  where
    by : (b : Bool) → waiting_in (take (suc i) xs) ≡ waiting_in (take i xs) ++ cond s.waits (s.letter ∷ []) []
        → map (λ t. t.letter) (cond b (x ∷ filter (λ t. t.waits) (take (suc i) xs)) (filter (λ t. t.waits) (take (suc i) xs))) ≡ map (λ t. t.letter) (cond b (x ∷ filter (λ t. t.waits) (take i xs)) (filter (λ t. t.waits) (take i xs))) ++ cond s.waits (s.letter ∷ []) []
    by true h = ap (λ ls. x.letter ∷ ls) h
    by false h = h

pub upto_taken : (slots : List Slot) (i : ℕ) (s : Slot) → slice_get slots i ≡ Some s → s.waits ≡ false → waiting_in (take (i + 1) slots) ≡ waiting_in (take i slots)
upto_taken slots i s is w = ap (λ j. waiting_in (take j slots)) (add-one i) ∙ waiting_upto slots i s is ∙ ap (λ b. waiting_in (take i slots) ++ cond b (s.letter ∷ []) []) w ∙ append-nil (waiting_in (take i slots))

pub upto_more : (slots fresh pushed : List Slot) (i : ℕ) (s : Slot) → slice_get slots i ≡ Some s → s.waits ≡ true → waiting_in fresh ≡ waiting_in (take i slots) → pushed ≡ fresh ++ record { letter = s.letter; waits = true } ∷ [] → waiting_in pushed ≡ waiting_in (take (i + 1) slots)
upto_more slots fresh pushed i s is w h e =
    ap waiting_in e ∙ waiting_more fresh s.letter ∙ ap (λ ls. ls ++ s.letter ∷ []) h
    ∙ sym (ap (λ j. waiting_in (take j slots)) (add-one i) ∙ waiting_upto slots i s is ∙ ap (λ b. waiting_in (take i slots) ++ cond b (s.letter ∷ []) []) w)
