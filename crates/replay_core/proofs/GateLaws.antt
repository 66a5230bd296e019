-- What a gate looks up, while it is made and when it is made.
use Rattle.std.proofs.Common.{◌≡◌, ℕ, zero, suc, ◌+◌, ◌<◌, ◌≤◌, Bool, true, false, cond, ◌||◌, ◌&&◌, not, List, [], ◌∷◌, ◌++◌, length, take, set, get_or, replicate, Option, None, Some, refl, sym, ap, ◌∙◌, subst, inl, inr, arith, get_or-set_same, get_or-set_other, true≢false, add-one}
use Rattle.std.specs.Prelude.{◌==◌, option_map, is_some, find, nat_le, sum}
use Rattle.std.specs.List.{list_any}
use Rattle.std.specs.Option.{option_or}
use Rattle.std.proofs.Math.ListN.{length-set}
use Rattle.std.proofs.lemmas.Bool.{and_parts, cases_eq, cases_lt, eqb-true}
use Rattle.std.proofs.lemmas.List.{take_more}
use Rattle.std.proofs.lemmas.List.Folds.{list_any-append, find-append}
use Rattle.std.proofs.lemmas.List.Sums.{sum_by-cons}
use Rattle.indexmap.specs.IndexMap.{IndexMap, get}
use Rattle.std.specs.Map.{lookup}
use Rattle.nm_base.specs.declared.letter.LetterId.{LetterId}
use Rattle.nm_base.specs.declared.letter.AcceptNote.{AcceptNote}
use Rattle.nm_base.specs.Message.{same_name}
use Rattle.trace_file.specs.Content.{Content, count_of}
use Rattle.trace_file.specs.Rules.{IsTrace}
use Rattle.trace_file.proofs.Marks.{zero_at}
use Rattle.trace_file.proofs.Walk.{no_count}
use Rattle.event_list.specs.Traces.{Trace, permits_by, note_for, names}
use Rattle.event_list.specs.Turns.{sum_below}
use Rattle.replay_core.specs.declared.gate.Receive.{Receive}
use Rattle.replay_core.specs.Gates.{Gating, IsGateOf, seen_trace, same_receive, receive_at, lets_by}
use Rattle.replay_core.specs.Replaying.{IsSmall}
use Rattle.replay_core.specs.private.Held.{Holds}

or_map : {X Y : Type 0} (f : X → Y) (a b : Option X) → option_map f (option_or a b) ≡ option_or (option_map f a) (option_map f b)
or_map f None b = refl
or_map f (Some x) b = refl

or_none : {X : Type 0} (a : Option X) → a ≡ option_or a None
or_none None = refl
or_none (Some x) = refl

find_one : {X Y : Type 0} (test : X → Bool) (f : X → Y) (x : X) → option_map f (find test (x ∷ [])) ≡ cond (test x) (Some (f x)) None
find_one test f x = by (test x)
  where
    by : (b : Bool) → option_map f (cond b (Some x) None) ≡ cond b (Some (f x)) None
    by true = refl
    by false = refl

-- the letter of the first note that passes the test
found : (AcceptNote → Bool) → List AcceptNote → Option LetterId
found test notes = option_map (λ note. note.id) (find test notes)

found_more : (test : AcceptNote → Bool) (notes : List AcceptNote) (note : AcceptNote) → found test (notes ++ note ∷ []) ≡ option_or (found test notes) (cond (test note) (Some note.id) None)
unfolding found
found_more test notes note =
    ap (option_map (λ note. note.id)) (find-append test notes (note ∷ [])) ∙ or_map (λ note. note.id) (find test notes) (find test (note ∷ []))
    ∙ ap (option_or (option_map (λ note. note.id) (find test notes))) (find_one test (λ note. note.id) note)

note_named : (c a : Bool) → cond c true (a || false) ≡ (a || (c || false)) || false
note_named true true = refl
note_named true false = refl
note_named false true = refl
note_named false false = refl

lost_named : (c a l : Bool) → cond c true (a || l) ≡ a || (l || (c || false))
lost_named true true l = refl
lost_named true false true = refl
lost_named true false false = refl
lost_named false true l = refl
lost_named false false true = refl
lost_named false false false = refl

module _ (old new : Gating) where
  pub holds_note : (note : AcceptNote) (notes : List AcceptNote)
      → ((r : Receive) → lookup (same_receive r) new.noted ≡ option_or (lookup (same_receive r) old.noted) (cond (same_receive (record { receiver = note.receiver; number = note.receive }) r) (Some note.id) None))
      → ((id : LetterId) → list_any (same_name id) new.named ≡ cond (same_name note.id id) true (list_any (same_name id) old.named))
      → Holds old notes [] → Holds new (notes ++ note ∷ []) []
  unfolding found
  holds_note note notes noted named h = record {
    noted = λ p j.
        let test : AcceptNote → Bool = λ n. (n.receiver.no == p) && (n.receive == j) in
        noted (receive_at p j) ∙ ap (λ o. option_or o (cond (test note) (Some note.id) None)) (h.noted p j) ∙ sym (found_more test notes note);
    named = λ id.
        let test : AcceptNote → Bool = λ n. same_name n.id id in
        named id ∙ ap (cond (test note) true) (h.named id) ∙ note_named (test note) (list_any test notes) ∙ ap (λ b. b || false) (sym (list_any-append test notes (note ∷ [])));
  }

  pub holds_lost : (id : LetterId) (notes : List AcceptNote) (lost : List LetterId)
      → ((r : Receive) → lookup (same_receive r) new.noted ≡ lookup (same_receive r) old.noted)
      → ((q : LetterId) → list_any (same_name q) new.named ≡ cond (same_name id q) true (list_any (same_name q) old.named))
      → Holds old notes lost → Holds new notes (lost ++ id ∷ [])
  holds_lost id notes lost noted named h = record {
    noted = λ p j. noted (receive_at p j) ∙ h.noted p j;
    named = λ q.
        let among : Bool = list_any (λ (n : AcceptNote). same_name n.id q) notes in
        named q ∙ ap (cond (same_name id q) true) (h.named q) ∙ lost_named (same_name id q) among (list_any (λ l. same_name l q) lost)
        ∙ ap (λ b. among || b) (sym (list_any-append (λ l. same_name l q) lost (id ∷ [])));
  }

-- one element more of a list was read
pub taken_more : {X : Type 0} (read xs : List X) (i : ℕ) (d : X) → read ≡ xs → i < length read → take (i + 1) xs ≡ take i xs ++ get_or read i d ∷ []
taken_more read xs i d is l =
    take_more xs i d (omega (arith, l, ap length is)) ∙ ap (λ z. take i xs ++ z ∷ []) (ap (λ ys. get_or ys i d) (sym is))

-- receives with the same numbers are one
receive_same : (a b : Receive) → same_receive a b ≡ true → a ≡ b
receive_same a b h =
    let parts = and_parts (a.receiver.no == b.receiver.no) (a.number == b.number) h in
    let p = eqb-true a.receiver.no b.receiver.no parts.0 in
    let q = eqb-true a.number b.number parts.1 in
    λ i. record { receiver = record { no = p i }; number = q i }

module _ {S : Type 0} (m : IndexMap Receive LetterId S) (k : Receive) (id : LetterId) where
  -- a receive that has a letter keeps it
  pub kept_first : is_some (get same_receive m k) ≡ true → (r : Receive) → get same_receive m r ≡ option_or (get same_receive m r) (cond (same_receive k r) (Some id) None)
  kept_first has r = by (get same_receive m r) refl (same_receive k r) refl
    where
      by : (o : Option LetterId) → get same_receive m r ≡ o → (b : Bool) → same_receive k r ≡ b → o ≡ option_or o (cond b (Some id) None)
      by (Some x) e b f = refl
      by None e false f = refl
      by None e true f = absurd (true≢false (sym has ∙ ap (λ z. is_some (get same_receive m z)) (receive_same k r f) ∙ ap is_some e))

  -- and one that has none gets this one
  pub put_first : (n : IndexMap Receive LetterId S) → is_some (get same_receive m k) ≡ false → ((r : Receive) → get same_receive n r ≡ cond (same_receive k r) (Some id) (get same_receive m r))
      → (r : Receive) → get same_receive n r ≡ option_or (get same_receive m r) (cond (same_receive k r) (Some id) None)
  put_first n none new r = new r ∙ by (get same_receive m r) refl (same_receive k r) refl
    where
      by : (o : Option LetterId) → get same_receive m r ≡ o → (b : Bool) → same_receive k r ≡ b → cond b (Some id) o ≡ option_or o (cond b (Some id) None)
      by None e true f = refl
      by None e false f = refl
      by (Some x) e false f = refl
      by (Some x) e true f = absurd (true≢false (sym (ap is_some e) ∙ ap (λ z. is_some (get same_receive m z)) (sym (receive_same k r f)) ∙ none))

-- the first n places of a table hold f, and the others 0
pub record Filled (f : ℕ → ℕ) (n : ℕ) (xs : List ℕ) : Type 0 where
  pub size : length xs ≡ 32
  pub below : (q : ℕ) → q < n → get_or xs q 0 ≡ f q
  pub above : (q : ℕ) → n ≤ q → get_or xs q 0 ≡ 0

pub filled_none : (f : ℕ → ℕ) → Filled f 0 (replicate 32 0)
filled_none f = record { size = refl; below = λ q l. absurd (omega (arith, l)); above = λ q l. zero_at (replicate 32 0) refl q }

pub filled_more : (f : ℕ → ℕ) (n : ℕ) (xs : List ℕ) (v : ℕ) → n < 32 → v ≡ f n → Filled f n xs → Filled f (n + 1) (set xs n v)
filled_more f n xs v small is h = record {
  size = length-set xs n v ∙ h.size;
  below = λ q l. elim (cases_eq q n) [
    | inl e ↦ subst (λ z. get_or (set xs n v) z 0 ≡ f z) (sym e) (get_or-set_same xs n v 0 (omega (arith, small, h.size)) ∙ is)
    | inr e ↦ get_or-set_other xs n q v 0 e ∙ h.below q (omega (arith, l, e))
  ];
  above = λ q l. get_or-set_other xs n q v 0 (λ e. omega (arith, l, e)) ∙ h.above q (omega (arith, l));
}

-- where f is 0 from there on, the table holds f
pub filled_all : (f : ℕ → ℕ) (n : ℕ) (xs : List ℕ) → ((q : ℕ) → n ≤ q → f q ≡ 0) → Filled f n xs → (q : ℕ) → get_or xs q 0 ≡ f q
filled_all f n xs none h q = elim (cases_lt q n) [ inl l ↦ h.below q l | inr l ↦ h.above q l ∙ sym (none q l) ]

sum_first : (n : ℕ) (f : ℕ → ℕ) → sum_below (suc n) f ≡ f 0 + sum_below n (λ p. f (suc p))
sum_first zero f = refl
sum_first (suc n) f = omega (arith, sum_first n f)

-- the elements of a list by their places sum up to its sum
sum_places : (xs : List ℕ) → sum_below (length xs) (λ p. get_or xs p 0) ≡ sum xs
sum_places [] = refl
sum_places (x ∷ xs) = omega (arith, sum_first (length xs) (λ p. get_or (x ∷ xs) p 0), sum_places xs, sum_by-cons (λ z. z) x xs)

pub sum_next : (n : ℕ) (f : ℕ → ℕ) → sum_below (n + 1) f ≡ f n + sum_below n f
sum_next n f = ap (λ m. sum_below m f) (add-one n)

pub sum_mono : (n p : ℕ) (f : ℕ → ℕ) → p ≤ n → sum_below p f ≤ sum_below n f
sum_mono zero zero f l = omega arith
sum_mono zero (suc p) f l = absurd (omega (arith, l))
sum_mono (suc n) p f l = elim (cases_eq p (suc n)) [
  | inl e ↦ omega (arith, ap (λ q. sum_below q f) e)
  | inr e ↦ omega (arith, sum_mono n p f (omega (arith, l, e)))
]

module _ (t : Content) (is : IsTrace t) where
  -- the recorded counts sum up to no more than a run's events
  pub small : IsSmall (seen_trace t)
  small = record {
    some = is.front.header.some;
    few = is.front.header.few;
    sum = omega (arith, ap (λ n. sum_below n (count_of t)) (sym is.counts.each), sum_places t.counts, is.counts.sum);
    none = λ p l. no_count t p is l;
  }

  -- a gate that holds the trace's entries has its rule
  pub gate_of : (gate : Gating) → Holds gate t.notes t.lost → ((p : ℕ) → get_or gate.counts p 0 ≡ count_of t p) → gate.total ≡ sum_below t.n (count_of t) → IsGateOf gate (seen_trace t)
  gate_of gate h counts total = record {
    lets = λ p j id.
        let T = seen_trace t in
        ap (λ o. lets_by o (list_any (same_name id) gate.named) id) (h.noted p j) ∙ ap (λ b. lets_by (option_map (λ note. note.id) (note_for T p j)) b id) (h.named id) ∙ by T id (note_for T p j);
    lets_go = λ p k. ap (λ n. not (nat_le n k)) (counts p);
    counts = counts;
    total = total;
  }
    where
      by : (T : Trace) (id : LetterId) (o : Option AcceptNote) → lets_by (option_map (λ note. note.id) o) (names T id) id ≡ permits_by o T id
      by T id None = refl
      by T id (Some note) = refl
