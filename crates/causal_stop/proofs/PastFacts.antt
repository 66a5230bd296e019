-- A walk back through a sound list, from an entry to the front.
use Rattle.std.proofs.Common.{◌≡◌, ℕ, ◌+◌, ◌<◌, ◌≤◌, Bool, true, false, cond, List, [], ◌∷◌, ◌++◌, Option, Some, None, refl, sym, ap, ◌∙◌, subst, inl, inr, arith, append_assoc, take, drop}
use Rattle.std.specs.Prelude.{Contains, slice_get, nat_le, ◌==◌, ◌⊎◌}
use Rattle.std.proofs.lemmas.Bool.{cases_eq, eq-eqb, ne_eqb, leb-true, le-leb, ltb-true, lt-ltb, or_cases, or_left, or_right, false≢true}
use Rattle.std.proofs.lemmas.List.Elements.{Contains-append_left, Contains-append_right}
use Rattle.nm_base.specs.declared.letter.LetterId.{LetterId}
use Rattle.nm_base.specs.Message.{Message}
use Rattle.event_list.specs.declared.Event.{Event}
use Rattle.event_list.specs.Events.{count, letter_of, taken_of, Sends, Accepts}
use Rattle.event_list.specs.Order.{Before, Cut, Within, IsConsistent}
use Rattle.event_list.specs.Runs.{Sound, FitsSoundly}
use Rattle.event_list.specs.Stored.{IsBounded}
use Rattle.event_list.specs.Clocks.{IsCounts}
use Rattle.event_list.specs.Cuts.{IsLeastCut, raised}
use Rattle.event_list.proofs.Members.{cons_here, cons_cases}
use Rattle.event_list.proofs.Splits.{prefix, last}
use Rattle.event_list.proofs.Soundness.{numbers, sender_is, send_order, send_same}
use Rattle.event_list.proofs.Links.{accepts_from, accept_sent}
use Rattle.event_list.proofs.ClockLaws.{past_counts}
use Rattle.event_list.proofs.CutFacts.{past_least}
use Rattle.causal_stop.specs.Stops.{Holds, IsEntry}
use Rattle.causal_stop.specs.private.Walks.{Letters, IsFromProcess, is_among, is_needed, events_with, letters_with}
use Rattle.causal_stop.proofs.NumberFacts.{raised_cases, raised_grows, raised_own}
use Rattle.causal_stop.proofs.PlaceFacts.{rises, at_place, in_place}

-- what a walk back to the entries ys has found: each cut that holds the entry a holds so many events, and the sends of so
-- many letters; among ys nothing is left to bring in
pub record Reaches (E : List Event) (a : Event) (ys : List Event) (v : Cut) (w : Letters) : Type 0 where
  pub bound : (q : ℕ) → v q ≤ count E q
  pub meets : a.number ≤ v a.proc.no
  pub low : (d : Cut) → IsConsistent E d → a.number ≤ d a.proc.no → (q : ℕ) → v q ≤ d q
  pub wanted : (d : Cut) → IsConsistent E d → a.number ≤ d a.proc.no → (s : Event) (m : Message) → Sends E s m
      → m.id.number < w m.id.sender.no → Within d s
  pub receives : (b : Event) (id : LetterId) → Contains ys b → Within v b → taken_of b ≡ Some id → id.number < w id.sender.no
  pub sends : (s : Event) (m : Message) → Contains ys s → letter_of s ≡ Some m → m.id.number < w m.id.sender.no → Within v s

-- it begins behind the entry
pub reaches_start : {M : ℕ} {E : List Event} → Sound M E → (a : Event) (xs ys : List Event) → E ≡ xs ++ ys → Contains E a → Contains xs a → (v w : ℕ → ℕ) → ((q : ℕ) → v q ≡ cond (q == a.proc.no) a.number 0) → ((q : ℕ) → w q ≡ 0) → Reaches E a ys v w
reaches_start {E = E} g a xs ys e inside ha v w hv hw =
    let own : (q : ℕ) → q ≡ a.proc.no → v q ≡ a.number = λ q h. hv q ∙ ap (λ b. cond b a.number 0) (eq-eqb q a.proc.no h) in
    let other : (q : ℕ) → (q ≡ a.proc.no → ⊥) → v q ≡ 0 = λ q h. hv q ∙ ap (λ b. cond b a.number 0) (ne_eqb q a.proc.no h) in
    record {
      bound = λ q. elim (cases_eq q a.proc.no) [
        | inl h ↦ omega (arith, own q h, (numbers g a inside).1, ap (count E) h)
        | inr n ↦ omega (arith, other q n)
      ];
      meets = omega (arith, own a.proc.no refl);
      low = λ d dc h q. elim (cases_eq q a.proc.no) [
        | inl k ↦ omega (arith, own q k, h, ap d k)
        | inr n ↦ omega (arith, other q n)
      ];
      wanted = λ d dc h s m hs l. absurd (omega (arith, l, hw m.id.sender.no));
      receives = λ b id hb k t. absurd (
          let hb2 : Contains E b = rw e (Contains-append_right xs ys b hb) in
          elim (cases_eq b.proc.no a.proc.no) [
            | inl p ↦ let r = rises g xs ys e a b ha hb (sym p) in omega (arith, r, k, own b.proc.no p)
            | inr n ↦ omega (arith, k, other b.proc.no n, (numbers g b hb2).0)
          ]);
      sends = λ s m hs t l. absurd (omega (arith, l, hw m.id.sender.no));
    }

-- a letter of the same sender that isn't later was not sent later
not_later : {M : ℕ} {E : List Event} → Sound M E → (s t : Event) (m l : Message) → Sends E s m → Sends E t l → m.id.sender.no ≡ l.id.sender.no → m.id.number ≤ l.id.number → s.number ≤ t.number
not_later g s t m l hs ht p n = elim (cases_eq m.id.number l.id.number) [
  | inl e ↦ omega (arith, ap (λ x. x.number) (send_same g s t m l hs ht p e))
  | inr d ↦ let o = send_order g s t m l hs ht p (omega (arith, n, d)) in omega (arith, o)
]

among_some : (w : Letters) (o : Option Message) → is_among w o ≡ true → (m : Message) × (o ≡ Some m) × (m.id.number < w m.id.sender.no)
among_some w None h = absurd (false≢true h)
among_some w (Some m) h = (m, refl, ltb-true m.id.number (w m.id.sender.no) h)

none_some : {X : Type 0} (x : X) → None ≡ Some x → ⊥
none_some x h = cc

some_same : {X : Type 0} (x y : X) → Some x ≡ Some y → x ≡ y
some_same x y h = cc

-- one entry more
module _ (M : ℕ) (E : List Event) (g : Sound M E) (a : Event) (xs : List Event) (e : Event) (ys : List Event) (whole : E ≡ xs ++ (e ∷ ys)) (v w v2 w2 : ℕ → ℕ) (r : Reaches E a ys v w) (events : (q : ℕ) → v2 q ≡ events_with (is_needed v w e) v e q) (letters : (q : ℕ) → w2 q ≡ letters_with (is_needed v w e) w (taken_of e) q) where
  here : Contains E e
  here = rw whole (Contains-append_right xs (e ∷ ys) e (cons_here e ys))

  split : E ≡ (xs ++ e ∷ []) ++ ys
  split = whole ∙ sym (append_assoc xs (e ∷ []) ys)

  fits : FitsSoundly M xs e
  fits = last xs e (prefix (xs ++ e ∷ []) ys (subst (Sound M) split g))

  behind : (b : Event) → Contains ys b → b.proc.no ≡ e.proc.no → e.number < b.number
  behind b hb p = rises g (xs ++ e ∷ []) ys split e b (Contains-append_right xs (e ∷ []) e (cons_here e [])) hb (sym p)

  not_needed : is_needed v w e ≡ false → Reaches E a (e ∷ ys) v2 w2
  not_needed is =
      let ve : (q : ℕ) → v2 q ≡ v q = λ q. events q ∙ ap (λ b. events_with b v e q) is in
      let we : (q : ℕ) → w2 q ≡ w q = λ q. letters q ∙ ap (λ b. letters_with b w (taken_of e) q) is in
      record {
        bound = λ q. omega (arith, r.bound q, ve q);
        meets = omega (arith, r.meets, ve a.proc.no);
        low = λ d dc h q. omega (arith, r.low d dc h q, ve q);
        wanted = λ d dc h s m hs l. r.wanted d dc h s m hs (omega (arith, l, we m.id.sender.no));
        receives = λ b id hb k t. elim (cons_cases e ys b hb) [
          | inl z ↦
              let k2 : Within v2 e = subst (Within v2) (sym z) k in
              absurd (false≢true (sym is ∙ or_left (nat_le e.number (v e.proc.no)) (is_among w (letter_of e)) (le-leb e.number (v e.proc.no) (omega (arith, k2, ve e.proc.no)))))
          | inr o ↦ let n = r.receives b id o (omega (arith, k, ve b.proc.no)) t in omega (arith, n, we id.sender.no)
        ];
        sends = λ s m hs t l. elim (cons_cases e ys s hs) [
          | inl z ↦ absurd (false≢true (sym is ∙ or_right (nat_le e.number (v e.proc.no)) (is_among w (letter_of e)) (ap (is_among w) (ap letter_of z ∙ t) ∙ lt-ltb m.id.number (w m.id.sender.no) (omega (arith, l, we m.id.sender.no)))))
          | inr o ↦ let n = r.sends s m o t (omega (arith, l, we m.id.sender.no)) in omega (arith, n, ve s.proc.no)
        ];
      }

  module _ (is : is_needed v w e ≡ true) where
    ve : (q : ℕ) → v2 q ≡ raised v e.proc.no e.number q
    ve q = events q ∙ ap (λ b. events_with b v e q) is

    grows : (q : ℕ) → v q ≤ v2 q
    grows q = omega (arith, ve q, raised_grows v e.proc.no e.number q)

    has_e : Within v2 e
    has_e = omega (arith, ve e.proc.no, raised_own v e.proc.no e.number)

    in_cut : (d : Cut) → IsConsistent E d → a.number ≤ d a.proc.no → Within d e
    in_cut d dc h = elim (or_cases (nat_le e.number (v e.proc.no)) (is_among w (letter_of e)) is) [
      | inl t ↦ omega (arith, leb-true e.number (v e.proc.no) t, r.low d dc h e.proc.no)
      | inr t ↦ let m = among_some w (letter_of e) t in r.wanted d dc h e m.0 record { in_list = here; letter = m.1 } m.2
    ]

    bound : (q : ℕ) → v2 q ≤ count E q
    bound q = elim (raised_cases v e.proc.no e.number q) [
      | inl s ↦ omega (arith, ve q, s, r.bound q)
      | inr s ↦ omega (arith, ve q, s.1, (numbers g e here).1, ap (count E) s.0)
    ]

    low : (d : Cut) → IsConsistent E d → a.number ≤ d a.proc.no → (q : ℕ) → v2 q ≤ d q
    low d dc h q = elim (raised_cases v e.proc.no e.number q) [
      | inl s ↦ omega (arith, ve q, s, r.low d dc h q)
      | inr s ↦ let k = in_cut d dc h in omega (arith, ve q, s.1, k, ap d s.0)
    ]

    -- nothing behind it came in with it
    was_in : (b : Event) → Contains ys b → Within v2 b → Within v b
    was_in b hb k = elim (raised_cases v e.proc.no e.number b.proc.no) [
      | inl s ↦ omega (arith, k, ve b.proc.no, s)
      | inr s ↦ let n = behind b hb s.0 in absurd (omega (arith, k, ve b.proc.no, s.1, n))
    ]

    no_receive : taken_of e ≡ None → Reaches E a (e ∷ ys) v2 w2
    no_receive t =
        let we : (q : ℕ) → w2 q ≡ w q = λ q. letters q ∙ ap (λ b. letters_with b w (taken_of e) q) is ∙ ap (λ o. letters_with true w o q) t in
        record {
          bound = bound;
          meets = omega (arith, r.meets, grows a.proc.no);
          low = low;
          wanted = λ d dc h s m hs l. r.wanted d dc h s m hs (omega (arith, l, we m.id.sender.no));
          receives = λ b id hb k o. elim (cons_cases e ys b hb) [
            | inl z ↦ absurd (none_some id (sym t ∙ ap taken_of z ∙ o))
            | inr i ↦ let n = r.receives b id i (was_in b i k) o in omega (arith, n, we id.sender.no)
          ];
          sends = λ s m hs o l. elim (cons_cases e ys s hs) [
            | inl z ↦ subst (Within v2) z has_e
            | inr i ↦ let n = r.sends s m i o (omega (arith, l, we m.id.sender.no)) in omega (arith, n, grows s.proc.no)
          ];
        }

    module _ (id : LetterId) (t : taken_of e ≡ Some id) where
      we : (q : ℕ) → w2 q ≡ raised w id.sender.no (id.number + 1) q
      we q = letters q ∙ ap (λ b. letters_with b w (taken_of e) q) is ∙ ap (λ o. letters_with true w o q) t

      more_letters : (q : ℕ) → w q ≤ w2 q
      more_letters q = omega (arith, we q, raised_grows w id.sender.no (id.number + 1) q)

      own_letter : id.number < w2 id.sender.no
      own_letter = omega (arith, we id.sender.no, raised_own w id.sender.no (id.number + 1))

      acc : (set : ℕ) × Accepts E e set id
      acc = accepts_from e id here t

      -- its letter, which was sent before it
      abbrev letter : Message
      letter = (fits.takes acc.0 id acc.1.kind).0

      named : letter.id ≡ id
      named = (fits.takes acc.0 id acc.1.kind).1

      abbrev send : Event
      send = (fits.takes acc.0 id acc.1.kind).2.sent.0

      sent_before : Sends xs send letter
      sent_before = (fits.takes acc.0 id acc.1.kind).2.sent.1

      sent : Sends E send letter
      sent = record { in_list = subst (λ zs. Contains zs send) (sym whole) (Contains-append_left xs (e ∷ ys) send sent_before.in_list); letter = sent_before.letter }

      -- a letter that is among those needed now was so before, or is of its sender and no later
      new_letter : (m : Message) → m.id.number < w2 m.id.sender.no → (m.id.number < w m.id.sender.no) ⊎ ((m.id.sender.no ≡ letter.id.sender.no) × (m.id.number ≤ letter.id.number))
      new_letter m l = elim (raised_cases w id.sender.no (id.number + 1) m.id.sender.no) [
        | inl s ↦ inl (omega (arith, l, we m.id.sender.no, s))
        | inr s ↦ inr (s.0 ∙ ap (λ i. i.sender.no) (sym named), omega (arith, l, we m.id.sender.no, s.1, ap (λ i. i.number) named))
      ]

      receive : Reaches E a (e ∷ ys) v2 w2
      receive = record {
        bound = bound;
        meets = omega (arith, r.meets, grows a.proc.no);
        low = low;
        wanted = λ d dc h s m hs l. elim (new_letter m l) [
          | inl o ↦ r.wanted d dc h s m hs o
          | inr o ↦
              let k : Within d send = dc.closed send e sent.in_list here record { letter = letter; sent = sent.letter; taken = t ∙ ap Some (sym named) } (in_cut d dc h) in
              let n = not_later g s send m letter hs sent o.0 o.1 in
              omega (arith, k, n, ap d (sender_is hs ∙ o.0 ∙ sym (sender_is sent)))
        ];
        receives = λ b i hb k o. elim (cons_cases e ys b hb) [
          | inl z ↦ subst (λ j. j.number < w2 j.sender.no) (some_same id i (sym t ∙ ap taken_of z ∙ o)) own_letter
          | inr c ↦ let n = r.receives b i c (was_in b c k) o in omega (arith, n, more_letters i.sender.no)
        ];
        sends = λ s m hs o l. elim (cons_cases e ys s hs) [
          | inl z ↦ subst (Within v2) z has_e
          | inr c ↦ elim (new_letter m l) [
            | inl n ↦ let k = r.sends s m c o n in omega (arith, k, grows s.proc.no)
            | inr n ↦
                let hs2 : Sends E s m = record { in_list = rw whole (Contains-append_right xs (e ∷ ys) s hs); letter = o } in
                let k = not_later g s send m letter hs2 sent n.0 n.1 in
                let j = rises g xs (e ∷ ys) whole send s sent_before.in_list hs (sender_is sent ∙ sym n.0 ∙ sym (sender_is hs2)) in
                absurd (omega (arith, k, j))
          ]
        ];
      }

    needed : Reaches E a (e ∷ ys) v2 w2
    needed = by (taken_of e) refl
      where
        by : (o : Option LetterId) → taken_of e ≡ o → Reaches E a (e ∷ ys) v2 w2
        by None t = no_receive t
        by (Some id) t = receive id t

  pub reaches_more : Reaches E a (e ∷ ys) v2 w2
  reaches_more = by (is_needed v w e) refl
    where
      by : (b : Bool) → is_needed v w e ≡ b → Reaches E a (e ∷ ys) v2 w2
      by true is = needed is
      by false is = not_needed is

-- at the front it has found the least cut
pub reaches_all : {E : List Event} {a : Event} {v : Cut} {w : Letters} → Reaches E a E v w → IsLeastCut E (Holds a.proc.no a.number) v
reaches_all r = record {
  consistent = record {
    is_cut = r.bound;
    closed = λ x b hx hb d k. r.sends x d.letter hx d.sent (r.receives b d.letter.id hb k d.taken);
  };
  meets = r.meets;
  least = λ d dc h p. r.low d dc h p;
}

-- the least cut with an entry counts its past
pub least_counts : {M : ℕ} {E : List Event} → Sound M E → (a : Event) → Contains E a → (v : Cut) → IsLeastCut E (Holds a.proc.no a.number) v → IsCounts E a v
least_counts g a ha v l =
    let k = past_counts g a ha in
    let u = past_least g a k.0 ha k.1 in
    let same : (q : ℕ) → v q ≡ k.0 q = λ q. omega (arith, l.least k.0 u.consistent u.meets q, u.least v l.consistent l.meets q) in
    record {
      at_most = l.consistent.is_cut;
      tells = λ x hx. (
        (λ n. (k.1.tells x hx).0 (omega (arith, n, same x.proc.no))),
        (λ o. let n = (k.1.tells x hx).1 o in omega (arith, n, same x.proc.no)),
      );
    }

-- the walk in a stored list, from a place and by a place
pub start_at : {M : ℕ} {E : List Event} → Sound M E → (i : ℕ) (a : Event) → slice_get E i ≡ Some a → (v w : ℕ → ℕ) → ((q : ℕ) → v q ≡ cond (q == a.proc.no) a.number 0) → ((q : ℕ) → w q ≡ 0) → Reaches E a (drop (i + 1) E) v w
start_at {E = E} g i a h v w hv hw =
    let e : E ≡ (take i E ++ a ∷ []) ++ drop (i + 1) E = (at_place E i a h).0 ∙ sym (append_assoc (take i E) (a ∷ []) (drop (i + 1) E)) in
    reaches_start g a (take i E ++ a ∷ []) (drop (i + 1) E) e (in_place E i a h) (Contains-append_right (take i E) (a ∷ []) a (cons_here a [])) v w hv hw

pub more_at : {M : ℕ} {E : List Event} → Sound M E → (a : Event) (i k : ℕ) → k ≡ i + 1 → (e : Event) → slice_get E i ≡ Some e → (v w v2 w2 : ℕ → ℕ) → Reaches E a (drop k E) v w → ((q : ℕ) → v2 q ≡ events_with (is_needed v w e) v e q) → ((q : ℕ) → w2 q ≡ letters_with (is_needed v w e) w (taken_of e) q) → Reaches E a (drop i E) v2 w2
more_at {M = M} {E = E} g a i k n e h v w v2 w2 r he hw =
    let p = at_place E i e h in
    subst (λ ys. Reaches E a ys v2 w2) (sym p.1) (reaches_more M E g a (take i E) e (drop (i + 1) E) p.0 v w v2 w2 (subst (λ k. Reaches E a (drop k E) v w) n r) he hw)

pub from_process : {M : ℕ} {E : List Event} → Sound M E → IsBounded E → (e : Event) → Contains E e → IsFromProcess (taken_of e)
from_process {E = E} g b e he = by (taken_of e) refl
  where
    by : (o : Option LetterId) → taken_of e ≡ o → IsFromProcess o
    by None t = tt
    by (Some id) t =
        let acc = accepts_from e id he t in
        let s = accept_sent g e acc.0 id acc.1 in
        omega (arith, b.below s.sent.0 s.sent.1.in_list, sender_is s.sent.1, ap (λ i. i.sender.no) s.named)

pub all_at : {E : List Event} {v w : ℕ → ℕ} → (a : Event) (i : ℕ) → i ≡ 0 → Reaches E a (drop i E) v w → IsLeastCut E (Holds a.proc.no a.number) v
all_at {E = E} {v = v} {w = w} a i z r = reaches_all (subst (λ k. Reaches E a (drop k E) v w) z r)

-- the same of an entry that is named
pub named_least : {E : List Event} {v : Cut} → (a : Event) (p n : ℕ) → a.proc.no ≡ p → a.number ≡ n → IsLeastCut E (Holds a.proc.no a.number) v → IsLeastCut E (Holds p n) v
named_least {E = E} {v = v} a p n e k l = subst (λ q. IsLeastCut E (Holds q n) v) e (subst (λ j. IsLeastCut E (Holds a.proc.no j) v) k l)

pub entry_counts : {M : ℕ} {E : List Event} → Sound M E → (a : Event) (p n : ℕ) → IsEntry E p n a → (v : Cut) → IsLeastCut E (Holds p n) v → IsCounts E a v
entry_counts {E = E} g a p n h v l = least_counts g a h.in_list v (subst (λ q. IsLeastCut E (Holds q a.number) v) (sym h.of_p) (subst (λ j. IsLeastCut E (Holds p j) v) (sym h.numbered) l))

-- how two entries stand, by the numbers of a cut
pub stands_before : {M : ℕ} {E : List Event} → Sound M E → (a b : Event) (p k q j : ℕ) → IsEntry E p k a → IsEntry E q j b → (v : Cut) → IsLeastCut E (Holds q j) v → (p ≡ q → k ≡ j → ⊥) → k ≤ v p → Before E a b
stands_before g a b p k q j ha hb v l other n =
    elim (((entry_counts g b q j hb v l).tells a ha.in_list).0 (omega (arith, n, ha.numbered, ap v ha.of_p))) [
      | inl e ↦ absurd (other (sym ha.of_p ∙ ap (λ x. x.proc.no) e ∙ hb.of_p) (sym ha.numbered ∙ ap (λ x. x.number) e ∙ hb.numbered))
      | inr h ↦ h
    ]

pub not_before : {M : ℕ} {E : List Event} → Sound M E → (a b : Event) (p k q j : ℕ) → IsEntry E p k a → IsEntry E q j b → (v : Cut) → IsLeastCut E (Holds q j) v → v p < k → Before E a b → ⊥
not_before g a b p k q j ha hb v l n h =
    let w = ((entry_counts g b q j hb v l).tells a ha.in_list).1 (inr h) in
    omega (arith, w, n, ha.numbered, ap v ha.of_p)
