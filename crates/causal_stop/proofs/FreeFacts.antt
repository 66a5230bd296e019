-- A walk through a sound list, which leaves out one entry and what is after it.
use Rattle.std.proofs.Common.{◌≡◌, ℕ, ◌+◌, ◌-◌, ◌<◌, ◌≤◌, Bool, true, false, List, [], ◌∷◌, ◌++◌, Option, Some, None, refl, sym, ap, ◌∙◌, subst, inl, inr, arith, append_assoc, take, drop, length}
use Rattle.std.specs.Prelude.{Contains, slice_get, ◌==◌, ◌⊎◌}
use Rattle.std.proofs.lemmas.Bool.{cases_eq, cases_lt, eq-eqb, eqb-true, ltb-true, lt-ltb, and_parts, and_from, false≢true}
use Rattle.std.proofs.lemmas.List.{take-append-drop, take_all}
use Rattle.std.proofs.lemmas.List.Elements.{Contains-append_left, Contains-append_right, Contains-push_cases}
use Rattle.nm_base.specs.declared.letter.LetterId.{LetterId}
use Rattle.nm_base.specs.Message.{Message}
use Rattle.event_list.specs.declared.Event.{Event}
use Rattle.event_list.specs.Events.{count, sends, letter_of, taken_of, Sends}
use Rattle.event_list.specs.Order.{Cut, Within, IsConsistent}
use Rattle.event_list.specs.Runs.{Sound, FitsSoundly}
use Rattle.event_list.specs.Cuts.{IsGreatestCut, raised}
use Rattle.event_list.proofs.Entries.{count_grows, count_here, sends_grow, nothing_in}
use Rattle.event_list.proofs.Members.{cons_here}
use Rattle.event_list.proofs.Splits.{prefix, front, last}
use Rattle.event_list.proofs.Soundness.{numbers, sender_is, entry_at, send_number}
use Rattle.event_list.proofs.Links.{accepts_from}
use Rattle.causal_stop.specs.Stops.{Lacks}
use Rattle.causal_stop.specs.private.Walks.{Letters, is_name_among, is_free, events_with, letters_sent}
use Rattle.causal_stop.proofs.NumberFacts.{raised_cases, raised_grows, raised_own}
use Rattle.causal_stop.proofs.PlaceFacts.{rises, at_place, taken_more, before_place, at_drop}

-- what a walk through the first entries xs has found: a closed cut of them without the entry a, which holds what any
-- consistent cut without a holds of them, and how many letters are sent in it
pub record Frees (E : List Event) (a : Event) (xs : List Event) (v : Cut) (w : Letters) : Type 0 where
  pub bound : (q : ℕ) → v q ≤ count xs q
  pub few : (q : ℕ) → w q ≤ sends xs q
  pub lacks : v a.proc.no < a.number
  pub receives : (b : Event) (id : LetterId) → Contains xs b → Within v b → taken_of b ≡ Some id → id.number < w id.sender.no
  pub sends_in : (s : Event) (m : Message) → Contains xs s → letter_of s ≡ Some m → m.id.number < w m.id.sender.no → Within v s
  pub sent : (s : Event) (m : Message) → Contains xs s → letter_of s ≡ Some m → Within v s → m.id.number < w m.id.sender.no
  pub high : (d : Cut) → IsConsistent E d → d a.proc.no < a.number → (x : Event) → Contains xs x → Within d x → Within v x

pub frees_start : {M : ℕ} {E : List Event} → Sound M E → (a : Event) → Contains E a → (v w : ℕ → ℕ) → ((q : ℕ) → v q ≡ 0) → ((q : ℕ) → w q ≡ 0) → Frees E a [] v w
frees_start g a ha v w hv hw = record {
  bound = λ q. omega (arith, hv q);
  few = λ q. omega (arith, hw q);
  lacks = omega (arith, hv a.proc.no, (numbers g a ha).0);
  receives = λ b id h. absurd (nothing_in b h);
  sends_in = λ s m h. absurd (nothing_in s h);
  sent = λ s m h. absurd (nothing_in s h);
  high = λ d dc l x h. absurd (nothing_in x h);
}

module _ (M : ℕ) (E : List Event) (g : Sound M E) (a : Event) (xs : List Event) (e : Event) (ys : List Event) (whole : E ≡ xs ++ (e ∷ ys)) (v w : ℕ → ℕ) (r : Frees E a xs v w) where
  abbrev grown : List Event
  grown = xs ++ e ∷ []

  here : Contains E e
  here = subst (λ zs. Contains zs e) (sym whole) (Contains-append_right xs (e ∷ ys) e (cons_here e ys))

  old : (x : Event) → Contains xs x → Contains E x
  old x h = subst (λ zs. Contains zs x) (sym whole) (Contains-append_left xs (e ∷ ys) x h)

  sound : Sound M grown
  sound = prefix (xs ++ e ∷ []) ys (subst (Sound M) (whole ∙ sym (append_assoc xs (e ∷ []) ys)) g)

  first : Sound M xs
  first = front xs e sound

  fits : FitsSoundly M xs e
  fits = last xs e sound

  above : (x : Event) → Contains xs x → x.proc.no ≡ e.proc.no → x.number < e.number
  above x h p = omega (arith, (numbers first x h).1, fits.next_number, ap (count xs) p)

  -- the entry is beyond what was found
  beyond : Within v e → ⊥
  beyond k = omega (arith, k, r.bound e.proc.no, fits.next_number)

  new_send : (m : Message) → letter_of e ≡ Some m → m.id.number < w m.id.sender.no → ⊥
  new_send m h l =
      let p : e.proc.no ≡ m.id.sender.no = sender_is {E = E} {a = e} {m = m} record { in_list = here; letter = h } in
      omega (arith, l, r.few m.id.sender.no, fits.sends_next m h, ap (sends xs) p)

  -- an entry that is left out
  left : ((d : Cut) → IsConsistent E d → d a.proc.no < a.number → Within d e → ⊥) → Frees E a grown v w
  left out = record {
    bound = λ q. omega (arith, r.bound q, count_grows xs e q);
    few = λ q. omega (arith, r.few q, sends_grow xs e q);
    lacks = r.lacks;
    receives = λ b id h k t. elim (Contains-push_cases xs e b h) [
      | inl o ↦ r.receives b id o k t
      | inr n ↦ absurd (beyond (subst (Within v) (sym n) k))
    ];
    sends_in = λ s m h t l. elim (Contains-push_cases xs e s h) [
      | inl o ↦ r.sends_in s m o t l
      | inr n ↦ absurd (new_send m (ap letter_of n ∙ t) l)
    ];
    sent = λ s m h t k. elim (Contains-push_cases xs e s h) [
      | inl o ↦ r.sent s m o t k
      | inr n ↦ absurd (beyond (subst (Within v) (sym n) k))
    ];
    high = λ d dc l x h k. elim (Contains-push_cases xs e x h) [
      | inl o ↦ r.high d dc l x o k
      | inr n ↦ absurd (out d dc l (subst (Within d) (sym n) k))
    ];
  }

  -- the entry a itself is
  pub frees_without : e ≡ a → Frees E a grown v w
  frees_without same = left (λ d dc l k. omega (arith, k, l, ap (λ x. x.number) same, ap (λ x. d x.proc.no) same))

  -- what a cut without a holds is free
  is_free_in : (d : Cut) → IsConsistent E d → d a.proc.no < a.number → Within d e → is_free v w e ≡ true
  is_free_in d dc l k = and_from (v e.proc.no + 1 == e.number) (is_name_among w (taken_of e)) (eq-eqb (v e.proc.no + 1) e.number next) (by (taken_of e) refl)
    where
      next : v e.proc.no + 1 ≡ e.number
      next = elim (cases_eq e.number 1) [
        | inl one ↦ omega (arith, one, r.bound e.proc.no, fits.next_number)
        | inr other ↦
            let x = entry_at first e.proc.no (e.number - 1) (omega (arith, other, fits.next_number)) (omega (arith, fits.next_number)) in
            let h = r.high d dc l x.0 x.1 (omega (arith, x.3, k, ap d x.2)) in
            omega (arith, h, x.3, ap v x.2, r.bound e.proc.no, fits.next_number, other)
      ]

      by : (o : Option LetterId) → taken_of e ≡ o → is_name_among w o ≡ true
      by None t = refl
      by (Some id) t =
          let acc = accepts_from e id here t in
          let take = fits.takes acc.0 id acc.1.kind in
          let s = take.2.sent in
          let h = dc.closed s.0 e (old s.0 s.1.in_list) here record { letter = take.0; sent = s.1.letter; taken = t ∙ ap Some (sym take.1) } k in
          let n = r.sent s.0 take.0 s.1.in_list s.1.letter (r.high d dc l s.0 s.1.in_list h) in
          lt-ltb id.number (w id.sender.no) (subst (λ i. i.number < w i.sender.no) take.1 n)

  module _ (v2 w2 : ℕ → ℕ) (events : (q : ℕ) → v2 q ≡ events_with (is_free v w e) v e q) (letters : (q : ℕ) → w2 q ≡ letters_sent (is_free v w e) w (letter_of e) q) (apart : e.proc.no ≡ a.proc.no → e.number ≡ a.number → ⊥) where
    not_free : is_free v w e ≡ false → Frees E a grown v2 w2
    not_free is =
        let f = left (λ d dc l k. false≢true (sym is ∙ is_free_in d dc l k)) in
        let ve : (q : ℕ) → v2 q ≡ v q = λ q. events q ∙ ap (λ b. events_with b v e q) is in
        let we : (q : ℕ) → w2 q ≡ w q = λ q. letters q ∙ ap (λ b. letters_sent b w (letter_of e) q) is in
        record {
          bound = λ q. omega (arith, ve q, f.bound q);
          few = λ q. omega (arith, we q, f.few q);
          lacks = omega (arith, ve a.proc.no, f.lacks);
          receives = λ b id h k t. let n = f.receives b id h (omega (arith, k, ve b.proc.no)) t in omega (arith, n, we id.sender.no);
          sends_in = λ s m h t l. let n = f.sends_in s m h t (omega (arith, l, we m.id.sender.no)) in omega (arith, n, ve s.proc.no);
          sent = λ s m h t k. let n = f.sent s m h t (omega (arith, k, ve s.proc.no)) in omega (arith, n, we m.id.sender.no);
          high = λ d dc l x h k. let n = f.high d dc l x h k in omega (arith, n, ve x.proc.no);
        }

    module _ (is : is_free v w e ≡ true) where
      ve : (q : ℕ) → v2 q ≡ raised v e.proc.no e.number q
      ve q = events q ∙ ap (λ b. events_with b v e q) is

      grows : (q : ℕ) → v q ≤ v2 q
      grows q = omega (arith, ve q, raised_grows v e.proc.no e.number q)

      has_e : Within v2 e
      has_e = omega (arith, ve e.proc.no, raised_own v e.proc.no e.number)

      next : v e.proc.no + 1 ≡ e.number
      next = eqb-true (v e.proc.no + 1) e.number (and_parts (v e.proc.no + 1 == e.number) (is_name_among w (taken_of e)) is).0

      was_in : (b : Event) → Contains xs b → Within v2 b → Within v b
      was_in b hb k = elim (raised_cases v e.proc.no e.number b.proc.no) [
        | inl s ↦ omega (arith, k, ve b.proc.no, s)
        | inr s ↦ let n = above b hb s.0 in omega (arith, n, next, ap v s.0)
      ]

      module _ (more_letters : (q : ℕ) → w q ≤ w2 q) (few : (q : ℕ) → w2 q ≤ sends grown q) (own : (m : Message) → letter_of e ≡ Some m → m.id.number < w2 m.id.sender.no) (only : (m : Message) → m.id.number < w2 m.id.sender.no → (m.id.number < w m.id.sender.no) ⊎ (m.id.sender.no ≡ e.proc.no)) where
        taken_in : Frees E a grown v2 w2
        taken_in = record {
          bound = λ q. elim (raised_cases v e.proc.no e.number q) [
            | inl s ↦ omega (arith, ve q, s, r.bound q, count_grows xs e q)
            | inr s ↦ omega (arith, ve q, s.1, fits.next_number, ap (count xs) s.0, count_here xs e q (sym s.0))
          ];
          few = few;
          lacks = elim (raised_cases v e.proc.no e.number a.proc.no) [
            | inl s ↦ omega (arith, ve a.proc.no, s, r.lacks)
            | inr s ↦ elim (cases_eq e.number a.number) [
              | inl n ↦ absurd (apart (sym s.0) n)
              | inr n ↦ omega (arith, ve a.proc.no, s.1, r.lacks, next, ap v s.0, n)
            ]
          ];
          receives = λ b id h k t. elim (Contains-push_cases xs e b h) [
            | inl o ↦ let n = r.receives b id o (was_in b o k) t in omega (arith, n, more_letters id.sender.no)
            | inr n ↦
                let i : is_name_among w (Some id) ≡ true = ap (is_name_among w) (sym (ap taken_of n ∙ t)) ∙ (and_parts (v e.proc.no + 1 == e.number) (is_name_among w (taken_of e)) is).1 in
                omega (arith, ltb-true id.number (w id.sender.no) i, more_letters id.sender.no)
          ];
          sends_in = λ s m h t l. elim (Contains-push_cases xs e s h) [
            | inl o ↦ elim (only m l) [
              | inl j ↦ let n = r.sends_in s m o t j in omega (arith, n, grows s.proc.no)
              | inr j ↦
                  let p : s.proc.no ≡ e.proc.no = sender_is {E = xs} {a = s} {m = m} record { in_list = o; letter = t } ∙ j in
                  omega (arith, above s o p, has_e, ap v2 p)
            ]
            | inr n ↦ subst (Within v2) n has_e
          ];
          sent = λ s m h t k. elim (Contains-push_cases xs e s h) [
            | inl o ↦ let n = r.sent s m o t (was_in s o k) in omega (arith, n, more_letters m.id.sender.no)
            | inr n ↦ own m (ap letter_of n ∙ t)
          ];
          high = λ d dc l x h k. elim (Contains-push_cases xs e x h) [
            | inl o ↦ let n = r.high d dc l x o k in omega (arith, n, grows x.proc.no)
            | inr n ↦ subst (Within v2) n has_e
          ];
        }

      none_some : (m : Message) → None ≡ Some m → ⊥
      none_some m h = cc

      some_same : (m l : Message) → Some m ≡ Some l → m ≡ l
      some_same m l h = cc

      free : (o : Option Message) → letter_of e ≡ o → Frees E a grown v2 w2
      free None t =
          let we : (q : ℕ) → w2 q ≡ w q = λ q. letters q ∙ ap (λ b. letters_sent b w (letter_of e) q) is ∙ ap (λ o. letters_sent true w o q) t in
          taken_in (λ q. omega (arith, we q)) (λ q. omega (arith, we q, r.few q, sends_grow xs e q)) (λ m h. absurd (none_some m (sym t ∙ h))) (λ m l. inl (omega (arith, l, we m.id.sender.no)))
      free (Some m) t =
          let we : (q : ℕ) → w2 q ≡ raised w m.id.sender.no (m.id.number + 1) q = λ q. letters q ∙ ap (λ b. letters_sent b w (letter_of e) q) is ∙ ap (λ o. letters_sent true w o q) t in
          let hs : Sends grown e m = record { in_list = Contains-append_right xs (e ∷ []) e (cons_here e []); letter = t } in
          let p : e.proc.no ≡ m.id.sender.no = sender_is hs in
          taken_in
          (λ q. omega (arith, we q, raised_grows w m.id.sender.no (m.id.number + 1) q))
          (λ q. elim (raised_cases w m.id.sender.no (m.id.number + 1) q) [
            | inl s ↦ omega (arith, we q, s, r.few q, sends_grow xs e q)
            | inr s ↦ let n = send_number sound e m hs in omega (arith, we q, s.1, n, ap (sends grown) (p ∙ sym s.0))
          ])
          (λ l h. subst (λ z. z.id.number < w2 z.id.sender.no) (some_same m l (sym t ∙ h)) (omega (arith, we m.id.sender.no, raised_own w m.id.sender.no (m.id.number + 1))))
          (λ l h. elim (raised_cases w m.id.sender.no (m.id.number + 1) l.id.sender.no) [
            | inl s ↦ inl (omega (arith, h, we l.id.sender.no, s))
            | inr s ↦ inr (s.0 ∙ sym p)
          ])

    pub frees_more : Frees E a grown v2 w2
    frees_more = by (is_free v w e) refl
      where
        by : (b : Bool) → is_free v w e ≡ b → Frees E a grown v2 w2
        by true is = free is (letter_of e) refl
        by false is = not_free is

pub frees_all : {M : ℕ} {E : List Event} {a : Event} {v : Cut} {w : Letters} → Sound M E → Frees E a E v w → IsGreatestCut E (Lacks a.proc.no a.number) v
frees_all {v = v} g r = record {
  consistent = record {
    is_cut = r.bound;
    closed = λ x b hx hb d k. r.sends_in x d.letter hx d.sent (r.receives b d.letter.id hb k d.taken);
  };
  meets = r.lacks;
  greatest = λ d dc l q. elim (cases_eq (d q) 0) [
    | inl z ↦ omega (arith, z)
    | inr n ↦
        let x = entry_at g q (d q) (omega (arith, n)) (dc.is_cut q) in
        let k = r.high d dc l x.0 x.1 (omega (arith, x.3, ap d x.2)) in
        omega (arith, k, x.3, ap v x.2)
  ];
}

-- the walk in a stored list, from place to place
pub free_at : {M : ℕ} {E : List Event} → Sound M E → (a : Event) (i : ℕ) (e : Event) → slice_get E i ≡ Some e → (v w v2 w2 : ℕ → ℕ) → Frees E a (take i E) v w → ((q : ℕ) → v2 q ≡ events_with (is_free v w e) v e q) → ((q : ℕ) → w2 q ≡ letters_sent (is_free v w e) w (letter_of e) q) → (e.proc.no ≡ a.proc.no → e.number ≡ a.number → ⊥) → Frees E a (take (i + 1) E) v2 w2
free_at {M = M} {E = E} g a i e h v w v2 w2 r he hw apart =
    subst (λ xs. Frees E a xs v2 w2) (sym (taken_more E i e h)) (frees_more M E g a (take i E) e (drop (i + 1) E) (at_place E i e h).0 v w r v2 w2 he hw apart)

pub left_at : {M : ℕ} {E : List Event} → Sound M E → (a : Event) (i : ℕ) → slice_get E i ≡ Some a → (v w : ℕ → ℕ) → Frees E a (take i E) v w → Frees E a (take (i + 1) E) v w
left_at {M = M} {E = E} g a i h v w r =
    subst (λ xs. Frees E a xs v w) (sym (taken_more E i a h)) (frees_without M E g a (take i E) a (drop (i + 1) E) (at_place E i a h).0 v w r refl)

pub frees_at : {M : ℕ} {E : List Event} {v w : ℕ → ℕ} → Sound M E → (a : Event) (i : ℕ) → length E ≤ i → Frees E a (take i E) v w → IsGreatestCut E (Lacks a.proc.no a.number) v
frees_at {E = E} {v = v} {w = w} g a i n r = frees_all g (subst (λ xs. Frees E a xs v w) (take_all i E n) r)

-- entries at two places are two
pub apart_at : {M : ℕ} {E : List Event} → Sound M E → (a e : Event) (i j : ℕ) → slice_get E j ≡ Some a → slice_get E i ≡ Some e → (i ≡ j → ⊥) → e.proc.no ≡ a.proc.no → e.number ≡ a.number → ⊥
apart_at {E = E} g a e i j ha he other p n = elim (cases_lt i j) [
  | inl l ↦ let r = rises g (take j E) (drop j E) (sym (take-append-drop j E)) e a (before_place E i j e l he) (at_drop E j a ha) p in omega (arith, r, n)
  | inr l ↦ let r = rises g (take i E) (drop i E) (sym (take-append-drop i E)) a e (before_place E j i a (strict l) ha) (at_drop E i e he) (sym p) in omega (arith, r, n)
]
  where
    strict : j ≤ i → j < i
    strict l = elim (cases_eq i j) [ inl e ↦ absurd (other e) | inr d ↦ omega (arith, l, d) ]

-- the same of an entry that is named
pub named_greatest : {E : List Event} {v : Cut} → (a : Event) (p n : ℕ) → a.proc.no ≡ p → a.number ≡ n → IsGreatestCut E (Lacks a.proc.no a.number) v → IsGreatestCut E (Lacks p n) v
named_greatest {E = E} {v = v} a p n e k l = subst (λ q. IsGreatestCut E (Lacks q n) v) e (subst (λ j. IsGreatestCut E (Lacks a.proc.no j) v) k l)
