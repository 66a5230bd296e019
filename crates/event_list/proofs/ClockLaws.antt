-- The vector clock rule counts the past.
use Rattle.std.proofs.Common.{◌≡◌, ℕ, ◌+◌, ◌<◌, ◌≤◌, max, true, cond, eqb, List, [], ◌∷◌, ◌++◌, Option, Some, None, refl, sym, ap, ◌∙◌, subst, inl, inr, arith}
use Rattle.std.specs.Prelude.{Contains, ◌⊎◌}
use Rattle.std.proofs.lemmas.Bool.{eq-eqb, ne_eqb, cases_eq, cases_lt, cond-true, cond-false, and_from, and_parts, eqb-true, false_from_ne_true}
use Rattle.std.proofs.lemmas.Grind.{fold-append}
use Rattle.std.proofs.lemmas.List.Elements.{Contains-push_cases}
use Rattle.nm_base.specs.declared.letter.LetterId.{LetterId}
use Rattle.nm_base.specs.declared.kind.Kind.{Kind}
use Rattle.nm_base.specs.declared.kind.Kind.TheVariants.{Line, Sent, Accepted, Printed, Ended, Faulted}
use Rattle.nm_base.specs.Fitting.{none, more}
use Rattle.nm_base.specs.Message.{Message, same_name}
use Rattle.event_list.specs.declared.Event.{Event}
use Rattle.event_list.specs.Events.{count, letter_of, taken_in, Sends}
use Rattle.event_list.specs.Order.{Follows, Delivers, Link, Before, one, further}
use Rattle.event_list.specs.Runs.{FitsSoundly, Sound}
use Rattle.event_list.specs.Clocks.{IsCounts, Clocks, no_clocks, brought, ticked, is_named, clocks_after, clocks}
use Rattle.event_list.proofs.Entries.{nothing_in, count_grows, count_here, count_there}
use Rattle.event_list.proofs.Soundness.{old, new, numbers, same_place, entry_at, send_same}
use Rattle.event_list.proofs.Links.{accepts_from, before_stays, before_grows, first_in}

-- the past of an old entry stays as it was
pub grow_counts : {M : ℕ} {E : List Event} (e : Event) → Sound M E → FitsSoundly M E e → (a : Event) (v : ℕ → ℕ) → Contains E a → IsCounts E a v → IsCounts (E ++ e ∷ []) a v
grow_counts {E = E} e g f a v ha h =
    record {
      at_most = λ q. omega (arith, h.at_most q, count_grows E e q);
      tells = λ x hx. elim (Contains-push_cases E e x hx) [
        | inl o ↦ (
          (λ l. elim ((h.tells x o).0 l) [ inl s ↦ inl s | inr b ↦ inr (before_grows e x a b) ]),
          (λ w. (h.tells x o).1 (elim w [ inl s ↦ inl s | inr b ↦ inr (before_stays g f x a ha b) ])),
        )
        | inr n ↦ (
          (λ l. absurd (omega (arith, l, h.at_most x.proc.no, f.next_number, ap (λ y. y.number) n, ap (λ y. count E y.proc.no) n))),
          (λ w. absurd (past_old x n w)),
        )
      ];
    }
  where
    past_old : (x : Event) → e ≡ x → (x ≡ a) ⊎ Before (E ++ e ∷ []) x a → ⊥
    past_old x n w =
        let o : Contains E x = elim w [ inl s ↦ subst (Contains E) (sym s) ha | inr b ↦ first_in (before_stays g f x a ha b) ] in
        omega (arith, (numbers g x o).1, f.next_number, ap (λ y. y.number) n, ap (λ y. count E y.proc.no) n)

-- the clocks are right: a process's clock counts the past of its last entry, and a letter's timestamp that of its send
pub record AreRight (E : List Event) (c : Clocks) : Type 0 where
  pub at_most : (p q : ℕ) → c.clock p q ≤ count E q
  pub at_rest : (p q : ℕ) → count E p ≡ 0 → c.clock p q ≡ 0
  pub clock_is : (a : Event) → Contains E a → a.number ≡ count E a.proc.no → IsCounts E a (c.clock a.proc.no)
  pub stamp_is : (a : Event) (m : Message) → Sends E a m → IsCounts E a (c.stamp m.id)

-- the parts of a ticked clock
own_part : (c : Clocks) (e : Event) (q : ℕ) → q ≡ e.proc.no → ticked c e q ≡ max (c.clock e.proc.no q + 1) (brought c e.kind q)
own_part c e q h = ap (λ b. max (cond b (c.clock e.proc.no q + 1) (c.clock e.proc.no q)) (brought c e.kind q)) (eq-eqb q e.proc.no h)

other_part : (c : Clocks) (e : Event) (q : ℕ) → (q ≡ e.proc.no → ⊥) → ticked c e q ≡ max (c.clock e.proc.no q) (brought c e.kind q)
other_part c e q h = ap (λ b. max (cond b (c.clock e.proc.no q + 1) (c.clock e.proc.no q)) (brought c e.kind q)) (ne_eqb q e.proc.no h)

-- what an event brings is a letter's timestamp, or nothing
record Brings (c : Clocks) (k : Kind) (q : ℕ) : Type 0 where
  how : ((set : ℕ) × (id : LetterId) × (k ≡ Accepted set id) × (brought c k q ≡ c.stamp id q)) ⊎ (brought c k q ≡ 0)

brings : (c : Clocks) (k : Kind) (q : ℕ) → Brings c k q
brings c (Line x) q = record { how = inr refl }
brings c (Sent number dest chan len words) q = record { how = inr refl }
brings c (Accepted set id) q = record { how = inl (set, id, refl, refl) }
brings c (Printed x) q = record { how = inr refl }
brings c (Ended x) q = record { how = inr refl }
brings c (Faulted x) q = record { how = inr refl }

module _ (M : ℕ) (E : List Event) (e : Event) (g : Sound M E) (f : FitsSoundly M E e) (c : Clocks) (right : AreRight E c) where
  abbrev p : ℕ
  p = e.proc.no

  abbrev F : List Event
  F = E ++ e ∷ []

  -- an old entry's number is below the new one's, in its process
  follows_new : (x : Event) → Contains E x → x.proc.no ≡ p → Follows x e
  follows_new x o h = record { same = h; later = omega (arith, (numbers g x o).1, f.next_number, ap (count E) h) }

  link_old : (x : Event) → Contains E x → Follows x e ⊎ Delivers x e → Link F x e
  link_old x o h = record { first = old E e x o; second = new E e; how = h }

  -- what the letter brings is in the past
  brought_past : (x : Event) → Contains E x → 0 < x.number → x.number ≤ brought c e.kind x.proc.no → Before F x e
  brought_past x o pos h =
      elim (brings c e.kind x.proc.no).how [
        | inl b ↦
            let t = f.takes b.0 b.1 b.2 in
            let s = t.2.sent in
            let k = right.stamp_is s.0 t.0 s.1 in
            let d : Delivers s.0 e = record { letter = t.0; sent = s.1.letter; taken = ap (taken_in) b.2 ∙ ap Some (sym t.1) } in
            let l = link_old s.0 s.1.in_list (inr d) in
            let w = (k.tells x o).0 (omega (arith, h, b.3, ap (λ id. c.stamp id x.proc.no) t.1)) in
            elim w [ inl q ↦ subst (λ y. Before F y e) (sym q) (one l) | inr q ↦ further (before_grows e x s.0 q) l ]
        | inr z ↦ absurd (omega (arith, pos, h, z))
      ]

  -- what the clock of the process counts is in the past
  clock_past : (x : Event) → Contains E x → 0 < x.number → x.number ≤ c.clock p x.proc.no → Before F x e
  clock_past x o pos h =
      elim (cases_eq (count E p) 0) [
        | inl z ↦ absurd (omega (arith, pos, h, right.at_rest p x.proc.no z))
        | inr nz ↦
            let a = entry_at g p (count E p) (omega arith) (omega arith) in
            let k = right.clock_is a.0 a.1 (a.3 ∙ ap (count E) (sym a.2)) in
            let l = link_old a.0 a.1 (inl (follows_new a.0 a.1 a.2)) in
            let w = (k.tells x o).0 (omega (arith, h, ap (λ r. c.clock r x.proc.no) a.2)) in
            elim w [ inl q ↦ subst (λ y. Before F y e) (sym q) (one l) | inr q ↦ further (before_grows e x a.0 q) l ]
      ]

  counted_past : (x : Event) → Contains E x → x.number ≤ ticked c e x.proc.no → Before F x e
  counted_past x o h =
      let pos = (numbers g x o).0 in
      elim (cases_eq x.proc.no p) [
        | inl same ↦ one (link_old x o (inl (follows_new x o same)))
        | inr other ↦ elim (cases_lt (c.clock p x.proc.no) x.number) [
          | inl above ↦ brought_past x o pos (omega (arith, h, other_part c e x.proc.no other, above))
          | inr below ↦ clock_past x o pos below
        ]
      ]

  -- the clock of the process counts each of its entries and their pasts
  past_clock : (y : Event) → Contains E y → y.proc.no ≡ p → (x : Event) → Contains E x → (x ≡ y) ⊎ Before E x y → x.number ≤ c.clock p x.proc.no
  past_clock y oy h x ox w =
      let ny = numbers g y oy in
      let cp = ap (count E) h in
      let a = entry_at g p (count E p) (omega (arith, ny.0, ny.1, cp)) (omega arith) in
      let k = right.clock_is a.0 a.1 (a.3 ∙ ap (count E) (sym a.2)) in
      let back = λ (z : (x ≡ a.0) ⊎ Before E x a.0). let r = (k.tells x ox).1 z in let s : x.number ≤ c.clock p x.proc.no = omega (arith, r, ap (λ r. c.clock r x.proc.no) a.2) in s in
      elim (cases_eq y.number (count E p)) [
        | inl at ↦ let q = same_place g y a.0 oy a.1 (h ∙ sym a.2) (at ∙ sym a.3) in back (subst (λ z. (x ≡ z) ⊎ Before E x z) q w)
        | inr ne ↦
            let l : Link E y a.0 = record { first = oy; second = a.1; how = inl record { same = h ∙ sym a.2; later = omega (arith, ny.1, cp, ne, a.3) } } in
            back (inr (elim w [ inl q ↦ subst (λ z. Before E z a.0) (sym q) (one l) | inr b ↦ further b l ]))
      ]

  -- the last link to the new entry comes from an old one, whose past is counted
  record Counted (y : Event) : Type 0 where
    is_old : Contains E y
    counts : (x : Event) → Contains E x → (x ≡ y) ⊎ Before E x y → x.number ≤ ticked c e x.proc.no

  at_least_clock : (q : ℕ) → c.clock p q ≤ ticked c e q
  at_least_clock q = elim (cases_eq q p) [ inl h ↦ omega (arith, own_part c e q h) | inr h ↦ omega (arith, other_part c e q h) ]

  at_least_brought : (q : ℕ) → brought c e.kind q ≤ ticked c e q
  at_least_brought q = elim (cases_eq q p) [ inl h ↦ omega (arith, own_part c e q h) | inr h ↦ omega (arith, other_part c e q h) ]

  last_link : (y : Event) → Link F y e → Counted y
  last_link y l =
      elim l.how [
        | inl h ↦
            let o : Contains E y = elim (Contains-push_cases E e y l.first) [ inl o ↦ o | inr n ↦ absurd (omega (arith, h.later, ap (λ z. z.number) n)) ] in
            record { is_old = o; counts = λ x ox w. omega (arith, past_clock y o h.same x ox w, at_least_clock x.proc.no) }
        | inr d ↦
            let t = accepts_from e d.letter.id (new E e) d.taken in
            let k = f.takes t.0 d.letter.id t.1.kind in
            let s = k.2.sent in
            let so : Sends F s.0 k.0 = record { in_list = old E e s.0 s.1.in_list; letter = s.1.letter } in
            let q = send_same (more g f) s.0 y k.0 d.letter so record { in_list = l.first; letter = d.sent } (ap (λ z. z.sender.no) k.1) (ap (λ z. z.number) k.1) in
            let o = subst (Contains E) q s.1.in_list in
            let r = right.stamp_is s.0 k.0 s.1 in
            record {
              is_old = o;
              counts = λ x ox w.
                  let u = (r.tells x ox).1 (subst (λ z. (x ≡ z) ⊎ Before E x z) (sym q) w) in
                  omega (arith, u, ap (λ id. c.stamp id x.proc.no) k.1, ap (λ z. brought c z x.proc.no) t.1.kind, at_least_brought x.proc.no);
            }
      ]

  past_counted : (x : Event) → Contains E x → Before F x e → x.number ≤ ticked c e x.proc.no
  past_counted x o (one l) = (last_link x l).counts x o (inl refl)
  past_counted x o (further {b = y} h l) = let k = last_link y l in k.counts x o (inr (before_stays g f x y k.is_old h))

  ticked_at_most : (q : ℕ) → ticked c e q ≤ count F q
  ticked_at_most q =
      elim (cases_eq q p) [
        | inl h ↦ omega (arith, own_part c e q h, right.at_most p q, brought_at_most q, count_here E e q (sym h))
        | inr h ↦ omega (arith, other_part c e q h, right.at_most p q, brought_at_most q, count_grows E e q)
      ]
    where
      brought_at_most : (q : ℕ) → brought c e.kind q ≤ count E q
      brought_at_most q = elim (brings c e.kind q).how [
        | inl b ↦ let t = f.takes b.0 b.1 b.2 in omega (arith, (right.stamp_is t.2.sent.0 t.0 t.2.sent.1).at_most q, b.3, ap (λ id. c.stamp id q) t.1)
        | inr z ↦ omega (arith, z)
      ]

  own_counted : e.number ≤ ticked c e p
  own_counted =
      elim (cases_eq (count E p) 0) [
        | inl z ↦ omega (arith, f.next_number, own_part c e p refl)
        | inr nz ↦
            let a = entry_at g p (count E p) (omega arith) (omega arith) in
            omega (arith, f.next_number, own_part c e p refl, past_clock a.0 a.1 a.2 a.0 a.1 (inl refl), a.3, ap (c.clock p) a.2)
      ]

  new_counts : IsCounts F e (ticked c e)
  new_counts =
      record {
        at_most = ticked_at_most;
        tells = λ x hx. elim (Contains-push_cases E e x hx) [
          | inl o ↦ (
            (λ l. inr (counted_past x o l)),
            (λ w. elim w [
              | inl s ↦ absurd (omega (arith, (numbers g x o).1, f.next_number, ap (λ z. z.number) s, ap (λ z. count E z.proc.no) s))
              | inr b ↦ past_counted x o b
            ]),
          )
          | inr n ↦ ((λ l. inl (sym n)), (λ w. subst (λ z. z.number ≤ ticked c e z.proc.no) n own_counted))
        ];
      }

-- a test of names
pub same_name_parts : (a b : LetterId) → same_name a b ≡ true → (a.sender.no ≡ b.sender.no) × (a.number ≡ b.number)
same_name_parts a b h = let k = and_parts _ _ h in (eqb-true a.sender.no b.sender.no k.0, eqb-true a.number b.number k.1)

pub same_name_from : (a b : LetterId) → a.sender.no ≡ b.sender.no → a.number ≡ b.number → same_name a b ≡ true
same_name_from a b p n = and_from _ _ (eq-eqb a.sender.no b.sender.no p) (eq-eqb a.number b.number n)

named_some : (o : Option Message) (id : LetterId) → is_named o id ≡ true → (m : Message) × (o ≡ Some m) × (m.id.sender.no ≡ id.sender.no) × (m.id.number ≡ id.number)
named_some None id h = cc
named_some (Some m) id h = let k = same_name_parts m.id id h in (m, refl, k.0, k.1)

right_after : {M : ℕ} {E : List Event} (e : Event) → Sound M E → FitsSoundly M E e → (c : Clocks) → AreRight E c → AreRight (E ++ e ∷ []) (clocks_after c e)
right_after {M = M} {E = E} e g f c right =
    record {
      at_most = λ p q. elim (cases_eq p e.proc.no) [
        | inl h ↦ rw (cond-true _ (ticked c e q) (c.clock p q) (eq-eqb p e.proc.no h)) ((new_counts M E e g f c right).at_most q)
        | inr h ↦ rw (cond-false _ (ticked c e q) (c.clock p q) (ne_eqb p e.proc.no h)) (omega (arith, right.at_most p q, count_grows E e q))
      ];
      at_rest = λ p q z. elim (cases_eq p e.proc.no) [
        | inl h ↦ absurd (omega (arith, z, count_here E e p (sym h)))
        | inr h ↦ rw (cond-false _ (ticked c e q) (c.clock p q) (ne_eqb p e.proc.no h)) (right.at_rest p q (sym (count_there E e p (λ k. h (sym k))) ∙ z))
      ];
      clock_is = clock_is;
      stamp_is = stamp_is;
    }
  where
    clock_is : (a : Event) → Contains (E ++ e ∷ []) a → a.number ≡ count (E ++ e ∷ []) a.proc.no → IsCounts (E ++ e ∷ []) a (λ q. cond (eqb a.proc.no e.proc.no) (ticked c e q) (c.clock a.proc.no q))
    clock_is a ha n = elim (Contains-push_cases E e a ha) [
      | inl o ↦ elim (cases_eq a.proc.no e.proc.no) [
        | inl h ↦ absurd (omega (arith, (numbers g a o).1, n, count_here E e a.proc.no (sym h)))
        | inr h ↦ subst (λ b. IsCounts (E ++ e ∷ []) a (λ q. cond b (ticked c e q) (c.clock a.proc.no q))) (sym (ne_eqb a.proc.no e.proc.no h))
            (grow_counts e g f a _ o (right.clock_is a o (n ∙ count_there E e a.proc.no (λ k. h (sym k)))))
      ]
      | inr w ↦ subst (λ b. IsCounts (E ++ e ∷ []) a (λ q. cond b (ticked c e q) (c.clock a.proc.no q))) (sym (eq-eqb a.proc.no e.proc.no (ap (λ x. x.proc.no) (sym w))))
          (subst (λ x. IsCounts (E ++ e ∷ []) x (ticked c e)) w (new_counts M E e g f c right))
    ]

    stamp_is : (a : Event) (m : Message) → Sends (E ++ e ∷ []) a m → IsCounts (E ++ e ∷ []) a (λ q. cond (is_named (letter_of e) m.id) (ticked c e q) (c.stamp m.id q))
    stamp_is a m h = elim (Contains-push_cases E e a h.in_list) [
      | inl o ↦ subst (λ b. IsCounts (E ++ e ∷ []) a (λ q. cond b (ticked c e q) (c.stamp m.id q)))
          (sym (false_from_ne_true _ (λ t.
          let k = named_some (letter_of e) m.id t in
          let s : Sends (E ++ e ∷ []) e k.0 = record { in_list = new E e; letter = k.1 } in
          let q = send_same (more g f) a e m k.0 h s (sym k.2) (sym k.3) in
          omega (arith, (numbers g a o).1, f.next_number, ap (λ z. z.number) q, ap (λ z. count E z.proc.no) q))))
          (grow_counts e g f a _ o (right.stamp_is a m record { in_list = o; letter = h.letter }))
      | inr w ↦ subst (λ b. IsCounts (E ++ e ∷ []) a (λ q. cond b (ticked c e q) (c.stamp m.id q)))
          (sym (ap (λ x. is_named x m.id) (ap letter_of w ∙ h.letter) ∙ same_name_from m.id m.id refl refl))
          (subst (λ x. IsCounts (E ++ e ∷ []) x (ticked c e)) w (new_counts M E e g f c right))
    ]

-- the clocks after one more event
pub clocks_grow : (E : List Event) (e : Event) → clocks (E ++ e ∷ []) ≡ clocks_after (clocks E) e
clocks_grow E e = fold-append clocks_after no_clocks E (e ∷ [])

-- the clocks and timestamps of a sound list are right
pub clocks_right : {M : ℕ} {E : List Event} → Sound M E → AreRight E (clocks E)
clocks_right none =
    record { at_most = λ p q. omega arith; at_rest = λ p q z. refl; clock_is = λ a h. absurd (nothing_in a h); stamp_is = λ a m h. absurd (nothing_in a h.in_list) }
clocks_right (more {xs = E} {x = e} g f) = subst (AreRight (E ++ e ∷ [])) (sym (clocks_grow E e)) (right_after e g f (clocks E) (clocks_right g))

-- each entry's past has its counts
pub past_counts : {M : ℕ} {E : List Event} → Sound M E → (a : Event) → Contains E a → (v : ℕ → ℕ) × IsCounts E a v
past_counts none a h = absurd (nothing_in a h)
past_counts {M = M} (more {xs = E} {x = e} g f) a h = elim (Contains-push_cases E e a h) [
  | inl o ↦ let k = past_counts g a o in (k.0, grow_counts e g f a k.0 o k.1)
  | inr n ↦ (ticked (clocks E) e, subst (λ x. IsCounts (E ++ e ∷ []) x (ticked (clocks E) e)) n (new_counts M E e g f (clocks E) (clocks_right g)))
]

-- nothing happened before itself
pub no_cycle : {M : ℕ} {E : List Event} → Sound M E → (a : Event) → Before E a a → ⊥
no_cycle none a h = nothing_in a (first_in h)
no_cycle {M = M} (more {xs = E} {x = e} g f) a h = elim (Contains-push_cases E e a (first_in h)) [
  | inl o ↦ no_cycle g a (before_stays g f a a o h)
  | inr n ↦ new_again (from_old (subst (λ x. Before (E ++ e ∷ []) x x) (sym n) h))
]
  where
    new_again : Contains E e → ⊥
    new_again o = omega (arith, (numbers g e o).1, f.next_number)

    from_old : Before (E ++ e ∷ []) e e → Contains E e
    from_old (one l) = (last_link M E e g f (clocks E) (clocks_right g) e l).is_old
    from_old (further {b = y} k l) = first_in (before_stays g f e y (last_link M E e g f (clocks E) (clocks_right g) y l).is_old k)
