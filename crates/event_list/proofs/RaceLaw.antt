-- A race is what happened-before leaves open.
use Rattle.std.proofs.Common.{◌≡◌, ℕ, ◌+◌, ◌-◌, ◌<◌, ◌≤◌, max, cond, eqb, List, Some, None, refl, sym, ap, ◌∙◌, subst, inl, inr, arith}
use Rattle.std.specs.Prelude.{Contains, ◌⊎◌, ◌↔◌}
use Rattle.std.proofs.lemmas.Bool.{eq-eqb, ne_eqb, cases_eq, cases_lt, cond-true, cond-false}
use Rattle.nm_base.specs.declared.letter.LetterId.{LetterId}
use Rattle.nm_base.specs.declared.kind.Kind.TheVariants.{Accepted}
use Rattle.nm_base.specs.Message.{Message}
use Rattle.event_list.specs.declared.Event.{Event}
use Rattle.event_list.specs.Events.{count, letter_of, Sends, Accepts}
use Rattle.nm_base.specs.Scripts.{message_sent}
use Rattle.event_list.specs.Order.{Delivers, Link, Before, one, Cut, Within, IsConsistent}
use Rattle.event_list.specs.Runs.{Sound}
use Rattle.event_list.specs.Clocks.{IsCounts, clocks}
use Rattle.event_list.specs.Races.{CouldTake, Race}
use Rattle.event_list.proofs.Soundness.{numbers, same_place, send_same}
use Rattle.event_list.proofs.Links.{cut_closed, before_trans}
use Rattle.event_list.proofs.ClockLaws.{past_counts, no_cycle, clocks_right}

-- a receive sends nothing
pub no_letter : (b : Event) (set : ℕ) (id : LetterId) (m : Message) → b.kind ≡ Accepted set id → letter_of b ≡ Some m → ⊥
no_letter b set id m k h = some_none m (ap (message_sent b.proc) (sym k) ∙ h)
  where
    some_none : (m : Message) → None ≡ Some m → ⊥
    some_none m h = cc

module _ (E : List Event) (s q : Event) (v w : ℕ → ℕ) where
  -- the entries of the pasts of s and q, without q
  abbrev pub joined : Cut
  joined p = cond (eqb p q.proc.no) (q.number - 1) (max (v p) (w p))

  joined_at : joined q.proc.no ≡ q.number - 1
  joined_at = cond-true _ _ _ (eq-eqb q.proc.no q.proc.no refl)

  joined_off : (p : ℕ) → (p ≡ q.proc.no → ⊥) → joined p ≡ max (v p) (w p)
  joined_off p h = cond-false _ _ _ (ne_eqb p q.proc.no h)

-- what the joined cut holds: the past of s, and the past of q without q
pub record JoinedCut (E : List Event) (s q : Event) : Type 0 where
  pub cut : Cut
  pub consistent : IsConsistent E cut
  pub up_to : cut q.proc.no + 1 ≡ q.number
  pub holds : (x : Event) → Contains E x → ((x ≡ s) ⊎ Before E x s) ⊎ Before E x q → Within cut x
  pub only : (x : Event) → Contains E x → Within cut x → ((x ≡ s) ⊎ Before E x s) ⊎ Before E x q

-- with vectors that count the two pasts
pub joined_counts : {M : ℕ} {E : List Event} → Sound M E → (s q : Event) (set : ℕ) (id : LetterId) → Contains E s → Accepts E q set id → (Before E q s → ⊥) → (s ≡ q → ⊥) → (v w : ℕ → ℕ) → IsCounts E s v → IsCounts E q w → (j : JoinedCut E s q) × ((p : ℕ) → j.cut p ≡ joined E s q v w p)
joined_counts {E = E} g s q set id hs hq free other v w kv kw = (
  record { cut = c; consistent = record { is_cut = is_cut; closed = λ a b ha hb d hc. closed a b ha hb d (only b hb hc) }; up_to = omega (arith, joined_at E s q v w, (numbers g q hq.in_list).0); holds = holds; only = only },
  (λ p. refl),
)
  where
    c : Cut
    c = joined E s q v w

    is_cut : (p : ℕ) → c p ≤ count E p
    is_cut p = elim (cases_eq p q.proc.no) [
      | inl h ↦ omega (arith, ap c h, joined_at E s q v w, (numbers g q hq.in_list).1, ap (count E) h)
      | inr h ↦ omega (arith, joined_off E s q v w p h, kv.at_most p, kw.at_most p)
    ]

    cycle : Before E q q → ⊥
    cycle h = no_cycle g q h

    -- the entries of q's process before q
    own : (x : Event) → x.proc.no ≡ q.proc.no → x.number < q.number → Within c x
    own x p l = omega (arith, ap c p, joined_at E s q v w, l)

    holds : (x : Event) → Contains E x → ((x ≡ s) ⊎ Before E x s) ⊎ Before E x q → Within c x
    holds x hx k = elim (cases_eq x.proc.no q.proc.no) [
      | inl p ↦ elim (cases_lt x.number q.number) [
        | inl l ↦ own x p l
        | inr l ↦ absurd (elim (cases_eq x.number q.number) [
          | inl at ↦ let same = same_place g x q hx hq.in_list p at in
              elim k [
                | inl z ↦ elim z [ inl e ↦ other (sym e ∙ same) | inr b ↦ free (subst (λ y. Before E y s) same b) ]
                | inr b ↦ let t = (kw.tells x hx).1 (inr b) in cycle (subst (λ y. Before E y q) same b)
              ]
          | inr ne ↦ let l : Link E q x = record { first = hq.in_list; second = hx; how = inl record { same = sym p; later = omega arith } } in
              elim k [
                | inl z ↦ elim z [ inl e ↦ free (subst (λ y. Before E q y) e (one l)) | inr b ↦ free (before_trans (one l) b) ]
                | inr b ↦ cycle (before_trans (one l) b)
              ]
        ])
      ]
      | inr p ↦ elim k [
        | inl z ↦ omega (arith, (kv.tells x hx).1 z, joined_off E s q v w x.proc.no p)
        | inr b ↦ omega (arith, (kw.tells x hx).1 (inr b), joined_off E s q v w x.proc.no p)
      ]
    ]

    only : (x : Event) → Contains E x → Within c x → ((x ≡ s) ⊎ Before E x s) ⊎ Before E x q
    only x hx l = elim (cases_eq x.proc.no q.proc.no) [
      | inl p ↦ inr (one record { first = hx; second = hq.in_list; how = inl record { same = p; later = omega (arith, l, ap c p, joined_at E s q v w, (numbers g q hq.in_list).0) } })
      | inr p ↦ elim (cases_lt (v x.proc.no) x.number) [
        | inl above ↦ let t = (kw.tells x hx).0 (omega (arith, l, joined_off E s q v w x.proc.no p, above)) in
            elim t [ inl e ↦ absurd (p (ap (λ y. y.proc.no) e)) | inr b ↦ inr b ]
        | inr below ↦ inl ((kv.tells x hx).0 below)
      ]
    ]

    closed : (a b : Event) → Contains E a → Contains E b → Delivers a b → ((b ≡ s) ⊎ Before E b s) ⊎ Before E b q → Within c a
    closed a b ha hb d k =
        let l : Link E a b = record { first = ha; second = hb; how = inr d } in
        holds a ha (elim k [
          | inl z ↦ inl (inr (elim z [ inl e ↦ subst (λ y. Before E a y) e (one l) | inr r ↦ before_trans (one l) r ]))
          | inr r ↦ inr (before_trans (one l) r)
        ])

pub joined_cut : {M : ℕ} {E : List Event} → Sound M E → (s q : Event) (set : ℕ) (id : LetterId) → Contains E s → Accepts E q set id → (Before E q s → ⊥) → (s ≡ q → ⊥) → JoinedCut E s q
joined_cut g s q set id hs hq free other =
    let v = past_counts g s hs in
    let w = past_counts g q hq.in_list in
    (joined_counts g s q set id hs hq free other v.0 w.0 v.1 w.1).0

-- where q could have taken m, they race exactly where q did not happen before m's send
pub race_law : {M : ℕ} {E : List Event} → Sound M E → (q s : Event) (m : Message) → CouldTake M E q m → Sends E s m → Race M E q m ↔ (Before E q s → ⊥)
race_law {M = M} {E = E} g q s m could hs = (there, back)
  where
    there : Race M E q m → Before E q s → ⊥
    there r h =
        let same = send_same g s r.send m m hs r.sends refl refl in
        let l = cut_closed r.consistent (subst (λ y. Before E q y) same h) r.holds_send in
        omega (arith, l, r.up_to)

    back : (Before E q s → ⊥) → Race M E q m
    back h =
        let j = joined_cut g s q could.set could.took hs.in_list could.receive h (λ e. no_letter q could.set could.took m could.receive.kind (ap letter_of (sym e) ∙ hs.letter)) in
        record { could = could; cut = j.cut; consistent = j.consistent; send = s; sends = hs; holds_send = j.holds s hs.in_list (inl (inl refl)); up_to = j.up_to }

-- a receive is before a send exactly where the timestamp counts it
pub stamp_law : {M : ℕ} {E : List Event} → Sound M E → (q s : Event) (set : ℕ) (id : LetterId) (m : Message) → Accepts E q set id → Sends E s m → Before E q s ↔ (q.number ≤ (clocks E).stamp m.id q.proc.no)
stamp_law {E = E} g q s set id m hq hs =
    let k = ((clocks_right g).stamp_is s m hs).tells q hq.in_list in (
      (λ b. k.1 (inr b)),
      (λ l. elim (k.0 l) [
        | inl e ↦ absurd (no_letter q set id m hq.kind (ap letter_of e ∙ hs.letter))
        | inr b ↦ b
      ]),
    )
