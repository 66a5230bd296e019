-- Links and cuts of a sound list of events.
use Rattle.std.proofs.Common.{◌≡◌, ℕ, true, List, [], ◌∷◌, ◌++◌, Some, sym, ap, ◌∙◌, subst, inl, inr, arith}
use Rattle.std.specs.Prelude.{Contains}
use Rattle.std.proofs.lemmas.List.Elements.{Contains-push_cases}
use Rattle.nm_base.specs.declared.letter.LetterId.{LetterId}
use Rattle.nm_base.specs.declared.kind.Kind.{Kind}
use Rattle.nm_base.specs.declared.kind.Kind.TheVariants.{Line, Sent, Accepted, Printed, Ended, Faulted}
use Rattle.nm_base.specs.Fitting.{more}
use Rattle.nm_base.specs.Message.{Message}
use Rattle.nm_base.specs.Channels.{has_channel}
use Rattle.event_list.specs.declared.Event.{Event}
use Rattle.event_list.specs.Events.{count, taken_of, taken_in, Sends, Accepts, IsSent}
use Rattle.event_list.specs.Order.{Link, Before, one, further, Cut, Within, IsConsistent}
use Rattle.event_list.specs.Runs.{FitsSoundly, Sound}
use Rattle.event_list.proofs.Splits.{split_at, from_before}
use Rattle.event_list.proofs.Soundness.{old, numbers, send_same}

-- what a receive accepted
pub record Taking (E : List Event) (b : Event) (set : ℕ) (id : LetterId) : Type 0 where
  pub letter : Message
  pub named : letter.id ≡ id
  pub sent : IsSent E letter
  pub to_it : letter.dest.no ≡ b.proc.no
  pub in_set : has_channel set letter.chan ≡ true

pub accept_sent : {M : ℕ} {E : List Event} → Sound M E → (b : Event) (set : ℕ) (id : LetterId) → Accepts E b set id → Taking E b set id
accept_sent g b set id h =
    let c = split_at g b h.in_list in
    let t = c.fits.takes set id h.kind in
    record { letter = t.0; named = t.1; sent = (t.2.sent.0, record { in_list = from_before c t.2.sent.0 t.2.sent.1.in_list; letter = t.2.sent.1.letter }); to_it = t.2.to_it; in_set = t.2.in_set }

-- an event that takes a name is a receive of it
taken_accepted : (k : Kind) (id : LetterId) → taken_in k ≡ Some id → (set : ℕ) × (k ≡ Accepted set id)
taken_accepted (Line x) id h = cc
taken_accepted (Sent number dest chan len words) id h = cc
taken_accepted (Accepted set x) id h = let e : x ≡ id = cc in (set, ap (Accepted set) e)
taken_accepted (Printed x) id h = cc
taken_accepted (Ended x) id h = cc
taken_accepted (Faulted x) id h = cc

pub accepts_from : {E : List Event} (b : Event) (id : LetterId) → Contains E b → taken_of b ≡ Some id → (set : ℕ) × Accepts E b set id
accepts_from b id h t = let k = taken_accepted b.kind id t in (k.0, record { in_list = h; kind = k.1 })

-- in a grown list an old entry's links come from old entries
pub link_stays : {M : ℕ} {E : List Event} {e : Event} → Sound M E → FitsSoundly M E e → (a b : Event) → Contains E b → Link (E ++ e ∷ []) a b → Link E a b
link_stays {E = E} {e = e} g f a b hb l =
    record { first = first; second = hb; how = l.how }
  where
    first : Contains E a
    first = elim (Contains-push_cases E e a l.first) [
      | inl o ↦ o
      | inr n ↦ elim l.how [
        | inl h ↦ let c : count E b.proc.no ≡ count E e.proc.no = ap (count E) (sym h.same ∙ ap (λ x. x.proc.no) (sym n)) in
            absurd (omega (arith, (numbers g b hb).1, c, f.next_number, h.later, ap (λ x. x.number) n))
        | inr h ↦ let t = accepts_from b h.letter.id hb h.taken in
            let s = accept_sent g b t.0 h.letter.id t.1 in
            let o : Sends (E ++ e ∷ []) s.sent.0 s.letter = record { in_list = old E e s.sent.0 s.sent.1.in_list; letter = s.sent.1.letter } in
            let q = send_same (more g f) a s.sent.0 h.letter s.letter record { in_list = l.first; letter = h.sent } o (ap (λ x. x.sender.no) (sym s.named)) (ap (λ x. x.number) (sym s.named)) in
            subst (Contains E) (sym q) s.sent.1.in_list
      ]
    ]

pub before_stays : {M : ℕ} {E : List Event} {e : Event} → Sound M E → FitsSoundly M E e → (a b : Event) → Contains E b → Before (E ++ e ∷ []) a b → Before E a b
before_stays g f a b hb (one l) = one (link_stays g f a b hb l)
before_stays g f a b hb (further {b = c} h l) = let k = link_stays g f c b hb l in further (before_stays g f a c k.first h) k

-- and they are kept
pub link_grows : {E : List Event} (e : Event) (a b : Event) → Link E a b → Link (E ++ e ∷ []) a b
link_grows {E = E} e a b l = record { first = old E e a l.first; second = old E e b l.second; how = l.how }

pub before_grows : {E : List Event} (e : Event) (a b : Event) → Before E a b → Before (E ++ e ∷ []) a b
before_grows e a b (one l) = one (link_grows e a b l)
before_grows e a b (further {b = c} h l) = further (before_grows e a c h) (link_grows e c b l)

pub first_in : {E : List Event} {a b : Event} → Before E a b → Contains E a
first_in (one l) = l.first
first_in (further h l) = first_in h

-- happened-before is transitive
pub before_trans : {E : List Event} {a b c : Event} → Before E a b → Before E b c → Before E a c
before_trans h (one l) = further h l
before_trans h (further k l) = further (before_trans h k) l

-- what is closed under links is closed under happened-before
pub closed_before : {E : List Event} (P : Event → Type 0) → ((a b : Event) → Link E a b → P b → P a) → {a b : Event} → Before E a b → P b → P a
closed_before P step {a = a} {b = b} (one l) p = step a b l p
closed_before P step {b = b} (further {b = c} h l) p = closed_before P step h (step c b l p)

-- a consistent cut holds what happened before what it holds
pub cut_closed : {E : List Event} {c : Cut} → IsConsistent E c → {a b : Event} → Before E a b → Within c b → Within c a
cut_closed {E = E} {c = c} k {a = a} {b = b} h w =
    closed_before (Within c) (λ a b l. elim l.how [
      | inl f ↦ λ w. omega (arith, f.later, w, ap c f.same)
      | inr d ↦ k.closed a b l.first l.second d
    ]) h w
