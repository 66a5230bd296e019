-- A letter's send, and the last receive that could have taken the letter.
use Rattle.std.proofs.Common.{◌≡◌, ℕ, ◌<◌, Bool, true, false, List, [], ◌∷◌, Option, Some, None, refl, sym, ap, ◌∙◌, subst, inl, inr, arith}
use Rattle.std.specs.Prelude.{Contains, nat_lt, ◌==◌, ◌&&◌}
use Rattle.std.proofs.lemmas.Bool.{cases_lt, eq-eqb, eqb-true, ltb-true, lt-ltb, and_parts, and_from, cases_Bool, false≢true}
use Rattle.std.proofs.lemmas.List.Elements.{Contains-append_right}
use Rattle.event_list.proofs.Members.{cons_here}
use Rattle.nm_base.specs.declared.letter.LetterId.{LetterId}
use Rattle.nm_base.specs.declared.kind.Kind.{Kind}
use Rattle.nm_base.specs.declared.kind.Kind.TheVariants.{Line, Sent, Accepted, Printed, Ended, Faulted}
use Rattle.nm_base.specs.Channels.{has_channel}
use Rattle.nm_base.specs.Message.{Message}
use Rattle.event_list.specs.declared.Event.{Event}
use Rattle.event_list.specs.Events.{letter_of, taken_of, taken_in, IsSent, IsTaken, Sends, Accepts, Precedes}
use Rattle.event_list.specs.Runs.{Sound}
use Rattle.event_list.specs.Clocks.{is_named}
use Rattle.event_list.specs.Races.{CouldTake}
use Rattle.event_list.specs.Predecessors.{IsLastPredecessor, AreReceivedBy}
use Rattle.event_list.proofs.TurnFacts.{precedes_from, precedes_is}
use Rattle.event_list.proofs.Projections.{name_from, same_name_at}
use Rattle.event_list.proofs.Links.{accepts_from}
use Rattle.event_list.proofs.Soundness.{numbers, sender_is, send_order, accept_same}
use Rattle.event_list.proofs.PredecessorFacts.{last_received, could_after}
use Rattle.event_list.proofs.MaskFacts.{none_ordered}
use Rattle.cut_witness.specs.declared.earlier.Posted.{Posted}
use Rattle.cut_witness.specs.declared.query.Query.TheVariants.{Send, Receive, Predecessor, Naming}
use Rattle.cut_witness.specs.private.Queries.{is_name, is_before, is_below, is_naming, meets, NonePasses, IsLastPassing}
use Rattle.cut_witness.specs.private.Steps.{IsPosted, TellsPosted, posted_by, name_in, number_in, IsSince, IsReceiveOf, IsOwn, TellsEarlier}
use Rattle.cut_witness.proofs.QueryFacts.{last_in, last_greatest}

-- the letter that is found by its name
pub posted_none : (E : List Event) (id : LetterId) → NonePasses (meets (Send id)) E → TellsPosted E id None
posted_none E id none m s e = none s.0 s.1.in_list (ap (λ o. is_named o id) s.1.letter ∙ same_name_at m.id id e)

pub posted_some : (E : List Event) (id : LetterId) (e : Event) → IsLastPassing (meets (Send id)) E (Some e) → Contains E e → (o : Option Posted) → o ≡ posted_by e id (letter_of e) → TellsPosted E id o
posted_some E id e l h o is = by (letter_of e) refl l.3
  where
    by : (x : Option Message) → letter_of e ≡ x → is_named x id ≡ true → TellsPosted E id o
    by None t n = absurd (false≢true n)
    by (Some m) t n = subst (TellsPosted E id) (sym (is ∙ ap (posted_by e id) t)) (refl, e, m, record { sends = record { in_list = h; letter = t }; named = name_from m.id id n; to = refl; on = refl; numbered = refl })

-- the receive that is found by its letter's name
pub own_none : (E : List Event) (id : LetterId) → NonePasses (meets (Receive id)) E → IsTaken E id → ⊥
own_none E id none t = none t.0 t.2.in_list (ap (λ k. is_name (taken_in k) id) t.2.kind ∙ same_name_at id id refl)

pub own_some : (E : List Event) (id : LetterId) (e : Event) → Contains E e → is_name (taken_of e) id ≡ true → (set : ℕ) × Accepts E e set id
own_some E id e h n = by (taken_of e) refl n
  where
    by : (x : Option LetterId) → taken_of e ≡ x → is_name x id ≡ true → (set : ℕ) × Accepts E e set id
    by None t n = absurd (false≢true n)
    by (Some taken) t n = accepts_from e id h (t ∙ ap Some (name_from taken id n))

pub passing_in : (test : Event → Bool) (E : List Event) (e : Event) → IsLastPassing test E (Some e) → Contains E e
passing_in test E e l = subst (λ zs. Contains zs e) (sym l.2) (Contains-append_right l.0 (e ∷ l.1) e (cons_here e l.1))

pub own_is : (E : List Event) (id : LetterId) (o : Option Event) → IsLastPassing (meets (Receive id)) E o → IsOwn E id o
own_is E id None none = own_none E id none
own_is E id (Some e) l = own_some E id e (passing_in (meets (Receive id)) E e l) l.3

pub receive_is : (E : List Event) (id l : LetterId) (e : Event) → id ≡ l → IsLastPassing (meets (Receive id)) E (Some e) → IsReceiveOf E l (Some e.number)
receive_is E id l e same h =
    let r = own_some E id e (passing_in (meets (Receive id)) E e h) h.3 in
    (e, r.0, subst (λ i. Accepts E e r.0 i) same r.1, refl)

some_same : {X : Type 0} (x y : X) → Some x ≡ Some y → x ≡ y
some_same x y h = cc

none_some : {X : Type 0} (x : X) → None ≡ Some x → ⊥
none_some x h = cc

-- the name of what was sent
pub name_is : (o : Option Message) (l : Message) → o ≡ Some l → (id : LetterId) → Some id ≡ name_in o → id ≡ l.id
name_is o l e id h = some_same id l.id (h ∙ ap name_in e)

pub no_name : (o : Option Message) (l : Message) → o ≡ Some l → None ≡ name_in o → ⊥
no_name o l e h = none_some l.id (h ∙ ap name_in e)

module _ (M : ℕ) (E : List Event) (g : Sound M E) (a : Event) (m : Message) (p : Posted) (h : IsPosted E a m p) where
  -- m without its words
  abbrev bare : Message
  bare = record { id = p.id; dest = p.dest; chan = p.chan; words = [] }

  from_bare : (l : Message) → Precedes l bare → Precedes l m
  from_bare l k = record {
    sender = k.sender ∙ ap (λ i. i.sender.no) (sym h.named);
    earlier = omega (arith, k.earlier, ap (λ i. i.number) h.named);
    dest = k.dest ∙ ap (λ q. q.no) (sym h.to);
    chan = k.chan ∙ sym h.on;
  }

  to_bare : (l : Message) → Precedes l m → Precedes l bare
  to_bare l k = record {
    sender = k.sender ∙ ap (λ i. i.sender.no) h.named;
    earlier = omega (arith, k.earlier, ap (λ i. i.number) h.named);
    dest = k.dest ∙ ap (λ q. q.no) h.to;
    chan = k.chan ∙ h.on;
  }

  is_predecessor : (l : Message) (s : IsSent E l) → Precedes l m → meets (Predecessor p.id p.dest p.chan) s.0 ≡ true
  is_predecessor l s k = ap (λ o. is_before o p.id p.dest p.chan) s.1.letter ∙ precedes_from l bare (to_bare l k)

  pub since_free : (b : Bool) → b ≡ has_channel M p.chan → b ≡ false → IsSince M E m (Some 0)
  since_free b is fails = ((λ o. absurd (false≢true (sym fails ∙ is ∙ ap (has_channel M) (sym h.on) ∙ o))), (λ u. refl))

  pub since_none : NonePasses (meets (Predecessor p.id p.dest p.chan)) E → IsSince M E m (Some 0)
  since_none none = (
    (λ o. record { all = λ l s k. absurd (none s.0 s.1.in_list (is_predecessor l s k)); greatest = inl refl }),
    (λ u. refl),
  )

  pub since_some : (b : Bool) → b ≡ has_channel M p.chan → b ≡ true → (e : Event) → IsLastPassing (meets (Predecessor p.id p.dest p.chan)) E (Some e) → (o : Option ℕ) → ((l : Message) → letter_of e ≡ Some l → IsReceiveOf E l.id o) → IsSince M E m o
  since_some b is sure e passed o received = by (letter_of e) refl passed.3
    where
      ordered : has_channel M m.chan ≡ true
      ordered = ap (has_channel M) h.on ∙ sym is ∙ sure

      in_list : Contains E e
      in_list = last_in g (meets (Predecessor p.id p.dest p.chan)) e passed

      by : (x : Option Message) → letter_of e ≡ x → is_before x p.id p.dest p.chan ≡ true → IsSince M E m o
      by None t n = absurd (false≢true n)
      by (Some l) t n = told o (received l t)
        where
          sends : Sends E e l
          sends = record { in_list = in_list; letter = t }

          before : Precedes l m
          before = from_bare l (precedes_is l bare n)

          is_last : IsLastPredecessor E l m
          is_last = record {
            sent = (e, sends);
            precedes = before;
            last = λ k s r. elim (cases_lt l.id.number k.id.number) [
              | inr o ↦ o
              | inl n ↦
                  let same : s.0.proc.no ≡ e.proc.no = sender_is s.1 ∙ r.sender ∙ sym before.sender ∙ sym (sender_is sends) in
                  let x = send_order g e s.0 l k sends s.1 (before.sender ∙ sym r.sender) n in
                  let y = last_greatest g (meets (Predecessor p.id p.dest p.chan)) e passed s.0 s.1.in_list (is_predecessor k s r) same in
                  absurd (omega (arith, x, y))
            ];
          }

          told : (o : Option ℕ) → IsReceiveOf E l.id o → IsSince M E m o
          told None r = (ordered, l, (e, sends), before, r)
          told (Some k) r = (
            (λ o. subst (AreReceivedBy E m) r.3 (last_received g l m o is_last r.0 r.1 r.2)),
            (λ u. absurd (false≢true (sym u ∙ ordered))),
          )

  module _ (own : Option Event) (is_own : IsOwn E m.id own) where
    -- no receive could have taken the letter where a predecessor waits
    pub held_back : IsSince M E m None → (q : Event) → CouldTake M E q m → ⊥
    held_back s q c = let r = c.in_order s.0 s.1 s.2 s.3 in s.4 (r.0, r.1, r.2)

    module _ (k : ℕ) (s : IsSince M E m (Some k)) where
      -- what could have taken it is what is looked for
      above : (q : Event) → CouldTake M E q m → k < q.number
      above q c = elim (cases_Bool (has_channel M m.chan)) [
        | inl o ↦ ((could_after g q m k o (s.0 o)).0 c).1
        | inr u ↦ omega (arith, s.1 u, (numbers g q c.receive.in_list).0)
      ]

      below : (o : Option Event) → IsOwn E m.id o → (q : Event) → CouldTake M E q m → is_below q.number (number_in o) ≡ true
      below None n q c = refl
      below (Some b) n q c = lt-ltb q.number b.number (c.before_own b n.0 n.1)

      abbrev test : Event → Bool
      test = meets (Naming p.dest p.chan k (number_in own))

      passes : (q : Event) → CouldTake M E q m → test q ≡ true
      passes q c =
          and_from (is_naming q.kind p.chan && (q.proc.no == p.dest.no)) (nat_lt k q.number && is_below q.number (number_in own))
          (and_from (is_naming q.kind p.chan) (q.proc.no == p.dest.no) (ap (λ x. is_naming x p.chan) c.receive.kind ∙ ap (has_channel c.set) (sym h.on) ∙ c.in_set) (eq-eqb q.proc.no p.dest.no (c.at_dest ∙ ap (λ x. x.no) h.to)))
          (and_from (nat_lt k q.number) (is_below q.number (number_in own)) (lt-ltb k q.number (above q c)) (below own is_own q c))

      naming_is : (x : Kind) (chan : ℕ) → is_naming x chan ≡ true → (set : ℕ) × (id : LetterId) × (x ≡ Accepted set id) × (has_channel set chan ≡ true)
      naming_is (Line x) chan n = absurd (false≢true n)
      naming_is (Sent number dest on len words) chan n = absurd (false≢true n)
      naming_is (Accepted set id) chan n = (set, id, refl, n)
      naming_is (Printed x) chan n = absurd (false≢true n)
      naming_is (Ended x) chan n = absurd (false≢true n)
      naming_is (Faulted x) chan n = absurd (false≢true n)

      own_below : (o : Option Event) → IsOwn E m.id o → (q : Event) → is_below q.number (number_in o) ≡ true → (r : Event) (set : ℕ) → Accepts E r set m.id → q.number < r.number
      own_below None n q t r set acc = absurd (n (r, set, acc))
      own_below (Some b) n q t r set acc = omega (arith, ltb-true q.number b.number t, ap (λ x. x.number) (accept_same g r b set n.0 m.id acc n.1))

      could : (q : Event) → Contains E q → test q ≡ true → CouldTake M E q m
      could q hq t =
          let parts = and_parts (is_naming q.kind p.chan && (q.proc.no == p.dest.no)) (nat_lt k q.number && is_below q.number (number_in own)) t in
          let first = and_parts (is_naming q.kind p.chan) (q.proc.no == p.dest.no) parts.0 in
          let second = and_parts (nat_lt k q.number) (is_below q.number (number_in own)) parts.1 in
          let x = naming_is q.kind p.chan first.0 in
          let free : CouldTake 0 E q m = record {
            sent = (a, h.sends);
            set = x.0;
            took = x.1;
            receive = record { in_list = hq; kind = x.2 };
            at_dest = eqb-true q.proc.no p.dest.no first.1 ∙ ap (λ z. z.no) (sym h.to);
            in_set = ap (has_channel x.0) h.on ∙ x.3;
            before_own = own_below own is_own q second.1;
            in_order = λ o. absurd (none_ordered m.chan o);
          } in
          elim (cases_Bool (has_channel M m.chan)) [
            | inl o ↦ (could_after g q m k o (s.0 o)).1 (free, ltb-true k q.number second.0)
            | inr u ↦ record {
              sent = free.sent;
              set = free.set;
              took = free.took;
              receive = free.receive;
              at_dest = free.at_dest;
              in_set = free.in_set;
              before_own = free.before_own;
              in_order = λ o. absurd (false≢true (sym u ∙ o));
            }
          ]

      pub earlier_is : (o : Option Event) → IsLastPassing test E o → TellsEarlier M E m o
      earlier_is None none = λ q c. none q c.receive.in_list (passes q c)
      earlier_is (Some q) l =
          let inside = last_in g test q l in
          let c = could q inside l.3 in
          record { could = c; last = λ r cr. last_greatest g test q l r cr.receive.in_list (passes r cr) (cr.at_dest ∙ sym c.at_dest) }
