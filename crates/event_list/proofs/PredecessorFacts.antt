-- Letters of one sender on an ordered channel are received in order.
use Rattle.std.proofs.Common.{◌≡◌, ℕ, ◌<◌, true, List, refl, sym, ap, ◌∙◌, subst, inl, inr, arith}
use Rattle.std.specs.Prelude.{Contains, ◌↔◌}
use Rattle.std.proofs.lemmas.Bool.{cases_eq}
use Rattle.nm_base.specs.Message.{Message}
use Rattle.nm_base.specs.Channels.{has_channel}
use Rattle.event_list.specs.declared.Event.{Event}
use Rattle.event_list.specs.Events.{count, Sends, Accepts, IsSent, Precedes}
use Rattle.event_list.specs.Runs.{MayTake, Sound}
use Rattle.event_list.specs.Races.{CouldTake}
use Rattle.event_list.specs.Predecessors.{IsReceived, IsLastPredecessor, AreReceivedBy}
use Rattle.event_list.proofs.Splits.{split_at, from_before}
use Rattle.event_list.proofs.Soundness.{numbers, same_place, entry_at, send_order, sender_is, letter_same, accept_same}
use Rattle.event_list.proofs.Projections.{name_same, IsPart, sent_part, accepts_part}
use Rattle.event_list.proofs.Parts.{taker_is}
use Rattle.event_list.proofs.MaskFacts.{none_ordered}

-- an earlier letter of one sender was sent in each part in which the later one was
sent_before : {M N : ℕ} {E F : List Event} → Sound M E → Sound N F → IsPart F E → (l m : Message) → IsSent E l → IsSent F m → Precedes l m → IsSent F l
sent_before {F = F} g h part l m sl sm k =
    let t : Sends _ sm.0 m = record { in_list = part sm.0 sm.1.in_list; letter = sm.1.letter } in
    let n = send_order g sl.0 sm.0 l m sl.1 t k.sender k.earlier in
    let p : sl.0.proc.no ≡ sm.0.proc.no = sender_is sl.1 ∙ k.sender ∙ sym (sender_is t) in
    let x = entry_at h sl.0.proc.no sl.0.number (numbers g sl.0 sl.1.in_list).0 (omega (arith, n, (numbers h sm.0 sm.1.in_list).1, ap (count F) p)) in
    let q = same_place g x.0 sl.0 (part x.0 x.1) sl.1.in_list x.2 x.3 in
    (sl.0, record { in_list = subst (Contains F) q x.1; letter = sl.1.letter })

-- of two letters of one sender to one process on one ordered channel the first is received first
pub received_first : {M : ℕ} {E : List Event} → Sound M E → (l m : Message) → has_channel M m.chan ≡ true → IsSent E l → IsSent E m → Precedes l m → (b : Event) (set : ℕ) → Accepts E b set m.id → IsReceived E l (λ a. a.number < b.number)
received_first {M = M} {E = E} g l m ordered sl sm k b set h =
    let c = split_at g b h.in_list in
    let part : IsPart c.before E = from_before c in
    let t = c.fits.takes set m.id h.kind in
    let same : t.0 ≡ m = letter_same g t.0 m (sent_part part t.0 t.2.sent) sm t.1 in
    let may : MayTake M c.before b.proc.no set m = subst (MayTake M c.before b.proc.no set) same t.2 in
    let a = may.in_order ordered l (sent_before g c.begins part l m sl may.sent k) k in
    let p : l.dest.no ≡ a.0.proc.no = taker_is g a.0 a.1 l (accepts_part part a.0 a.1 l.id a.2) sl in
    (a.0, a.1, accepts_part part a.0 a.1 l.id a.2, omega (arith, (numbers c.begins a.0 a.2.in_list).1, c.fits.next_number, ap (count c.before) (sym p ∙ k.dest ∙ may.to_it)))

-- the last predecessor's receive comes after those of the others
pub last_received : {M : ℕ} {E : List Event} → Sound M E → (l m : Message) → has_channel M m.chan ≡ true → IsLastPredecessor E l m → (a : Event) (set : ℕ) → Accepts E a set l.id → AreReceivedBy E m a.number
last_received {M = M} {E = E} g l m ordered h a set acc = record {
  all = λ k s before. elim (cases_eq k.id.number l.id.number) [
    | inl e ↦ (a, set, subst (λ id. Accepts E a set id) (sym (name_same k.id l.id (before.sender ∙ sym h.precedes.sender) e)) acc, omega arith)
    | inr n ↦
        let first : Precedes k l = record {
          sender = before.sender ∙ sym h.precedes.sender;
          earlier = omega (arith, h.last k s before, n);
          dest = before.dest ∙ sym h.precedes.dest;
          chan = before.chan ∙ sym h.precedes.chan;
        } in
        let r = received_first g k l (ap (has_channel M) h.precedes.chan ∙ ordered) s h.sent first a set acc in
        (r.0, r.1, r.2, omega (arith, r.3))
  ];
  greatest = inr (l, h.sent, h.precedes, (a, set, acc, refl));
}

-- what could have taken a letter under a mask
pub could_after : {M : ℕ} {E : List Event} → Sound M E → (q : Event) (m : Message) (k : ℕ) → has_channel M m.chan ≡ true → AreReceivedBy E m k → CouldTake M E q m ↔ (CouldTake 0 E q m × (k < q.number))
could_after {M = M} {E = E} g q m k ordered h = (
  (λ c. (
    without c,
    elim h.greatest [
      | inl z ↦ omega (arith, z, (numbers g q c.receive.in_list).0)
      | inr x ↦
          let r = c.in_order ordered x.0 x.1 x.2 in
          let same = accept_same g r.0 x.3.0 r.1 x.3.1 x.0.id r.2 x.3.2 in
          omega (arith, r.3, x.3.3, ap (λ z. z.number) same)
    ],
  )),
  (λ c. record {
    sent = c.0.sent;
    set = c.0.set;
    took = c.0.took;
    receive = c.0.receive;
    at_dest = c.0.at_dest;
    in_set = c.0.in_set;
    before_own = c.0.before_own;
    in_order = λ o l s before. let r = h.all l s before in (r.0, r.1, r.2, omega (arith, r.3, c.1));
  }),
)
  where
    without : CouldTake M E q m → CouldTake 0 E q m
    without c = record {
      sent = c.sent;
      set = c.set;
      took = c.took;
      receive = c.receive;
      at_dest = c.at_dest;
      in_set = c.in_set;
      before_own = c.before_own;
      in_order = λ o. absurd (none_ordered m.chan o);
    }
