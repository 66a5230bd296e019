-- A letter is logged where the last receive that could have taken it is late enough.
use Rattle.std.proofs.Common.{◌≡◌, ℕ, ◌<◌, ◌≤◌, max, true, false, cond, List, refl, sym, ap, ◌∙◌, subst, inl, inr, arith}
use Rattle.std.specs.Prelude.{Contains, ◌⊎◌, ◌↔◌}
use Rattle.std.proofs.lemmas.Bool.{cases_eq, cases_lt, false≢true}
use Rattle.nm_base.specs.declared.letter.Letter.{Letter}
use Rattle.nm_base.specs.Message.{Message, message_of}
use Rattle.nm_base.specs.Channels.{has_channel}
use Rattle.vector_clocks.specs.Parts.{part}
use Rattle.event_list.specs.declared.Event.{Event}
use Rattle.event_list.specs.Events.{Accepts, IsSent, IsTaken, Precedes}
use Rattle.event_list.specs.Runs.{Sound}
use Rattle.event_list.specs.Races.{CouldTake, IsEarlier, IsLogged}
use Rattle.event_list.specs.Clocks.{IsCounts, clocks}
use Rattle.event_list.specs.Predecessors.{AreReceivedBy}
use Rattle.event_list.proofs.Soundness.{numbers}
use Rattle.event_list.proofs.ClockLaws.{clocks_right}
use Rattle.event_list.proofs.Decisions.{logged_stamp}
use Rattle.event_list.proofs.MaskFacts.{none_ordered}
use Rattle.event_list.proofs.Parts.{taker_is}
use Rattle.event_list.proofs.PredecessorFacts.{received_first, could_after}
use Rattle.event_list.proofs.Projections.{name_same}
use Rattle.race_tracer.specs.Tracing.{Names, Takes, HasStamp}
use Rattle.race_tracer.specs.private.Deciding.{since_of}

-- two counts of one past agree on each entry
counts_agree : {E : List Event} {a b : Event} {v w : ℕ → ℕ} → IsCounts E a v → IsCounts E b w → a ≡ b → (x : Event) → Contains E x → (x.number ≤ v x.proc.no) ↔ (x.number ≤ w x.proc.no)
counts_agree {E = E} {a = a} {b = b} {v = v} {w = w} h k e x c =
    let k' : IsCounts E a w = subst (λ z. IsCounts E z w) (sym e) k in
    ((λ l. (k'.tells x c).1 ((h.tells x c).0 l)), (λ l. (h.tells x c).1 ((k'.tells x c).0 l)))

module _ {M : ℕ} {F : List Event} (g : Sound M F) (m : Message) where
  -- what takes a letter on m's channel comes after the receive of m's last predecessor
  abbrev pub Since : ℕ → Type 0
  Since since = (q : Event) → CouldTake M F q m ↔ (CouldTake 0 F q m × (since < q.number))

  -- on a channel that is not ordered each receive counts
  pub since_free : (k : ℕ) → has_channel M m.chan ≡ false → Since (since_of M m.chan k)
  since_free k free q = (
    (λ c. (
      record {
        sent = c.sent;
        set = c.set;
        took = c.took;
        receive = c.receive;
        at_dest = c.at_dest;
        in_set = c.in_set;
        before_own = c.before_own;
        in_order = λ o. absurd (none_ordered m.chan o);
      },
      omega (arith, ap (λ b. cond b k 0) free, (numbers g q c.receive.in_list).0),
    )),
    (λ c. record {
      sent = c.0.sent;
      set = c.0.set;
      took = c.0.took;
      receive = c.0.receive;
      at_dest = c.0.at_dest;
      in_set = c.0.in_set;
      before_own = c.0.before_own;
      in_order = λ o. absurd (false≢true (sym free ∙ o));
    }),
  )

  -- on an ordered channel those that come after the last receive of a letter of the sender
  pub since_ordered : (k : ℕ) → has_channel M m.chan ≡ true → IsSent F m
      → ((r : Event) (set : ℕ) (l : Message) → Accepts F r set l.id → IsSent F l → Precedes l m → r.number ≤ k)
      → ((l : Message) → IsSent F l → Precedes l m → IsTaken F l.id)
      → (k ≡ 0) ⊎ ((q : Event) × Contains F q × Takes F m.id.sender.no m.dest.no m.chan q × (q.number ≡ k))
      → ((q b : Event) (set : ℕ) → q.number ≡ k → Accepts F b set m.id → q.number < b.number)
      → Since (since_of M m.chan k)
  since_ordered k ordered sent below all is own q =
      subst (λ z. CouldTake M F q m ↔ (CouldTake 0 F q m × (z < q.number))) (sym (ap (λ b. cond b k 0) ordered)) (could_after g q m k ordered by)
    where
      last_before : (q : Event) → Contains F q → (y : Takes F m.id.sender.no m.dest.no m.chan q) → q.number ≡ k → Precedes y.letter m
      last_before q c y n =
          let acc : Accepts F q y.set y.letter.id = record { in_list = c; kind = y.kind } in
          let dest = taker_is g q y.set y.letter acc y.sent ∙ y.of_p in
          record {
            sender = y.sender_is;
            earlier = elim (cases_lt y.letter.id.number m.id.number) [
              | inl l ↦ l
              | inr l ↦ elim (cases_eq y.letter.id.number m.id.number) [
                | inl e ↦ let i = own q q y.set n (subst (Accepts F q y.set) (name_same y.letter.id m.id y.sender_is e) acc) in absurd (omega (arith, i))
                | inr e ↦
                    let a = received_first g m y.letter (ap (has_channel M) y.chan_is ∙ ordered) sent y.sent record { sender = sym y.sender_is; earlier = omega (arith, l, e); dest = sym dest; chan = sym y.chan_is } q y.set acc in
                    let i = own q a.0 a.1 n a.2 in
                    absurd (omega (arith, a.3, i))
              ]
            ];
            dest = dest;
            chan = y.chan_is;
          }

      by : AreReceivedBy F m k
      by = record {
        all = λ l s before. let r = all l s before in (r.0, r.1, r.2, below r.0 r.1 l r.2 s before);
        greatest = elim is [
          | inl z ↦ inl z
          | inr q ↦ inr (q.2.letter, q.2.sent, last_before q.0 q.1 q.2 q.3, (q.0, q.2.set, record { in_list = q.1; kind = q.2.kind }, q.3))
        ];
      }

-- the timestamp decides whether a letter is logged
module _ {M : ℕ} {F : List Event} (g : Sound M F) (l : Letter) (stamp : HasStamp F l) where
  abbrev m : Message
  m = message_of l

  pub logged_by : (number since : ℕ) → Since g m since → (number ≡ 0) ⊎ ((q : Event) × CouldTake 0 F q m × (q.number ≡ number)) → ((r : Event) → CouldTake 0 F r m → r.number ≤ number) → IsLogged M F m ↔ (max since (part l.stamp l.dest.no) < number)
  logged_by number since after (inl z) top = (
    (λ k. let c = (after k.0).0 k.1.could in absurd (omega (arith, top k.0 c.0, (numbers g k.0 c.0.receive.in_list).0, z))),
    (λ k. absurd (omega (arith, k, z))),
  )
  logged_by number since after (inr q) top = elim (cases_lt since q.0.number) [
    | inr early ↦ (
      (λ k. let c = (after k.0).0 k.1.could in absurd (omega (arith, top k.0 c.0, c.1, early, q.2))),
      (λ k. absurd (omega (arith, k, early, q.2))),
    )
    | inl late ↦
        let could = (after q.0).1 (q.1, late) in
        let earlier : IsEarlier M F m q.0 = record { could = could; last = λ r c. omega (arith, top r ((after r).0 c).0, q.2) } in
        let law = logged_stamp M F g m q.0 earlier in
        let agree = counts_agree ((clocks_right g).stamp_is stamp.send m stamp.sends) stamp.counts refl q.0 could.receive.in_list in
        let at = ap (part l.stamp) could.at_dest in (
          (λ k. let below = law.0 k in elim (cases_lt (part l.stamp q.0.proc.no) q.0.number) [
            | inl y ↦ omega (arith, y, at, q.2, late)
            | inr y ↦ let n = agree.1 y in absurd (omega (arith, n, below))
          ]),
          (λ k. elim (cases_lt ((clocks F).stamp m.id q.0.proc.no) q.0.number) [
            | inl y ↦ law.1 y
            | inr y ↦ let n = agree.0 y in absurd (omega (arith, n, k, at, q.2))
          ]),
        )
  ]

  -- a receive whose set names the channel could have taken the letter, if it comes before the letter's own
  pub could_name : (q : Event) → Contains F q → Names l.dest.no l.chan q → ((r : Event) (t : ℕ) → Accepts F r t l.id → q.number < r.number) → CouldTake 0 F q m
  could_name q c y own = record {
    sent = (stamp.send, stamp.sends);
    set = y.set;
    took = y.id;
    receive = record { in_list = c; kind = y.kind };
    at_dest = y.of_p;
    in_set = y.in_set;
    before_own = own;
    in_order = λ o. absurd (none_ordered l.chan o);
  }

  pub could_names : (q : Event) → CouldTake 0 F q m → Names l.dest.no l.chan q
  could_names q c = record { of_p = c.at_dest; set = c.set; id = c.took; kind = c.receive.kind; in_set = c.in_set }
