-- Once a letter is received, whether it is logged does not change.
use Rattle.std.proofs.Common.{◌≡◌, ℕ, ◌<◌, List, [], ◌∷◌, ◌++◌, sym, ap, ◌∙◌, subst, inl, inr, arith, append_assoc}
use Rattle.std.specs.Prelude.{Contains, ◌↔◌}
use Rattle.std.proofs.lemmas.List.{append-nil}
use Rattle.std.proofs.lemmas.List.Elements.{Contains-push_cases}
use Rattle.nm_base.specs.Fitting.{more}
use Rattle.nm_base.specs.Message.{Message}
use Rattle.event_list.specs.declared.Event.{Event}
use Rattle.event_list.specs.Events.{count, Sends, Accepts, IsSent, IsTaken, Precedes}
use Rattle.event_list.specs.Runs.{FitsSoundly, Sound}
use Rattle.event_list.specs.Races.{CouldTake, IsEarlier, IsLogged}
use Rattle.event_list.proofs.Splits.{prefix, last}
use Rattle.event_list.proofs.Soundness.{old, numbers, send_order, accept_same, sender_is}
use Rattle.event_list.proofs.Links.{before_stays, before_grows}
use Rattle.event_list.proofs.RaceLaw.{race_law}
use Rattle.event_list.proofs.Projections.{sent_part, accepts_part}
use Rattle.event_list.proofs.Parts.{taker_is}

module _ (M : ℕ) (E : List Event) (e : Event) (g : Sound M E) (f : FitsSoundly M E e) (m : Message) (sent : IsSent E m) (taken : IsTaken E m.id) where
  abbrev F : List Event
  F = E ++ e ∷ []

  r : Sound M F
  r = more g f

  -- the receive of m, and its process
  own : Accepts E taken.0 taken.1 m.id
  own = taken.2

  of_dest : m.dest.no ≡ taken.0.proc.no
  of_dest = taker_is g taken.0 taken.1 m own sent

  -- an entry of that process with a lower number is an old one
  is_old : (q : Event) → Contains F q → q.proc.no ≡ m.dest.no → q.number < taken.0.number → Contains E q
  is_old q h p l = elim (Contains-push_cases E e q h) [
    | inl o ↦ o
    | inr w ↦ absurd (omega (arith, l, (numbers g taken.0 own.in_list).1, f.next_number, ap (λ z. z.number) w, ap (λ z. count E z.proc.no) w, ap (count E) (p ∙ of_dest)))
  ]

  could_grows : (q : Event) → CouldTake M E q m → CouldTake M F q m
  could_grows q c = record {
    sent = sent_part (old E e) m c.sent;
    set = c.set;
    took = c.took;
    receive = accepts_part (old E e) q c.set c.took c.receive;
    at_dest = c.at_dest;
    in_set = c.in_set;
    before_own = λ b set h. let same = accept_same r b taken.0 set taken.1 m.id h (accepts_part (old E e) taken.0 taken.1 m.id own) in
        omega (arith, c.before_own taken.0 taken.1 own, ap (λ z. z.number) same);
    in_order = λ ordered l h before. let k = c.in_order ordered l (sent_old l h before) before in (k.0, k.1, accepts_part (old E e) k.0 k.1 l.id k.2, k.3);
  }
    where
      sent_old : (l : Message) → IsSent F l → Precedes l m → IsSent E l
      sent_old l h before = elim (Contains-push_cases E e h.0 h.1.in_list) [
        | inl o ↦ (h.0, record { in_list = o; letter = h.1.letter })
        | inr w ↦
            let s : Sends F sent.0 m = record { in_list = old E e sent.0 sent.1.in_list; letter = sent.1.letter } in
            let n = send_order r h.0 sent.0 l m h.1 s before.sender before.earlier in
            let p = sender_is h.1 ∙ before.sender ∙ sym (sender_is sent.1) in
            absurd (omega (arith, n, (numbers g sent.0 sent.1.in_list).1, f.next_number, ap (λ z. z.number) w, ap (λ z. count E z.proc.no) w, ap (count E) p))
      ]

  could_stays : (q : Event) → CouldTake M F q m → CouldTake M E q m
  could_stays q c =
      let l = c.before_own taken.0 taken.1 (accepts_part (old E e) taken.0 taken.1 m.id own) in
      let o = is_old q c.receive.in_list c.at_dest l in
      record {
        sent = sent;
        set = c.set;
        took = c.took;
        receive = record { in_list = o; kind = c.receive.kind };
        at_dest = c.at_dest;
        in_set = c.in_set;
        before_own = λ b set h. c.before_own b set (accepts_part (old E e) b set m.id h);
        in_order = λ ordered x h before.
            let k = c.in_order ordered x (sent_part (old E e) x h) before in
            let p = sym (taker_is r k.0 k.1 x k.2 (sent_part (old E e) x h)) ∙ before.dest in
            (k.0, k.1, record { in_list = is_old k.0 k.2.in_list p (omega (arith, k.3, l)); kind = k.2.kind }, k.3);
      }

  earlier_grows : (q : Event) → IsEarlier M E m q → IsEarlier M F m q
  earlier_grows q k = record { could = could_grows q k.could; last = λ b c. k.last b (could_stays b c) }

  earlier_stays : (q : Event) → IsEarlier M F m q → IsEarlier M E m q
  earlier_stays q k = record { could = could_stays q k.could; last = λ b c. k.last b (could_grows b c) }

  sends_new : Sends F sent.0 m
  sends_new = record { in_list = old E e sent.0 sent.1.in_list; letter = sent.1.letter }

  one_more : IsLogged M E m ↔ IsLogged M F m
  one_more = (
    (λ l. let k = earlier_grows l.0 l.1 in (l.0, k, (race_law r l.0 sent.0 m k.could sends_new).1 (λ b. (race_law g l.0 sent.0 m l.1.could sent.1).0 l.2 (before_stays g f l.0 sent.0 sent.1.in_list b)))),
    (λ l. let k = earlier_stays l.0 l.1 in (l.0, k, (race_law g l.0 sent.0 m k.could sent.1).1 (λ b. (race_law r l.0 sent.0 m l.1.could sends_new).0 l.2 (before_grows e l.0 sent.0 b)))),
  )

-- whether a received letter is logged depends on no later entry
pub logged_stays : (M : ℕ) (E rest : List Event) (m : Message) → Sound M (E ++ rest) → IsSent E m → IsTaken E m.id → IsLogged M E m ↔ IsLogged M (E ++ rest) m
logged_stays M E [] m g sent taken = ((λ l. subst (λ F. IsLogged M F m) (sym (append-nil E)) l), (λ l. subst (λ F. IsLogged M F m) (append-nil E) l))
logged_stays M E (e ∷ rest) m g sent taken =
    let same : (E ++ e ∷ []) ++ rest ≡ E ++ (e ∷ rest) = append_assoc E (e ∷ []) rest in
    let h : Sound M ((E ++ e ∷ []) ++ rest) = subst (Sound M) (sym same) g in
    let k : Sound M (E ++ e ∷ []) = prefix (E ++ e ∷ []) rest h in
    let a = one_more M E e (prefix E (e ∷ rest) g) (last E e k) m sent taken in
    let b = logged_stays M (E ++ e ∷ []) rest m h (sent_part (old E e) m sent) (taken.0, taken.1, accepts_part (old E e) taken.0 taken.1 m.id taken.2) in
    ((λ l. subst (λ F. IsLogged M F m) same (b.0 (a.0 l))), (λ l. a.1 (b.1 (subst (λ F. IsLogged M F m) (sym same) l))))
