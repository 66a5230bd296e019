-- A replay makes what was recorded.
use Rattle.std.proofs.Common.{◌≡◌, ℕ, zero, suc, ◌+◌, ◌≤◌, true, List, refl, sym, ap, ◌∙◌, subst, inl, inr, arith}
use Rattle.std.specs.Prelude.{Contains}
use mathlib.Core.Path.{ap₂}
use Rattle.std.proofs.lemmas.Bool.{cases_eq, cases_lt, cases_Bool, false≢true}
use Rattle.nm_base.specs.declared.kind.Kind.TheVariants.{Accepted}
use Rattle.nm_base.specs.Fitting.{EachFits, none, more}
use Rattle.nm_base.specs.Message.{Message, same_name}
use Rattle.nm_base.specs.Scripts.{Script, Next, Goes, Wants, Over, IsLawful}
use Rattle.event_list.specs.declared.Event.{Event}
use Rattle.event_list.specs.Events.{count, messages, receives, Sends, Accepts, IsSent, Precedes}
use Rattle.event_list.specs.Order.{IsConsistent}
use Rattle.event_list.specs.Runs.{MayTake, KindFits, Fits, IsRun, Sound}
use Rattle.event_list.specs.Races.{CouldTake, IsEarlier, IsLogged}
use Rattle.event_list.specs.Traces.{Trace, IsTraceOf, IsPermitted, IsReplay, Agrees, permits, receive_number}
use Rattle.event_list.proofs.Entries.{nothing_in, count_here, count_grows, event_same}
use Rattle.event_list.proofs.Splits.{SplitAt, split_at, from_before, front, last}
use Rattle.event_list.proofs.Soundness.{numbers, same_place, entry_at, send_order, sender_is}
use Rattle.event_list.proofs.RaceLaw.{race_law}
use Rattle.event_list.proofs.RunsSound.{runs_sound, accepted_parts}
use Rattle.event_list.proofs.Projections.{IsPart, messages_same, prefix_part, sent_part, accepts_part, name_from, same_name_at}
use Rattle.event_list.proofs.Parts.{part_holds, part_before, part_cut, receive_at, taker_is}
use Rattle.event_list.proofs.Permits.{note_names}
use Rattle.event_list.proofs.TraceFacts.{unnamed, permission}
use Rattle.std.proofs.lemmas.List.Elements.{Contains-push_cases}

-- where a receive could have taken a letter, there is a last one that could
last_exists : {M : ℕ} {E : List Event} → Sound M E → (m : Message) (k : ℕ) (q : Event) → CouldTake M E q m → count E m.dest.no ≤ q.number + k → ((r : Event) → IsEarlier M E m r → q.number ≤ r.number → ⊥) → ⊥
last_exists {M = M} {E = E} g m zero q could l gone =
    gone q record { could = could; last = λ r c. let n = numbers g r c.receive.in_list in omega (arith, n.1, l, ap (count E) c.at_dest) } (omega arith)
last_exists {M = M} {E = E} g m (suc k) q could l gone =
    gone q record {
      could = could;
      last = λ r c. elim (cases_lt q.number r.number) [
        | inl above ↦ absurd (last_exists g m k r c (omega (arith, l, above)) (λ z i n. gone z i (omega (arith, n, above))))
        | inr below ↦ below
      ];
    } (omega arith)

-- one more event of a replay R that makes what E has
module _ (s : ℕ → Script) (law : (p : ℕ) → IsLawful (s p)) (T : Trace) (E R : List Event) (e' : Event) (run : IsRun s T.mask E) (trace : IsTraceOf E T) (rrun : IsRun s T.mask R) (part : IsPart R E) (fits : Fits s T.mask R e') (allowed : IsPermitted T R e') (room : count R e'.proc.no + 1 ≤ count E e'.proc.no) where
  abbrev M : ℕ
  M = T.mask

  abbrev p : ℕ
  p = e'.proc.no

  g : Sound M E
  g = runs_sound s law run

  r : Sound M R
  r = runs_sound s law rrun

  -- E's next entry of the process, and the entries before it
  record Recorded : Type 0 where
    e : Event
    in_list : Contains E e
    of_p : e.proc.no ≡ p
    next_number : e.number ≡ count R p + 1
    split : SplitAt (Fits s M) E e

  recorded : Recorded
  recorded =
      let a = entry_at g p (count R p + 1) (omega arith) room in
      record { e = a.0; in_list = a.1; of_p = a.2; next_number = a.3; split = split_at run a.0 a.1 }

  module _ (c : Recorded) where
    abbrev B : List Event
    B = c.split.before

    b : Sound M B
    b = runs_sound s law c.split.begins

    as_many : count R p ≡ count B p
    as_many = omega (arith, c.split.fits.next_number, c.next_number, ap (count B) c.of_p)

    -- its kind is by the same next of the script
    by_next : KindFits M B c.e ((s p).next (messages R p) (count R p))
    by_next =
        let i = messages_same r b g part (from_before c.split) p as_many in
        subst (KindFits M B c.e) (ap (λ q. (s q).next (messages B q) (count B q)) c.of_p ∙ ap₂ (s p).next (sym i) (sym as_many)) c.split.fits.next_kind

    module _ (set : ℕ) (m x : Message) (mt : MayTake M R p set m) (takes : Accepts E c.e set x.id) (differs : m.id ≡ x.id → ⊥) where
      sent : IsSent E m
      sent = sent_part part m mt.sent

      -- the recorded receive could have taken the letter
      could : CouldTake M E c.e m
      could = record {
        sent = sent;
        set = set;
        took = x.id;
        receive = takes;
        at_dest = c.of_p ∙ sym mt.to_it;
        in_set = mt.in_set;
        before_own = λ a t h.
            let of_p : a.proc.no ≡ p = sym (taker_is g a t m h sent) ∙ mt.to_it in
            elim (cases_lt c.e.number a.number) [
              | inl l ↦ l
              | inr l ↦ absurd (elim (cases_eq a.number c.e.number) [
                | inl n ↦ differs (accepted_parts t set m.id x.id (sym h.kind ∙ ap (λ z. z.kind) (same_place g a c.e h.in_list takes.in_list (of_p ∙ sym c.of_p) n) ∙ takes.kind)).1
                | inr n ↦ mt.waits (a, t, record { in_list = part_holds r g part a h.in_list (omega (arith, l, n, c.next_number, ap (count R) of_p)); kind = h.kind })
              ])
            ];
        in_order = λ ordered l hl before.
            let a = mt.sent.0 in
            let ae : Sends E a m = record { in_list = part a mt.sent.1.in_list; letter = mt.sent.1.letter } in
            let n = send_order g hl.0 a l m hl.1 ae before.sender before.earlier in
            let same = sender_same hl.1 ae before in
            let lr : IsSent R l = (hl.0, record { in_list = part_holds r g part hl.0 hl.1.in_list (omega (arith, n, (numbers r a mt.sent.1.in_list).1, ap (count R) same)); letter = hl.1.letter }) in
            let t = mt.in_order ordered l lr before in
            let of_p : t.0.proc.no ≡ p = sym (taker_is r t.0 t.1 l t.2 lr) ∙ before.dest ∙ mt.to_it in
            (t.0, t.1, accepts_part part t.0 t.1 l.id t.2, omega (arith, (numbers r t.0 t.2.in_list).1, c.next_number, ap (count R) of_p));
      }
        where
          sender_same : {a c : Event} {l : Message} → Sends E a l → Sends E c m → Precedes l m → a.proc.no ≡ c.proc.no
          sender_same ha hc k = sender_is ha ∙ k.sender ∙ sym (sender_is hc)

      -- so it would be logged
      logged : (IsLogged M E m → ⊥) → ⊥
      logged h = last_exists g m (count E m.dest.no) c.e could (omega arith) (λ q i l.
          let a = mt.sent.0 in
          let ae : Sends E a m = record { in_list = part a mt.sent.1.in_list; letter = mt.sent.1.letter } in
          h (
            q,
            i,
            (race_law g q a m i.could ae).1 (λ before.
                let k = numbers r q (part_before r g part q a before mt.sent.1.in_list) in
                omega (arith, k.1, l, c.next_number, ap (count R) (i.could.at_dest ∙ mt.to_it))),
          ))

      not_permitted : permits T p (receives R p) m.id ≡ true → ⊥
      not_permitted h = elim (permission E T p (receives R p) m.id h).how [
        | inl n ↦
            let at : receive_number E c.e ≡ receives R p = receive_at r g part c.e (c.next_number ∙ ap (λ q. count R q + 1) (sym c.of_p)) ∙ ap (receives R) c.of_p in
            differs (sym n.4 ∙ note_names g trace c.e set x.id takes n.0 n.1 (n.2 ∙ sym c.of_p) (n.3 ∙ sym at))
        | inr n ↦ logged (unnamed trace m n.1)
      ]

    -- the replay's event has the recorded kind
    same_kind : (n : Next) → KindFits M R e' n → KindFits M B c.e n → e'.kind ≡ c.e.kind
    same_kind (Goes kind) h k = h ∙ sym k
    same_kind (Wants set) h k =
        h.1 ∙ ap (Accepted set) (elim (cases_Bool (same_name h.0.id k.0.id)) [
          | inl t ↦ name_from h.0.id k.0.id t
          | inr f ↦ absurd (not_permitted set h.0 k.0 h.2 record { in_list = c.in_list; kind = k.1 } (λ e. false≢true (sym f ∙ same_name_at h.0.id k.0.id e)) (allowed.permitted set h.0.id h.1))
        ]) ∙ sym k.1
    same_kind Over h k = absurd h

    is_recorded : Contains E e'
    is_recorded = subst (Contains E) (event_same c.e e' c.of_p (c.next_number ∙ sym fits.next_number) (sym (same_kind ((s p).next (messages R p) (count R p)) fits.next_kind by_next))) c.in_list

  next_recorded : Contains E e'
  next_recorded = is_recorded recorded

-- each entry of a replay is an entry of the recorded run
pub replay_part : (s : ℕ → Script) → ((p : ℕ) → IsLawful (s p)) → (T : Trace) (E : List Event) → IsRun s T.mask E → IsTraceOf E T → {R : List Event} → IsRun s T.mask R → EachFits (IsPermitted T) R → ((p : ℕ) → count R p ≤ count E p) → IsPart R E
replay_part s law T E run trace none permitted within a h = absurd (nothing_in a h)
replay_part s law T E run trace (more {xs = R} {x = e} rrun fits) permitted within a h =
    let part = replay_part s law T E run trace rrun (front R e permitted) (λ p. omega (arith, within p, count_grows R e p)) in
    elim (Contains-push_cases R e a h) [
      | inl o ↦ part a o
      | inr w ↦ subst (Contains E) w (next_recorded s law T E R e run trace rrun part fits (last R e permitted) (omega (arith, within e.proc.no, count_here R e e.proc.no refl)))
    ]

pub replay_is_part : (s : ℕ → Script) → ((p : ℕ) → IsLawful (s p)) → (T : Trace) (E R : List Event) → IsRun s T.mask E → IsTraceOf E T → IsReplay s T R → IsPart R E
replay_is_part s law T E R run trace replay = replay_part s law T E run trace replay.run replay.permitted (λ p. omega (arith, replay.within p, trace.counts p))

-- under the trace of a run a replay agrees with it
pub replay_prefix : (s : ℕ → Script) → ((p : ℕ) → IsLawful (s p)) → (T : Trace) (E R : List Event) → IsRun s T.mask E → IsTraceOf E T → IsReplay s T R → Agrees E R × IsConsistent E (count R)
replay_prefix s law T E R run trace replay =
    let g = runs_sound s law run in
    let r = runs_sound s law replay.run in
    let part = replay_is_part s law T E R run trace replay in
    (prefix_part r g part, part_cut r g part)
