-- Fewer ordered channels allow more.
use Rattle.std.proofs.Common.{◌≡◌, ℕ, ◌<◌, true, List, inl, inr, arith}
use Rattle.std.proofs.lemmas.Bool.{eqb-true, cases_lt}
use Rattle.std.proofs.lemmas.Nat.Bits.{bit_at-zero}
use Rattle.std.specs.Int.{bit_at}
use Rattle.nm_base.specs.Fitting.{none, more}
use Rattle.nm_base.specs.Message.{Message}
use Rattle.nm_base.specs.Channels.{has_channel}
use Rattle.nm_base.specs.Scripts.{Script, Next, Goes, Wants, Over}
use Rattle.event_list.specs.declared.Event.{Event}
use Rattle.event_list.specs.Events.{count, messages}
use Rattle.event_list.specs.Races.{CouldTake, IsLogged}
use Rattle.event_list.specs.Laws.{IsFewer}
use Rattle.event_list.specs.Runs.{MayTake, KindFits, IsRun, Sound}

may_take_fewer : {M N : ℕ} → IsFewer N M → {E : List Event} {p set : ℕ} {m : Message} → MayTake M E p set m → MayTake N E p set m
may_take_fewer fewer {m = m} t = record { sent = t.sent; to_it = t.to_it; in_set = t.in_set; waits = t.waits; in_order = λ o. t.in_order (fewer m.chan o) }

pub sound_fewer : {M N : ℕ} → IsFewer N M → {E : List Event} → Sound M E → Sound N E
sound_fewer fewer none = none
sound_fewer fewer (more g f) = more (sound_fewer fewer g) record {
  next_number = f.next_number;
  sends_next = f.sends_next;
  takes = λ set id h. let t = f.takes set id h in (t.0, t.1, may_take_fewer fewer t.2);
  goes_on = f.goes_on;
}

kind_fewer : (M N : ℕ) → IsFewer N M → (E : List Event) (e : Event) (n : Next) → KindFits M E e n → KindFits N E e n
kind_fewer M N fewer E e (Goes kind) h = h
kind_fewer M N fewer E e (Wants set) h = (h.0, h.1, may_take_fewer fewer h.2)
kind_fewer M N fewer E e Over h = h

pub run_fewer : (s : ℕ → Script) {M N : ℕ} → IsFewer N M → {E : List Event} → IsRun s M E → IsRun s N E
run_fewer s fewer none = none
run_fewer s {M = M} {N = N} fewer (more {xs = E} {x = e} run f) =
    more (run_fewer s fewer run) record { next_number = f.next_number; next_kind = kind_fewer M N fewer E e ((s e.proc.no).next (messages E e.proc.no) (count E e.proc.no)) f.next_kind }

-- without a mask no channel is ordered
pub none_ordered : (chan : ℕ) → has_channel 0 chan ≡ true → ⊥
unfolding has_channel
none_ordered chan h = omega (arith, eqb-true (bit_at 0 chan) 1 h, bit_at-zero chan)

-- what could take a letter under a mask, could under each with fewer ordered channels
could_fewer : {M N : ℕ} → IsFewer N M → {E : List Event} {q : Event} {m : Message} → CouldTake M E q m → CouldTake N E q m
could_fewer fewer {m = m} c = record {
  sent = c.sent;
  set = c.set;
  took = c.took;
  receive = c.receive;
  at_dest = c.at_dest;
  in_set = c.in_set;
  before_own = c.before_own;
  in_order = λ o. c.in_order (fewer m.chan o);
}

-- and a letter that is logged under the mask is logged under those
pub logged_fewer : (M N : ℕ) → IsFewer N M → (E : List Event) (m : Message) → IsLogged M E m → IsLogged N E m
logged_fewer M N fewer E m l = (
  l.0,
  record {
    could = could_fewer fewer l.1.could;
    last = λ r c. elim (cases_lt l.0.number r.number) [
      | inl later ↦ l.1.last r (behind r c later)
      | inr k ↦ k
    ];
  },
  record {
    could = could_fewer fewer l.2.could;
    cut = l.2.cut;
    consistent = l.2.consistent;
    send = l.2.send;
    sends = l.2.sends;
    holds_send = l.2.holds_send;
    up_to = l.2.up_to;
  },
)
  where
    -- each predecessor was received before the last receive, and so before a later one
    behind : (r : Event) → CouldTake N E r m → l.0.number < r.number → CouldTake M E r m
    behind r c later = record {
      sent = c.sent;
      set = c.set;
      took = c.took;
      receive = c.receive;
      at_dest = c.at_dest;
      in_set = c.in_set;
      before_own = c.before_own;
      in_order = λ o x s k. let a = l.1.could.in_order o x s k in (a.0, a.1, a.2, omega (arith, a.3, later));
    }
