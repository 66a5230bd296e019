-- A step: turns that were idle, and one that made an event.
use Rattle.std.proofs.Common.{◌≡◌, ℕ, zero, suc, ◌+◌, ◌%◌, ◌<◌, ◌≤◌, true, false, List, length, map, Some, None, refl, sym, ap, ◌∙◌, subst, inl, inr, arith}
use Rattle.std.specs.List.{range_with_len}
use Rattle.std.proofs.lemmas.Bool.{cases_eq, cond-true, cond-false}
use Rattle.nm_base.specs.Scripts.{Script}
use Rattle.processes.specs.Standing.{Standing}
use Rattle.event_list.specs.declared.Event.{Event}
use Rattle.event_list.specs.Traces.{Trace}
use Rattle.event_list.specs.Turns.{Idle, Stays, Went, all_reached, after}
use Rattle.event_list.specs.Turns as turns
use Rattle.nm_base.specs.declared.letter.Letter.{Letter}
use Rattle.std.specs.Prelude.{Option}
use Rattle.world.specs.declared.world.Idle.{Idle as WhyIdle}
use Rattle.world.specs.declared.world.Turned.{Turned as Outcome}
use Rattle.world.specs.declared.world.Turned.TheVariants as outcomes
use Rattle.world.specs.Outcomes.{outcome, reason}
use Rattle.replay_core.specs.Replaying.{Replaying, IsReplayOf, IsSameRun, HasGone}
use Rattle.replay_core.specs.Stepping.{turned_by, first_event, event_or, round_from, next_in_turn, HasStepped}
use Rattle.replay_core.specs.private.Steps.{HasIdled}
use Rattle.replay_core.proofs.ReplayLaws.{same_run, same_runs}

module _ (s : ℕ → Script) (T : Trace) (R : List Event) (f : ℕ → ℕ) where
  -- these turns are idle
  abbrev Idles : ℕ → ℕ → Type 0
  Idles low high = (j : ℕ) → low ≤ j → j < high → (why : Idle) × (turned_by s T R (f j) ≡ Stays why)

  none_goes : (low len : ℕ) → Idles low (low + len) → first_event s T R (map f (range_with_len low len)) ≡ None
  none_goes low zero h = refl
  none_goes low (suc len) h =
      ap (λ t. event_or t (first_event s T R (map f (range_with_len (low + 1) len)))) (h low (omega arith) (omega arith)).1
      ∙ none_goes (low + 1) len (λ j l u. h j (omega (arith, l)) (omega (arith, u)))

  one_goes : (low len i : ℕ) (e : Event) → low ≤ i → i < low + len → Idles low i → turned_by s T R (f i) ≡ Went e
      → first_event s T R (map f (range_with_len low len)) ≡ Some e
  one_goes low zero i e l u h is = absurd (omega (arith, l, u))
  one_goes low (suc len) i e l u h is = elim (cases_eq i low) [
    | inl z ↦ ap (λ t. event_or t (first_event s T R (map f (range_with_len (low + 1) len)))) (ap (λ j. turned_by s T R (f j)) (sym z) ∙ is)
    | inr z ↦
        ap (λ t. event_or t (first_event s T R (map f (range_with_len (low + 1) len)))) (h low (omega arith) (omega (arith, l, z))).1
        ∙ one_goes (low + 1) len i e (omega (arith, l, z)) (omega (arith, u)) (λ j m v. h j (omega (arith, m)) v) is
  ]

module _ {P M O : Type 0} (stands_for : P → Standing) (origin_of : P → O) where
  -- before the first turn
  pub none_idled : (r : Replaying P M) (first : ℕ) → HasIdled stands_for origin_of r r first 0
  none_idled r first = record {
    stands = λ s T R h. h;
    same = same_run origin_of r;
    idle = λ s T R h j l. absurd (omega (arith, l));
  }

  module _ (old r : Replaying P M) (first i n : ℕ) (h : HasIdled stands_for origin_of old r first i) (size : n ≡ length old.world.processes) where
    -- the number of processes is that of the trace
    many : (s : ℕ → Script) (T : Trace) (R : List Event) → IsReplayOf stands_for old s T R → n ≡ T.n
    many s T R k = size ∙ k.size

    turn_at : (v : Replaying P M) (what : Outcome) (pick : ℕ) → pick ≡ 0
        → ((s : ℕ → Script) (T : Trace) (R : List Event) → IsReplayOf stands_for r s T R → HasGone stands_for v s T R (record { proc = (first + i) % n; pick = pick }) what)
        → (s : ℕ → Script) (T : Trace) (R : List Event) → IsReplayOf stands_for old s T R → turned_by s T R ((first + i) % T.n) ≡ outcome what
    turn_at v what pick is gone s T R k =
        ap (λ m. turned_by s T R ((first + i) % m)) (sym (many s T R k))
        ∙ ap (λ z. turns.go s T.mask (Some T) R (record { proc = (first + i) % n; pick = z })) (sym is)
        ∙ (gone s T R (h.stands s T R k)).is

    -- one more turn was idle
    pub idled_again : (v : Replaying P M) (why : WhyIdle) (what : Outcome) → what ≡ outcomes.Idle why
        → ((s : ℕ → Script) (T : Trace) (R : List Event) → IsReplayOf stands_for r s T R → HasGone stands_for v s T R (record { proc = (first + i) % n; pick = 0 }) what)
        → IsSameRun origin_of r v → HasIdled stands_for origin_of old v first (i + 1)
    idled_again v why what is gone same = record {
      stands = λ s T R k. subst (λ w. IsReplayOf stands_for v s T (after R (outcome w))) is (gone s T R (h.stands s T R k)).stands;
      same = same_runs origin_of old r v h.same same;
      idle = λ s T R k j l. elim (cases_eq j i) [
        | inl z ↦ (reason why, ap (λ m. turned_by s T R ((first + m) % T.n)) z ∙ turn_at v what 0 refl gone s T R k ∙ ap outcome is)
        | inr z ↦ h.idle s T R k j (omega (arith, l, z))
      ];
    }

    -- the turn made an event
    pub stepped : (v : Replaying P M) (e : Event) (letter : Option Letter) (what : Outcome) → what ≡ outcomes.Went e letter → i < n
        → ((s : ℕ → Script) (T : Trace) (R : List Event) → IsReplayOf stands_for old s T R → first ≡ next_in_turn T.n R)
        → ((s : ℕ → Script) (T : Trace) (R : List Event) → IsReplayOf stands_for old s T R → all_reached T R ≡ false)
        → ((s : ℕ → Script) (T : Trace) (R : List Event) → IsReplayOf stands_for r s T R → HasGone stands_for v s T R (record { proc = (first + i) % n; pick = 0 }) what)
        → (s : ℕ → Script) (T : Trace) (R : List Event) → IsReplayOf stands_for old s T R → HasStepped stands_for v s T R (Some e)
    stepped v e letter what is l from open_ gone s T R k = record {
      is =
          cond-false (all_reached T R) None (first_event s T R (round_from T.n (next_in_turn T.n R))) (open_ s T R k)
          ∙ ap (λ m. first_event s T R (round_from T.n m)) (sym (from s T R k))
          ∙ one_goes s T R (λ j. (first + j) % T.n) 0 T.n i e (omega arith) (omega (arith, l, many s T R k)) (λ j m u. h.idle s T R k j u)
          (turn_at v what 0 refl gone s T R k ∙ ap outcome is);
      stands = subst (λ w. IsReplayOf stands_for v s T (after R (outcome w))) is (gone s T R (h.stands s T R k)).stands;
    }

    -- no turn made one
    pub none_stepped : n ≤ i
        → ((s : ℕ → Script) (T : Trace) (R : List Event) → IsReplayOf stands_for old s T R → first ≡ next_in_turn T.n R)
        → ((s : ℕ → Script) (T : Trace) (R : List Event) → IsReplayOf stands_for old s T R → all_reached T R ≡ false)
        → (s : ℕ → Script) (T : Trace) (R : List Event) → IsReplayOf stands_for old s T R → HasStepped stands_for r s T R None
    none_stepped l from open_ s T R k = record {
      is =
          cond-false (all_reached T R) None (first_event s T R (round_from T.n (next_in_turn T.n R))) (open_ s T R k)
          ∙ ap (λ m. first_event s T R (round_from T.n m)) (sym (from s T R k))
          ∙ none_goes s T R (λ j. (first + j) % T.n) 0 T.n (λ j m u. h.idle s T R k j (omega (arith, l, u, many s T R k)));
      stands = h.stands s T R k;
    }

  -- all counts were reached before
  pub complete_stepped : (r : Replaying P M) → ((s : ℕ → Script) (T : Trace) (R : List Event) → IsReplayOf stands_for r s T R → all_reached T R ≡ true)
      → (s : ℕ → Script) (T : Trace) (R : List Event) → IsReplayOf stands_for r s T R → HasStepped stands_for r s T R None
  complete_stepped r reached s T R k = record {
    is = cond-true (all_reached T R) None (first_event s T R (round_from T.n (next_in_turn T.n R))) (reached s T R k);
    stands = k;
  }
