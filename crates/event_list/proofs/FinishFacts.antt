-- Finishing ends within n * (C + 1) turns, and under the trace of a run it reaches the recorded counts.
use Rattle.std.proofs.Common.{◌≡◌, ℕ, zero, suc, ◌+◌, ◌-◌, ◌*◌, ◌<◌, ◌≤◌, ◌%◌, Bool, true, false, cond, List, [], ◌∷◌, ◌++◌, length, Option, Some, None, refl, sym, ap, ◌∙◌, subst, inl, inr, arith}
use Rattle.std.specs.Prelude.{◌==◌, nat_le, slice_get}
use Rattle.std.proofs.lemmas.Bool.{cases_eq, cases_lt, eq-eqb, ne_eqb, leb-true, leb-false, le-leb, and_parts, or_cases, or_parts, or_left, or_right, cond-true, cond-false}
use Rattle.std.proofs.Math.Nat.{mul-le-mul_left}
use Rattle.nm_base.specs.declared.kind.Kind.TheVariants.{Accepted}
use Rattle.nm_base.specs.Message.{Message}
use Rattle.nm_base.specs.Scripts.{Script, Next, Goes, Wants, Over, IsLawful}
use Rattle.event_list.specs.declared.Event.{Event}
use Rattle.event_list.specs.Events.{count}
use Rattle.event_list.specs.Runs.{IsRun}
use Rattle.event_list.specs.Traces.{Trace, IsTraceOf, IsReplay}
use Rattle.event_list.specs.Turns.{Idle, IsOver, AtCount, NoLetter, Turned, Stays, Went, allowed, is_at_count, next_event, taking, by_next, go, after, Finishing, all_below, sum_below, all_reached, is_finished, next_of, finish_by, finish_turn, finish_within, to_finish, enough_turns, finish_of}
use Rattle.event_list.proofs.Entries.{count_here, count_there}
use Rattle.event_list.proofs.Soundness.{entry_at}
use Rattle.event_list.proofs.RunsSound.{runs_sound}
use Rattle.event_list.proofs.TurnFacts.{turn_replays, stays_went, went_same}
use Rattle.event_list.proofs.Progress.{progress}

-- an event comes of the turn's process, which was below its count
pub record Came (T : Trace) (R : List Event) (p : ℕ) (e : Event) : Type 0 where
  pub of_p : e.proc.no ≡ p
  pub room : count R p < T.counts p

pub came : (M : ℕ) (T : Trace) (R : List Event) (p pick : ℕ) (e : Event) (n : Next) → by_next M (Some T) R p pick n ≡ Went e → Came T R p e
came M T R p pick e Over h = absurd (stays_went IsOver e h)
came M T R p pick e (Goes kind) h = here (is_at_count (Some T) R p) refl h
  where
    here : (b : Bool) → is_at_count (Some T) R p ≡ b → cond b (Stays AtCount) (Went (next_event R p kind)) ≡ Went e → Came T R p e
    here true c h = absurd (stays_went AtCount e h)
    here false c h = record { of_p = ap (λ x. x.proc.no) (sym (went_same (next_event R p kind) e h)); room = leb-false (T.counts p) (count R p) c }
came M T R p pick e (Wants set) h = here (is_at_count (Some T) R p) refl h
  where
    found : (o : Option Message) → is_at_count (Some T) R p ≡ false → taking R p set o ≡ Went e → Came T R p e
    found None c h = absurd (stays_went NoLetter e h)
    found (Some m) c h = record { of_p = ap (λ x. x.proc.no) (sym (went_same (next_event R p (Accepted set m.id)) e h)); room = leb-false (T.counts p) (count R p) c }

    here : (b : Bool) → is_at_count (Some T) R p ≡ b → cond b (Stays AtCount) (taking R p set (slice_get (allowed M (Some T) R p set) (pick % length (allowed M (Some T) R p set)))) ≡ Went e → Came T R p e
    here true c h = absurd (stays_went AtCount e h)
    here false c h = found (slice_get (allowed M (Some T) R p set) (pick % length (allowed M (Some T) R p set))) c h

not_both : (w : Turned) (why : Idle) (e : Event) → w ≡ Stays why → w ≡ Went e → ⊥
not_both w why e h k = cc

-- sums of equal parts, and of parts of which one is less
pub sum_same : (n : ℕ) (f h : ℕ → ℕ) → ((q : ℕ) → q < n → h q ≡ f q) → sum_below n h ≡ sum_below n f
sum_same zero f h e = refl
sum_same (suc n) f h e = omega (arith, e n (omega arith), sum_same n f h (λ q l. e q (omega (arith, l))))

pub sum_less : (n p : ℕ) (f h : ℕ → ℕ) → p < n → h p + 1 ≡ f p → ((q : ℕ) → (q ≡ p → ⊥) → h q ≡ f q) → sum_below n h + 1 ≡ sum_below n f
sum_less zero p f h l e k = absurd (omega (arith, l))
sum_less (suc n) p f h l e k = elim (cases_eq p n) [
  | inl at ↦ let s = sum_same n f h (λ q b. k q (λ z. omega (arith, b, z, at))) in omega (arith, s, e, ap f at, ap h at)
  | inr ne ↦ omega (arith, sum_less n p f h (omega (arith, l, ne)) e k, k n (λ z. ne (sym z)))
]

next_below : (n p : ℕ) → p < n → next_of n p < n
next_below n p l = elim (cases_eq (p + 1) n) [
  | inl e ↦ rw (cond-true (p + 1 == n) 0 (p + 1) (eq-eqb (p + 1) n e)) (omega (arith, l))
  | inr e ↦ rw (cond-false (p + 1 == n) 0 (p + 1) (ne_eqb (p + 1) n e)) (omega (arith, l, e))
]

-- how many recorded events are missing
missing : Trace → List Event → ℕ
missing T R = sum_below T.n (λ p. T.counts p - count R p)

missing_less : (T : Trace) (R : List Event) (p : ℕ) (e : Event) → p < T.n → Came T R p e → missing T (R ++ e ∷ []) + 1 ≡ missing T R
unfolding missing
missing_less T R p e l h =
    sum_less T.n p (λ p. T.counts p - count R p) (λ p. T.counts p - count (R ++ e ∷ []) p) l
    (omega (arith, count_here R e p h.of_p, h.room))
    (λ q d. ap (λ n. T.counts q - n) (count_there R e q (λ z. d (sym z ∙ h.of_p))))

module _ (s : ℕ → Script) (T : Trace) where
  -- finishing goes on no longer than this
  left : Finishing → ℕ
  left f = T.n * missing T f.events + (T.n - f.idle_now)

  finished_stays : (k : ℕ) (f : Finishing) → is_finished T f ≡ true → finish_within k s T f ≡ f
  finished_stays zero f h = refl
  finished_stays (suc k) f h = cond-true (is_finished T f) f (finish_within k s T (finish_turn s T f)) h

  next_stays : (f : Finishing) (w : Turned) → (finish_by T f w).next ≡ next_of T.n f.next
  next_stays f (Stays why) = refl
  next_stays f (Went e) = refl

  turn_less : (f : Finishing) → f.next < T.n → f.idle_now < T.n → left (finish_turn s T f) < left f
  unfolding left
  turn_less f l i = by (go s T.mask (Some T) f.events (record { proc = f.next; pick = 0 })) refl
    where
      by : (w : Turned) → go s T.mask (Some T) f.events (record { proc = f.next; pick = 0 }) ≡ w → T.n * missing T (finish_by T f w).events + (T.n - (finish_by T f w).idle_now) < T.n * missing T f.events + (T.n - f.idle_now)
      by (Stays why) h = omega (arith, i)
      by (Went e) h =
          let m = missing_less T f.events f.next e l (came T.mask T f.events f.next 0 e _ h) in
          let t : T.n * missing T f.events ≡ T.n * (missing T (f.events ++ e ∷ []) + 1) = ap (λ d. T.n * d) (sym m) in
          omega (arith, i, t)

  ends : (k : ℕ) (f : Finishing) → f.next < T.n → left f ≤ k → is_finished T (finish_within k s T f) ≡ true
  unfolding left
  ends zero f l h = or_right (all_reached T f.events) (nat_le T.n f.idle_now) (le-leb T.n f.idle_now (omega (arith, h)))
  ends (suc k) f l h = by (is_finished T f) refl (ends k (finish_turn s T f))
    where
      by : (b : Bool) → is_finished T f ≡ b → ((finish_turn s T f).next < T.n → left (finish_turn s T f) ≤ k → is_finished T (finish_within k s T (finish_turn s T f)) ≡ true) → is_finished T (cond b f (finish_within k s T (finish_turn s T f))) ≡ true
      by true e on = e
      by false e on =
          let i : f.idle_now < T.n = leb-false T.n f.idle_now (or_parts (all_reached T f.events) (nat_le T.n f.idle_now) e).1 in
          let n = next_stays f (go s T.mask (Some T) f.events (record { proc = f.next; pick = 0 })) in
          on (subst (λ q. q < T.n) (sym n) (next_below T.n f.next l)) (let d : left (finish_turn s T f) < left f = turn_less f l i in omega (arith, d, h))

  -- finishing has ended, after no more turns than that
  pub finish_ends : (R : List Event) → is_finished T (finish_of s T R) ≡ true
  unfolding left missing
  finish_ends R = elim (cases_eq T.n 0) [
    | inl z ↦ let d : is_finished T (to_finish R) ≡ true = or_left (all_reached T R) (nat_le T.n 0) (ap (λ n. all_below n (λ p. nat_le (T.counts p) (count R p))) z) in
        ap (is_finished T) (finished_stays (enough_turns T) (to_finish R) d) ∙ d
    | inr nz ↦ ends (enough_turns T) (to_finish R) (omega (arith, nz)) (let m = mul-le-mul_left T.n (sum_most T.n) in omega (arith, m))
  ]
    where
      sum_most : (n : ℕ) → sum_below n (λ p. T.counts p - count R p) ≤ sum_below n T.counts
      sum_most zero = omega arith
      sum_most (suc n) = omega (arith, sum_most n)

  pub turns_within : (k : ℕ) (f : Finishing) → (finish_within k s T f).turns ≤ f.turns + k
  turns_within zero f = omega arith
  turns_within (suc k) f = by (is_finished T f) (turns_within k (finish_turn s T f))
    where
      one_more : (w : Turned) → (finish_by T f w).turns ≡ f.turns + 1
      one_more (Stays why) = refl
      one_more (Went e) = refl

      by : (b : Bool) → (finish_within k s T (finish_turn s T f)).turns ≤ (finish_turn s T f).turns + k → (cond b f (finish_within k s T (finish_turn s T f))).turns ≤ f.turns + suc k
      by true on = omega arith
      by false on = omega (arith, on, one_more (go s T.mask (Some T) f.events (record { proc = f.next; pick = 0 })))

  -- the processes that had the last idle turns cannot go
  record IdleKnown (f : Finishing) : Type 0 where
    before : (q : ℕ) → q < f.next → f.next ≤ q + f.idle_now → (why : Idle) × (go s T.mask (Some T) f.events (record { proc = q; pick = 0 }) ≡ Stays why)
    from : (q : ℕ) → q < T.n → f.next ≤ q → f.next + T.n ≤ q + f.idle_now → (why : Idle) × (go s T.mask (Some T) f.events (record { proc = q; pick = 0 }) ≡ Stays why)

  idle_known : (f : Finishing) → f.next < T.n → IdleKnown f → (w : Turned) → go s T.mask (Some T) f.events (record { proc = f.next; pick = 0 }) ≡ w → IdleKnown (finish_by T f w)
  idle_known f l k (Went e) h = record { before = λ q a b. absurd (omega (arith, a, b)); from = λ q a b c. absurd (omega (arith, a, b, c)) }
  idle_known f l k (Stays why) h = elim (cases_eq (f.next + 1) T.n) [
    | inl at ↦ let z = cond-true (f.next + 1 == T.n) 0 (f.next + 1) (eq-eqb (f.next + 1) T.n at) in record {
      before = λ q a b. absurd (omega (arith, a, z));
      from = λ q a b c. elim (cases_eq q f.next) [
        | inl e ↦ (why, ap (λ q. go s T.mask (Some T) f.events (record { proc = q; pick = 0 })) e ∙ h)
        | inr e ↦ k.before q (omega (arith, a, at, e)) (omega (arith, c, z, at))
      ];
    }
    | inr off ↦ let z = cond-false (f.next + 1 == T.n) 0 (f.next + 1) (ne_eqb (f.next + 1) T.n off) in record {
      before = λ q a b. elim (cases_eq q f.next) [
        | inl e ↦ (why, ap (λ q. go s T.mask (Some T) f.events (record { proc = q; pick = 0 })) e ∙ h)
        | inr e ↦ k.before q (omega (arith, a, z, e)) (omega (arith, b, z))
      ];
      from = λ q a b c. k.from q a (omega (arith, b, z)) (omega (arith, c, z));
    }
  ]

  module _ (law : (p : ℕ) → IsLawful (s p)) where
    -- what finishing keeps
    record Kept (f : Finishing) : Type 0 where
      replay : IsReplay s T f.events
      below : f.next < T.n
      known : IdleKnown f

    same_events : (f : Finishing) (w : Turned) → (finish_by T f w).events ≡ after f.events w
    same_events f (Stays why) = refl
    same_events f (Went e) = refl

    kept_turn : (f : Finishing) → Kept f → Kept (finish_turn s T f)
    kept_turn f k =
        let w = go s T.mask (Some T) f.events (record { proc = f.next; pick = 0 }) in
        record {
          replay = subst (IsReplay s T) (sym (same_events f w)) (turn_replays s law T f.events (record { proc = f.next; pick = 0 }) k.replay);
          below = subst (λ q. q < T.n) (sym (next_stays f w)) (next_below T.n f.next k.below);
          known = idle_known f k.below k.known w refl;
        }

    kept_within : (k : ℕ) (f : Finishing) → Kept f → Kept (finish_within k s T f)
    kept_within zero f h = h
    kept_within (suc k) f h = by (is_finished T f) (kept_within k (finish_turn s T f) (kept_turn f h))
      where
        by : (b : Bool) → Kept (finish_within k s T (finish_turn s T f)) → Kept (cond b f (finish_within k s T (finish_turn s T f)))
        by true on = h
        by false on = on

    kept_start : (R : List Event) → 0 < T.n → IsReplay s T R → Kept (to_finish R)
    kept_start R l h = record { replay = h; below = l; known = record { before = λ q a b. absurd (omega (arith, a)); from = λ q a b c. absurd (omega (arith, a, c)) } }

    -- finishing a replay gives a replay
    pub finish_replays : (R : List Event) → IsReplay s T R → IsReplay s T (finish_of s T R).events
    finish_replays R h = elim (cases_eq T.n 0) [
      | inl z ↦ let d : is_finished T (to_finish R) ≡ true = or_left (all_reached T R) (nat_le T.n 0) (ap (λ n. all_below n (λ p. nat_le (T.counts p) (count R p))) z) in
          subst (λ f. IsReplay s T f.events) (sym (finished_stays (enough_turns T) (to_finish R) d)) h
      | inr nz ↦ (kept_within (enough_turns T) (to_finish R) (kept_start R (omega (arith, nz)) h)).replay
    ]

    below_test : (n : ℕ) (test : ℕ → Bool) (p : ℕ) → all_below n test ≡ true → p < n → test p ≡ true
    below_test zero test p h l = absurd (omega (arith, l))
    below_test (suc n) test p h l = elim (cases_eq p n) [
      | inl e ↦ ap test e ∙ (and_parts _ _ h).0
      | inr e ↦ below_test n test p (and_parts _ _ h).1 (omega (arith, l, e))
    ]

    -- under the trace of a run it reaches the recorded counts
    pub finish_reaches : (E R : List Event) → IsRun s T.mask E → IsTraceOf E T → IsReplay s T R → (p : ℕ) → count (finish_of s T R).events p ≡ T.counts p
    finish_reaches E R run trace h p =
        elim (cases_lt (count (finish_of s T R).events p) (T.counts p)) [
          | inl l ↦ absurd (stuck l)
          | inr l ↦ omega (arith, l, (finish_replays R h).within p)
        ]
      where
        f : Finishing
        f = finish_of s T R

        stuck : count (finish_of s T R).events p < T.counts p → ⊥
        stuck l =
            let a = entry_at (runs_sound s law run) p (count E p) (omega (arith, l, trace.counts p)) (omega arith) in
            let n = trace.processes a.0 a.1 in
            let k = kept_within (enough_turns T) (to_finish R) (kept_start R (omega (arith, n)) h) in
            elim (or_cases (all_reached T (finish_of s T R).events) (nat_le T.n (finish_of s T R).idle_now) (finish_ends R)) [
              | inl all ↦ omega (arith, leb-true (T.counts p) (count (finish_of s T R).events p) (below_test T.n (λ p. nat_le (T.counts p) (count (finish_of s T R).events p)) p all (omega (arith, n, a.2))), l)
              | inr idle ↦
                  let c = progress s law T E (finish_of s T R).events run trace k.replay p l in
                  let i = leb-true T.n (finish_of s T R).idle_now idle in
                  let w = c.goes 0 in
                  elim (cases_lt c.proc (finish_of s T R).next) [
                    | inl b ↦ let z = k.known.before c.proc b (omega (arith, i, k.below)) in not_both _ z.0 w.0 z.1 w.1
                    | inr b ↦ let z = k.known.from c.proc c.below b (omega (arith, i, b)) in not_both _ z.0 w.0 z.1 w.1
                  ]
            ]

pub finish_turns : (s : ℕ → Script) (T : Trace) (R : List Event) → (finish_of s T R).turns ≤ enough_turns T
finish_turns s T R = let h = turns_within s T (enough_turns T) (to_finish R) in omega (arith, h)
