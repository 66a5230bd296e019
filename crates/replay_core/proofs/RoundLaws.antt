-- Finishing, turn by turn.
use Rattle.std.proofs.Common.{◌≡◌, ℕ, zero, suc, ◌+◌, ◌-◌, ◌<◌, ◌≤◌, Bool, true, false, ◌||◌, List, length, Some, refl, sym, ap, ◌∙◌, subst, arith, true≢false, add-one, get_or}
use Rattle.std.specs.Prelude.{nat_le}
use Rattle.std.proofs.lemmas.Bool.{cond-true, cond-false, leb-true, le-leb, lt-leb, or_parts}
use Rattle.nm_base.specs.Scripts.{Script}
use Rattle.processes.specs.Standing.{Standing}
use Rattle.event_list.specs.declared.Event.{Event}
use Rattle.event_list.specs.Events.{count}
use Rattle.event_list.specs.Traces.{Trace, IsReplay}
use Rattle.event_list.specs.Turns as turns
use Rattle.event_list.specs.Turns.{Turned, Stays, Went, go, after, Finishing, is_finished, all_reached, finish_by, finish_turn, finish_within, to_finish, enough_turns, finish_of}
use Rattle.event_list.specs.Laws.{IsRecorded}
use Rattle.event_list.proofs.FinishFacts.{finish_ends, finish_turns, finish_reaches}
use Rattle.world.specs.Outcomes.{outcome, reason}
use Rattle.world.specs.declared.world.Turned as outcomes
use Rattle.world.specs.declared.world.Turned.TheVariants as kinds
use Rattle.world.specs.declared.world.Idle.{Idle as WhyIdle}
use Rattle.replay_core.specs.declared.round.Round.{Round}
use Rattle.replay_core.specs.Replaying.{Replaying, IsReplayOf, IsSameRun, HasGone, HasFinished, IsStuck}
use Rattle.replay_core.specs.declared.finish.Finished.{Finished}
use Rattle.replay_core.proofs.ReplayLaws.{same_run, same_runs, all_from}
use Rattle.replay_core.proofs.SleepLaws.{still_asleep, none_asleep}
use Rattle.replay_core.specs.private.Rounds.{IsRoundOf, HasRounded, SleptTo, HasSlept, AfterRounds}
use Rattle.replay_core.specs.private.Sleeping.{has_mark, AreAsleep, StaysAsleep}

zero_more : (d : ℕ) → 0 + d ≡ d
zero_more d = omega arith

one_more : (k d : ℕ) → suc k + d ≡ suc (k + d)
one_more k d = omega arith

module _ (s : ℕ → Script) (T : Trace) where
  stays : (k : ℕ) (f : Finishing) → is_finished T f ≡ true → finish_within k s T f ≡ f
  stays zero f h = refl
  stays (suc k) f h = cond-true (is_finished T f) f (finish_within k s T (finish_turn s T f)) h

  -- one turn more
  goes_on : (k : ℕ) (f : Finishing) → is_finished T (finish_within k s T f) ≡ false → finish_within (suc k) s T f ≡ finish_turn s T (finish_within k s T f)
  goes_on zero f h = cond-false (is_finished T f) f (finish_turn s T f) h
  goes_on (suc k) f h = by (is_finished T f) refl (goes_on k (finish_turn s T f))
    where
      by : (b : Bool) → is_finished T f ≡ b
          → (is_finished T (finish_within k s T (finish_turn s T f)) ≡ false → finish_within (suc k) s T (finish_turn s T f) ≡ finish_turn s T (finish_within k s T (finish_turn s T f)))
          → finish_within (suc (suc k)) s T f ≡ finish_turn s T (finish_within (suc k) s T f)
      by true e more = absurd (true≢false (sym e ∙ ap (is_finished T) (sym (stays (suc k) f e)) ∙ h))
      by false e more =
          let one : finish_within (suc k) s T f ≡ finish_within k s T (finish_turn s T f) = cond-false (is_finished T f) f (finish_within k s T (finish_turn s T f)) e in
          cond-false (is_finished T f) f (finish_within (suc k) s T (finish_turn s T f)) e
          ∙ more (ap (is_finished T) (sym one) ∙ h) ∙ ap (finish_turn s T) (sym one)

  -- what has ended stays
  ended : (k d : ℕ) (f : Finishing) → is_finished T (finish_within k s T f) ≡ true → finish_within (k + d) s T f ≡ finish_within k s T f
  ended zero d f h = ap (λ n. finish_within n s T f) (zero_more d) ∙ stays d f h
  ended (suc k) d f h = ap (λ n. finish_within n s T f) (one_more k d) ∙ by (is_finished T f) refl (ended k d (finish_turn s T f))
    where
      by : (b : Bool) → is_finished T f ≡ b
          → (is_finished T (finish_within k s T (finish_turn s T f)) ≡ true → finish_within (k + d) s T (finish_turn s T f) ≡ finish_within k s T (finish_turn s T f))
          → finish_within (suc (k + d)) s T f ≡ finish_within (suc k) s T f
      by true e more = stays (suc (k + d)) f e ∙ sym (stays (suc k) f e)
      by false e more =
          let one : finish_within (suc k) s T f ≡ finish_within k s T (finish_turn s T f) = cond-false (is_finished T f) f (finish_within k s T (finish_turn s T f)) e in
          cond-false (is_finished T f) f (finish_within (k + d) s T (finish_turn s T f)) e
          ∙ more (ap (is_finished T) (sym one) ∙ h) ∙ sym one

  -- some turns, and then others
  joined : (k d : ℕ) (f : Finishing) → finish_within (k + d) s T f ≡ finish_within d s T (finish_within k s T f)
  joined zero d f = ap (λ n. finish_within n s T f) (zero_more d)
  joined (suc k) d f = ap (λ n. finish_within n s T f) (one_more k d) ∙ by (is_finished T f) refl (joined k d (finish_turn s T f))
    where
      by : (b : Bool) → is_finished T f ≡ b → finish_within (k + d) s T (finish_turn s T f) ≡ finish_within d s T (finish_within k s T (finish_turn s T f))
          → finish_within (suc (k + d)) s T f ≡ finish_within d s T (finish_within (suc k) s T f)
      by true e more = stays (suc (k + d)) f e ∙ sym (stays d f e) ∙ ap (finish_within d s T) (sym (stays (suc k) f e))
      by false e more =
          let one : finish_within (suc k) s T f ≡ finish_within k s T (finish_turn s T f) = cond-false (is_finished T f) f (finish_within k s T (finish_turn s T f)) e in
          cond-false (is_finished T f) f (finish_within (k + d) s T (finish_turn s T f)) e ∙ more ∙ ap (finish_within d s T) (sym one)

  -- one turn more, which does this
  turned_so : (k : ℕ) (f : Finishing) (w : Turned) → is_finished T (finish_within k s T f) ≡ false
      → go s T.mask (Some T) (finish_within k s T f).events (record { proc = (finish_within k s T f).next; pick = 0 }) ≡ w
      → finish_within (k + 1) s T f ≡ finish_by T (finish_within k s T f) w
  turned_so k f w fin is = ap (λ m. finish_within m s T f) (add-one k) ∙ goes_on k f fin ∙ ap (finish_by T (finish_within k s T f)) is

  -- one turn more, of a marked process
  slept_one : (f : Finishing) (marks : List Bool) → all_reached T f.events ≡ false → AreAsleep marks s T f.events
      → (old new : Round) (k : ℕ) → SleptTo old s T f k → old.idle_now < T.n → has_mark marks old.next ≡ true
      → ((g : Finishing) (why : turns.Idle) → IsRoundOf old g → IsRoundOf new (finish_by T g (Stays why))) → SleptTo new s T f (k + 1)
  slept_one f marks going asleep old new k h l mark step =
      let F : Finishing = finish_within k s T f in
      let left : all_reached T F.events ≡ false = ap (λ E. all_reached T E) h.events ∙ going in
      let more : nat_le T.n F.idle_now ≡ false = lt-leb T.n F.idle_now (omega (arith, l, h.place.idle_now)) in
      let z = asleep.each F.next (ap (has_mark marks) (sym h.place.next) ∙ mark) in
      let one = turned_so k f (Stays z.0) (λ i. left i || more i) (ap (λ E. go s T.mask (Some T) E (record { proc = F.next; pick = 0 })) h.events ∙ z.1) in
      record { place = subst (IsRoundOf new) (sym one) (step F z.0 h.place); events = ap (λ g. g.events) one ∙ h.events }

  pub ended_all : (k : ℕ) (R : List Event) → k ≤ enough_turns T → is_finished T (finish_within k s T (to_finish R)) ≡ true → finish_within k s T (to_finish R) ≡ finish_of s T R
  ended_all k R l h =
      let d : k + (enough_turns T - k) ≡ enough_turns T = omega (arith, l) in
      sym (ended k (enough_turns T - k) (to_finish R) h) ∙ ap (λ n. finish_within n s T (to_finish R)) d

after_turn : (T : Trace) (f : Finishing) (w : Turned) → (finish_by T f w).events ≡ after f.events w
after_turn T f (Stays why) = refl
after_turn T f (Went e) = refl

-- an idle turn, whatever its reason
pub idled_so : (round : Round) (T : Trace) (f : Finishing) (what : outcomes.Turned) (why : WhyIdle) → what ≡ kinds.Idle why → ((reason_is : turns.Idle) → IsRoundOf round (finish_by T f (Stays reason_is)))
    → IsRoundOf round (finish_by T f (outcome what))
idled_so round T f what why is all = subst (λ w. IsRoundOf round (finish_by T f (outcome w))) (sym is) (all (reason why))

-- whether finishing has ended, as the code tests it
over_is : {P M : Type 0} (stands_for : P → Standing) (now : Replaying P M) (round : Round) (s : ℕ → Script) (T : Trace) (f : Finishing) → HasRounded stands_for now round s T f
    → is_finished T f ≡ all_reached T f.events || nat_le (length now.world.processes) round.idle_now
over_is stands_for now round s T f h =
    let n = sym h.stands.size in
    let idle = sym h.place.idle_now in
    λ i. all_reached T f.events || nat_le (n i) (idle i)

module _ (old : Round) (marks : List Bool) (n most : ℕ) where
  -- the first turn of a marked process
  pub first_slept : (new : Round) → ((T : Trace) (f : Finishing) (why : turns.Idle) → T.n ≡ n → IsRoundOf old f → IsRoundOf new (finish_by T f (Stays why)))
      → old.idle_now < n → has_mark marks old.next ≡ true → new.next < n → new.turns ≡ old.turns + 1 → new.idle ≤ new.turns → old.turns < most → HasSlept old new marks n most
  first_slept new rounds l mark next turns idle few = record {
    run = λ s T f size going asleep at.
        subst (SleptTo new s T f) (omega (arith, turns)) (slept_one s T f marks going asleep old new 0 record { place = at; events = refl } (omega (arith, l, size)) mark (λ g why. rounds T g why size));
    next = next;
    idle = idle;
    later = omega (arith, turns);
    few = omega (arith, turns, few);
  }

  -- and one more
  pub more_slept : (mid new : Round) → HasSlept old mid marks n most → ((T : Trace) (f : Finishing) (why : turns.Idle) → T.n ≡ n → IsRoundOf mid f → IsRoundOf new (finish_by T f (Stays why)))
      → mid.idle_now < n → has_mark marks mid.next ≡ true → new.next < n → new.turns ≡ mid.turns + 1 → new.idle ≤ new.turns → mid.turns < most → HasSlept old new marks n most
  more_slept mid new h rounds l mark next turns idle few = record {
    run = λ s T f size going asleep at.
        subst (SleptTo new s T f) (omega (arith, turns, h.later)) (slept_one s T f marks going asleep mid new (mid.turns - old.turns) (h.run s T f size going asleep at) (omega (arith, l, size)) mark (λ g why. rounds T g why size));
    next = next;
    idle = idle;
    later = omega (arith, turns, h.later);
    few = omega (arith, turns, few);
  }

module _ {P M O : Type 0} (stands_for : P → Standing) (origin_of : P → O) (start : Replaying P M) (most : ℕ) where
  -- before the first turn
  pub no_rounds : (round : Round) (marks : List Bool) → ((R : List Event) → IsRoundOf round (to_finish R)) → ((p : ℕ) → has_mark marks p ≡ false) → round.next ≡ 0 → round.turns ≡ 0 → round.idle ≡ 0 → 0 < length start.world.processes
      → AfterRounds stands_for origin_of start start round marks most
  no_rounds round marks is none next turns idle some = record {
    run = λ s T R h. subst (λ k. HasRounded stands_for start round s T (finish_within k s T (to_finish R))) (sym turns) record { stands = h; place = is R };
    asleep = λ s T R h. none_asleep marks s T _ none;
    same = same_run origin_of start;
    next = omega (arith, next, some);
    idle = omega (arith, turns, idle);
    few = omega (arith, turns);
  }

  module _ (now : Replaying P M) (round : Round) (marks : List Bool) (a : AfterRounds stands_for origin_of start now round marks most) where
    module _ (going : (s : ℕ → Script) (T : Trace) (R : List Event) → IsReplayOf stands_for now s T R → false ≡ all_reached T R || nat_le (length now.world.processes) round.idle_now) where
      goes : (s : ℕ → Script) (T : Trace) (R : List Event) → IsReplayOf stands_for start s T R → is_finished T (finish_within round.turns s T (to_finish R)) ≡ false
      goes s T R h =
          let F : Finishing = finish_within round.turns s T (to_finish R) in
          let k = a.run s T R h in
          over_is stands_for now round s T F k ∙ sym (going s T F.events k.stands)

      -- one turn more
      pub next_round : (new : Replaying P M) (next : Round) (left : List Bool) (t : turns.Turn) (what : outcomes.Turned) (n : ℕ)
          → t.proc ≡ round.next → t.pick ≡ 0
          → ((s : ℕ → Script) (T : Trace) (R : List Event) → IsReplayOf stands_for now s T R → HasGone stands_for new s T R t what)
          → IsSameRun origin_of now new → n ≡ length start.world.processes
          → ((T : Trace) (f : Finishing) → T.n ≡ n → IsRoundOf round f → IsRoundOf next (finish_by T f (outcome what)))
          → next.next < n → next.turns ≡ round.turns + 1 → next.idle ≤ next.turns → round.turns < most
          → has_mark marks round.next ≡ false → ((q : ℕ) → has_mark left q ≡ true → StaysAsleep marks t.proc (outcome what) q)
          → AfterRounds stands_for origin_of start new next left most
      next_round new next left t what n proc pick gone same size rounds small turns idle few awake stays = record {
        run = λ s T R h.
            let F : Finishing = finish_within round.turns s T (to_finish R) in
            let k = a.run s T R h in
            let g = gone s T F.events k.stands in
            subst (HasRounded stands_for new next s T) (sym (one s T R h)) record {
              stands = subst (λ E. IsReplayOf stands_for new s T E) (sym (after_turn T F (outcome what))) g.stands;
              place = rounds T F (sym k.stands.size ∙ a.same.size ∙ sym size) k.place;
            };
        asleep = λ s T R h.
            let F : Finishing = finish_within round.turns s T (to_finish R) in
            let k = (a.run s T R h).stands in
            let is : go s T.mask (Some T) F.events (record { proc = t.proc; pick = 0 }) ≡ outcome what =
            ap (λ z. go s T.mask (Some T) F.events (record { proc = t.proc; pick = z })) (sym pick) ∙ (gone s T F.events k).is in
            subst (AreAsleep left s T) (sym (ap (λ f. f.events) (one s T R h) ∙ after_turn T F (outcome what)))
            (still_asleep s k.world.lawful T F.events k.replay t.proc marks left (outcome what) (a.asleep s T R h) (ap (has_mark marks) proc ∙ awake) is stays);
        same = same_runs origin_of start now new a.same same;
        next = omega (arith, small, size, same.size, a.same.size);
        idle = idle;
        few = omega (arith, turns, few);
      }
        where
          one : (s : ℕ → Script) (T : Trace) (R : List Event) → IsReplayOf stands_for start s T R
              → finish_within next.turns s T (to_finish R) ≡ finish_by T (finish_within round.turns s T (to_finish R)) (outcome what)
          one s T R h =
              let F : Finishing = finish_within round.turns s T (to_finish R) in
              let k = a.run s T R h in
              let p : t.proc ≡ F.next = proc ∙ k.place.next in
              ap (λ m. finish_within m s T (to_finish R)) turns
              ∙ turned_so s T round.turns (to_finish R) (outcome what) (goes s T R h)
              (sym (λ j. go s T.mask (Some T) F.events (record { proc = p j; pick = pick j })) ∙ (gone s T F.events k.stands).is)

      -- some turns of processes that are asleep
      pub slept_round : (next : Round) (n : ℕ) → n ≡ length start.world.processes → HasSlept round next marks n most → AfterRounds stands_for origin_of start now next marks most
      slept_round next n size h = record {
        run = λ s T R k.
            let was = a.run s T R k in
            let z = slept s T R k in
            subst (HasRounded stands_for now next s T) (sym (many s T R)) record {
              stands = subst (λ E. IsReplayOf stands_for now s T E) (sym z.events) was.stands;
              place = z.place;
            };
        asleep = λ s T R k. subst (AreAsleep marks s T) (sym (ap (λ f. f.events) (many s T R) ∙ (slept s T R k).events)) (a.asleep s T R k);
        same = a.same;
        next = omega (arith, h.next, size, a.same.size);
        idle = h.idle;
        few = h.few;
      }
        where
          many : (s : ℕ → Script) (T : Trace) (R : List Event) → finish_within next.turns s T (to_finish R) ≡ finish_within (next.turns - round.turns) s T (finish_within round.turns s T (to_finish R))
          many s T R =
              let d : next.turns ≡ round.turns + (next.turns - round.turns) = omega (arith, h.later) in
              ap (λ m. finish_within m s T (to_finish R)) d ∙ joined s T round.turns (next.turns - round.turns) (to_finish R)

          slept : (s : ℕ → Script) (T : Trace) (R : List Event) → IsReplayOf stands_for start s T R → SleptTo next s T (finish_within round.turns s T (to_finish R)) (next.turns - round.turns)
          slept s T R k =
              let F : Finishing = finish_within round.turns s T (to_finish R) in
              let was = a.run s T R k in
              h.run s T F (sym was.stands.size ∙ a.same.size ∙ sym size) (or_parts (all_reached T F.events) (nat_le T.n F.idle_now) (goes s T R k)).0 (a.asleep s T R k) was.place

    -- the round robin has ended
    pub all_rounds : ((s : ℕ → Script) (T : Trace) (R : List Event) → IsReplayOf stands_for start s T R → most ≡ enough_turns T)
        → ((s : ℕ → Script) (T : Trace) (R : List Event) → IsReplayOf stands_for now s T R → true ≡ all_reached T R || nat_le (length now.world.processes) round.idle_now)
        → (s : ℕ → Script) (T : Trace) (R : List Event) → IsReplayOf stands_for start s T R → HasRounded stands_for now round s T (finish_of s T R)
    all_rounds enough over s T R h =
        let F : Finishing = finish_within round.turns s T (to_finish R) in
        let k = a.run s T R h in
        subst (HasRounded stands_for now round s T) (ended_all s T round.turns R (omega (arith, a.few, enough s T R h)) (over_is stands_for now round s T F k ∙ sym (over s T F.events k.stands))) k

    -- all turns were made
    pub last_round : most ≤ round.turns
        → ((s : ℕ → Script) (T : Trace) (R : List Event) → IsReplayOf stands_for start s T R → most ≡ enough_turns T)
        → (s : ℕ → Script) (T : Trace) (R : List Event) → IsReplayOf stands_for start s T R → HasRounded stands_for now round s T (finish_of s T R)
    last_round l enough s T R h =
        let all : round.turns ≡ enough_turns T = omega (arith, l, a.few, enough s T R h) in
        subst (λ n. HasRounded stands_for now round s T (finish_within n s T (to_finish R))) all (a.run s T R h)

module _ {P M : Type 0} (stands_for : P → Standing) (now : Replaying P M) (round : Round) (s : ℕ → Script) (T : Trace) (R : List Event) (h : HasRounded stands_for now round s T (finish_of s T R)) where
  -- with all counts reached
  pub finished : (f : Finished) → f.turns ≡ round.turns → f.idle ≡ round.idle → all_reached T (finish_of s T R).events ≡ true → HasFinished stands_for now s T R f
  finished f turns idle reached = record {
    stands = h.stands;
    reached = reached;
    turns = turns ∙ h.place.turns;
    idle = idle ∙ h.place.idle;
    few = omega (arith, turns, h.place.turns, finish_turns s T R);
  }

  -- or stuck
  pub stuck : (counts : List ℕ) → ((p : ℕ) → get_or counts p 0 ≡ count (finish_of s T R).events p) → all_reached T (finish_of s T R).events ≡ false → IsStuck stands_for now s T R counts
  stuck counts each below = record {
    stands = h.stands;
    below = below;
    idle = leb-true T.n (finish_of s T R).idle_now (ap (λ b. b || nat_le T.n (finish_of s T R).idle_now) (sym below) ∙ finish_ends s T R);
    told = each;
  }

  -- under the trace of a run it isn't stuck
  pub reached : (E : List Event) (b : Bool) → IsReplay s T R → IsRecorded s T E → b ≡ all_reached T (finish_of s T R).events → b ≡ true
  reached E b replay e is = is ∙ all_from T.n (λ p. nat_le (T.counts p) (count (finish_of s T R).events p)) (λ p. le-leb (T.counts p) (count (finish_of s T R).events p) (omega (arith, finish_reaches s T e.lawful E R e.run e.trace replay p)))
