-- The commands that replay: `replay`, with a schedule and without one, and `certify`.
use Rattle.std.proofs.Common.{◌≡◌, ℕ, List, [], ◌∷◌, ◌++◌, true, Option, IfSome, refl, sym, ap, subst, inl, inr}
use Rattle.std.proofs.lemmas.Option.{IfSome_then}
use Rattle.nm_outside.specs.Files.{Files}
use Rattle.nm_base.specs.declared.letter.LetterId.{LetterId}
use Rattle.c_tree.specs.declared.program.Program.{Program}
use Rattle.schedules.specs.declared.schedule.Turn.{Turn}
use Rattle.event_list.specs.Turns.{all_reached}
use Rattle.trace_file.specs.Content.{Content}
use Rattle.replay_core.specs.Gates.{seen_trace}
use Rattle.report.specs.declared.cause.Refusal.TheVariants as refusals
use Rattle.report.specs.Texts.{stuck_line, refusal_line}
use Rattle.nm_top.specs.declared.status.Status.TheVariants as statuses
use Rattle.nm_top.specs.declared.stop.Stop.TheVariants.{Refused}
use Rattle.nm_top.specs.Commands.{Replay, Finish, Certify}
use Rattle.nm_top.specs.Schedules.{IsSchedule}
use Rattle.nm_top.specs.Replies.{Reply, reply}
use Rattle.nm_top.specs.Demands.{Demand, Finishes, Matches, AreReplayed, HoldsIn, IsMet, schedule_file}
use Rattle.nm_top.specs.Finishing.{finished, finish_text}
use Rattle.nm_top.specs.Watches.{Call, Hear, watch_lines}
use Rattle.nm_top.specs.Answers.{CommandAnswer, Demanding, IsDone, IsReason}
use Rattle.nm_top.specs.private.Works.{Work, Whole, Refusing, Ending, Short, Broken}
use Rattle.nm_top.specs.private.Tellings.{IsStuckWork, IsReplayWork, IsFinishWork, IsCertifyWork}
use Rattle.nm_top.proofs.FileLaws.{stops_on, unmet_at_once}
use Rattle.nm_top.proofs.PairLaws.{behind_pair, replay_done}
use Rattle.nm_top.proofs.CarryLaws.{Bears, nothing_short}

module _ (held : Files) (program trace : List ℕ) (p : Program) (t : Content) (h : AreReplayed held program trace p t) where
  -- the replay reaches all recorded counts
  finishes : all_reached (seen_trace t) (finished p t).events ≡ true → IsMet (Finishes program trace) held
  finishes reached = (p, t, h, reached)

  -- or it is stuck
  stuck_reason : (n : ℕ) (events counts : List ℕ) → IsStuckWork p t n events counts → IsReason (Finishes program trace) held [] (stuck_line n events counts)
  stuck_reason n events counts is = record {
    of_program = p;
    content = t;
    has = h;
    below = is.below;
    events = events;
    counts = counts;
    events_are = is.events_are;
    counts_are = is.counts_are;
    is = ap (λ (k : ℕ). stuck_line k events counts) is.n_is;
  }

  is_stuck : (more : List Demand) (done : Reply → Type 0) (n : ℕ) (events counts : List ℕ) → IsStuckWork p t n events counts
      → Demanding (Finishes program trace ∷ more) done held (reply statuses.Stuck (stuck_line n events counts) held)
  is_stuck more done n events counts is =
      stops_on (Finishes program trace ∷ []) more done held (Refused (refusals.Stuck n events counts))
      (unmet_at_once (Finishes program trace) held refl (Refused (refusals.Stuck n events counts)) (refl, stuck_reason n events counts is))

  finish_done : (x : Call) (text : List ℕ) → all_reached (seen_trace t) (finished p t).events ≡ true → Hear (finished p t).events x.watchers
      → text ≡ finish_text p t ++ watch_lines 0 x.watchers.told → CommandAnswer x (Finish program trace) held (reply statuses.Done text held)
  finish_done x text reached heard is = inl (behind_pair held program trace p t h (Finishes program trace ∷ []) (IsDone x (Finish program trace) held) _
      (inr (inr (finishes reached, (text, held, (record { of_program = p; content = t; has = h; hear = heard; is = is }, refl), refl)))))

  finish_stuck : (x : Call) (n : ℕ) (events counts : List ℕ) → IsStuckWork p t n events counts → CommandAnswer x (Finish program trace) held (reply statuses.Stuck (stuck_line n events counts) held)
  finish_stuck x n events counts is = inl (behind_pair held program trace p t h (Finishes program trace ∷ []) (IsDone x (Finish program trace) held) _
      (is_stuck [] (IsDone x (Finish program trace) held) n events counts is))

  certify_done : (x : Call) (text : List ℕ) → IsCertifyWork p t (Whole text) → CommandAnswer x (Certify program trace) held (reply statuses.Done text held)
  certify_done x text is = inl (behind_pair held program trace p t h (Finishes program trace ∷ Matches program trace ∷ []) (IsDone x (Certify program trace) held) _
      (inr (inr (
        finishes is.0,
        inr (inr (
          (p, t, h, is.1),
          (text, held, (record { of_program = p; content = t; has = h; text = is.2.0; certified = is.2.1; is = is.2.2 }, refl), refl),
        )),
      ))))

  certify_stuck : (x : Call) (n : ℕ) (events counts : List ℕ) → IsStuckWork p t n events counts → CommandAnswer x (Certify program trace) held (reply statuses.Stuck (stuck_line n events counts) held)
  certify_stuck x n events counts is = inl (behind_pair held program trace p t h (Finishes program trace ∷ Matches program trace ∷ []) (IsDone x (Certify program trace) held) _
      (is_stuck (Matches program trace ∷ []) (IsDone x (Certify program trace) held) n events counts is))

  certify_differs : (x : Call) (letter : LetterId) → IsCertifyWork p t (Refusing (refusals.NotItsTrace letter))
      → CommandAnswer x (Certify program trace) held (reply statuses.NotItsTrace (refusal_line (refusals.NotItsTrace letter)) held)
  certify_differs x letter is = inl (behind_pair held program trace p t h (Finishes program trace ∷ Matches program trace ∷ []) (IsDone x (Certify program trace) held) _
      (inr (inr (
        finishes is.0,
        stops_on (Matches program trace ∷ []) [] (IsDone x (Certify program trace) held) held (Refused (refusals.NotItsTrace letter))
            (unmet_at_once (Matches program trace) held refl (Refused (refusals.NotItsTrace letter))
            (refl, record { of_program = p; content = t; has = h; first = letter; is_first = is.1; is = refl })),
      ))))

  certify_short : (x : Call) (text : List ℕ) → IsCertifyWork p t (Short text) → CommandAnswer x (Certify program trace) held (reply statuses.WantOfMemory text held)
  certify_short x text (inl is) = subst (λ (u : List ℕ). CommandAnswer x (Certify program trace) held (reply statuses.WantOfMemory u held)) (sym is) (nothing_short x (Certify program trace) held)
  certify_short x text (inr is) = inr (inl (text, held, inr (record { of_program = p; content = t; has = h; many = is.0; certified = is.1 }, refl), refl))

module _ (F : Option Files) (program trace schedule : List ℕ) (p : Program) (t : Content) (ts : List Turn)
    (h : IfSome F (λ held. AreReplayed held program trace p t × HoldsIn held (λ text. IsSchedule t.n text ts) (schedule_file schedule))) where
  pub replay_bears : (x : Call) (work : Work) → IsReplayWork p t ts x.watchers work → Bears x (Replay program trace schedule) F work
  replay_bears x (Whole text) is = record {
    works = IfSome_then F h (λ held k. (
      held,
      refl,
      subst (λ (u : List ℕ). CommandAnswer x (Replay program trace schedule) held (reply statuses.Done u held)) (sym is.1)
          (replay_done held program trace p t k.0 x schedule ts k.1 is.0),
    ));
    is_work = tt;
    absent = refl;
    fault = refl;
    unbroken = refl;
  }
  replay_bears x (Short text) is = record {
    works = IfSome_then F h (λ held k. (
      held,
      refl,
      subst (λ (u : List ℕ). CommandAnswer x (Replay program trace schedule) held (reply statuses.WantOfMemory u held)) (sym is)
          (nothing_short x (Replay program trace schedule) held),
    ));
    is_work = is;
    absent = refl;
    fault = refl;
    unbroken = refl;
  }
  replay_bears x (Refusing r) is = absurd is
  replay_bears x (Ending text r) is = absurd is
  replay_bears x Broken is = absurd is

module _ (F : Option Files) (program trace : List ℕ) (p : Program) (t : Content) (h : IfSome F (λ held. AreReplayed held program trace p t)) where
  pub finish_bears : (x : Call) (work : Work) → IsFinishWork p t x.watchers work → Bears x (Finish program trace) F work
  finish_bears x (Whole text) is = record {
    works = IfSome_then F h (λ held k. (held, refl, finish_done held program trace p t k x text is.0 is.1 is.2));
    is_work = tt;
    absent = refl;
    fault = refl;
    unbroken = refl;
  }
  finish_bears x (Refusing (refusals.Stuck n events counts)) is = record {
    works = IfSome_then F h (λ held k. (held, refl, finish_stuck held program trace p t k x n events counts is));
    is_work = tt;
    absent = refl;
    fault = refl;
    unbroken = refl;
  }
  finish_bears x (Short text) is = record {
    works = IfSome_then F h (λ held k.
        (held, refl, subst (λ (u : List ℕ). CommandAnswer x (Finish program trace) held (reply statuses.WantOfMemory u held)) (sym is) (nothing_short x (Finish program trace) held)));
    is_work = is;
    absent = refl;
    fault = refl;
    unbroken = refl;
  }
  finish_bears x (Ending text r) is = absurd is
  finish_bears x Broken is = absurd is
  finish_bears x (Refusing refusals.Usage) is = absurd is
  finish_bears x (Refusing (refusals.Absent name)) is = absurd is
  finish_bears x (Refusing (refusals.ReadFault name)) is = absurd is
  finish_bears x (Refusing (refusals.TooLong name)) is = absurd is
  finish_bears x (Refusing (refusals.ProgramRefused kind line)) is = absurd is
  finish_bears x (Refusing (refusals.ScheduleRefused kind place)) is = absurd is
  finish_bears x (Refusing (refusals.TraceDamaged kind place)) is = absurd is
  finish_bears x (Refusing (refusals.OtherProgram of_trace of_file)) is = absurd is
  finish_bears x (Refusing (refusals.Stopped turns)) is = absurd is
  finish_bears x (Refusing (refusals.NotItsTrace letter)) is = absurd is
  finish_bears x (Refusing refusals.InputFault) is = absurd is
  finish_bears x (Refusing refusals.InputFull) is = absurd is

  pub certify_bears : (x : Call) (work : Work) → IsCertifyWork p t work → Bears x (Certify program trace) F work
  certify_bears x (Whole text) is = record {
    works = IfSome_then F h (λ held k. (held, refl, certify_done held program trace p t k x text is));
    is_work = tt;
    absent = refl;
    fault = refl;
    unbroken = refl;
  }
  certify_bears x (Refusing (refusals.Stuck n events counts)) is = record {
    works = IfSome_then F h (λ held k. (held, refl, certify_stuck held program trace p t k x n events counts is));
    is_work = tt;
    absent = refl;
    fault = refl;
    unbroken = refl;
  }
  certify_bears x (Refusing (refusals.NotItsTrace letter)) is = record {
    works = IfSome_then F h (λ held k. (held, refl, certify_differs held program trace p t k x letter is));
    is_work = tt;
    absent = refl;
    fault = refl;
    unbroken = refl;
  }
  certify_bears x (Short text) is = record {
    works = IfSome_then F h (λ held k. (held, refl, certify_short held program trace p t k x text is));
    is_work = tt;
    absent = refl;
    fault = refl;
    unbroken = refl;
  }
  certify_bears x (Ending text r) is = absurd is
  certify_bears x Broken is = absurd is
  certify_bears x (Refusing refusals.Usage) is = absurd is
  certify_bears x (Refusing (refusals.Absent name)) is = absurd is
  certify_bears x (Refusing (refusals.ReadFault name)) is = absurd is
  certify_bears x (Refusing (refusals.TooLong name)) is = absurd is
  certify_bears x (Refusing (refusals.ProgramRefused kind line)) is = absurd is
  certify_bears x (Refusing (refusals.ScheduleRefused kind place)) is = absurd is
  certify_bears x (Refusing (refusals.TraceDamaged kind place)) is = absurd is
  certify_bears x (Refusing (refusals.OtherProgram of_trace of_file)) is = absurd is
  certify_bears x (Refusing (refusals.Stopped turns)) is = absurd is
  certify_bears x (Refusing refusals.InputFault) is = absurd is
  certify_bears x (Refusing refusals.InputFull) is = absurd is
