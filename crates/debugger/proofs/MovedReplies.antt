-- What is replied where a session moves, or doesn't.
use Rattle.std.proofs.Common.{◌≡◌, ℕ, ◌+◌, ◌-◌, ◌<◌, Bool, true, false, List, [], length, take, Option, Some, None, sym, ap, ◌∙◌, subst, arith}
use Rattle.std.specs.Prelude.{nat_le, cond, ◌&&◌, Result, Ok, Err, ⊤}
use Rattle.nm_outside.specs.declared.cabinet.Failed.{Failed}
use Rattle.std.proofs.lemmas.Bool.{and_parts, le-leb}
use Rattle.std.proofs.lemmas.List.{length-take-le}
use Rattle.c_tree.specs.declared.program.Program.{Program}
use Rattle.c_tree.specs.Play.{script_of}
use Rattle.causal_stop.specs.declared.standing.Order.{Order}
use Rattle.causal_stop.specs.Stops.{HasEntry, Holds, IsEntry, Lacks, StandsIn}
use Rattle.event_list.specs.declared.Event.{Event}
use Rattle.event_list.specs.Cuts.{cut_list, IsLeastCut, IsGreatestCut}
use Rattle.event_list.specs.Order.{Cut, IsConsistent}
use Rattle.trace_file.specs.Content.{Content}
use Rattle.replay_core.specs.Gates.{seen_trace}
use Rattle.replay_core.specs.Replaying.{Replaying}
use Rattle.replay_core.specs.Stepping.{full_run}
use Rattle.c_process.specs.declared.process.CProc.{CProc}
use Rattle.watchers.specs.Watched.{Watched}
use Rattle.report.specs.declared.replies.Notice.{Notice}
use Rattle.report.specs.declared.replies.Notice.TheVariants as notice
use Rattle.report.specs.Printing.{Prints}
use Rattle.report.specs.Replies.{at_line, notice_line}
use Rattle.std.specs.Io.KnownBytes.{Appends}
use Rattle.nm_outside.specs.Files.{AppendsPart}
use Rattle.debugger.specs.declared.fault.SessionFault.{SessionFault}
use Rattle.debugger.specs.declared.fault.SessionFault.TheVariants as fault
use Rattle.debugger.specs.Lines as lines
use Rattle.debugger.specs.Sessions as sessions
use Rattle.debugger.specs.Sessions.{Session, MakesAll, GoesTo, back_by, is_recorded, refused_at, order_notice, notices}
use Rattle.debugger.specs.Sittings.{Sitting, HasReplied, IsReplayAt, IsSessionOf, IsSomeSession, IsSameSitting, Replies}
use Rattle.debugger.specs.private.Making.{with_run}
use Rattle.debugger.specs.private.Moving.{CanGoTo, HasMoved, IsCutOfFull, IsFinished, IsFullRun, IsStuckRun, moved_text}
use Rattle.stack_code.specs.Code.{Code}
use Rattle.c_process.specs.Standing.{IsCodeOf}
use Rattle.event_list.specs.Runs.{Sound}
use Rattle.debugger.proofs.GoingTo.{allowed, full_entry, full_sound, is_full, not_among, not_reached, recorded_below}

module _ {M : Type 0} where
  -- ---- back

  quietly_back : (p : Program) (s : Session) (y : Sitting M) (watch : List Watched) (k : ℕ) (next : Session)
      (text : List ℕ) → back_by s k ≡ record { text = text; session = next } → IsSessionOf y p next
      → Replies (lines.Back k) p s watch y watch text
  quietly_back p s y watch k next text is stands = record {
    next = next;
    stands = stands;
    answers = sessions.quietly (ap Some is);
  }

  pub back_refused : (x : Sitting M) (k : ℕ) → length x.replay.events < k
      → (p : Program) (s : Session) (watch : List Watched) → IsSessionOf x p s
      → Replies (lines.Back k) p s watch x watch (moved_text x.replay.events (Some notice.NoEvent))
  back_refused x k few p s watch h =
      quietly_back p s x watch k s (notice_line notice.NoEvent)
      (ap (λ b. cond b
      (record {
        text = at_line (length s.run - k);
        session =
            record { run = take (length s.run - k) s.run; breaks = s.breaks; made = s.made };
      }) (notices s notice.NoEvent))
      (test_false k (length s.run) (omega (arith, few, ap length h.replays.replays.events)))) h
    where
      test_false : (k n : ℕ) → n < k → nat_le k n ≡ false
      test_false k n lt = search arith

  pub back_gone : (x y : Sitting M) (k to : ℕ) → to + k ≡ length x.replay.events
      → ((p : Program) (s : Session) → IsSessionOf x p s → IsSessionOf y p (with_run s (take to s.run)))
      → (p : Program) (s : Session) (watch : List Watched) → IsSessionOf x p s
      → Replies (lines.Back k) p s watch y watch (moved_text y.replay.events None)
  back_gone x y k to sum gone p s watch h =
      let many = ap length h.replays.replays.events in
      let to_is : to ≡ length s.run - k = omega (arith, sum, many) in
      let there = gone p s h in
      let text : at_line (length s.run - k) ≡ at_line (length y.replay.events) =
      ap at_line (sym to_is ∙ sym (length-take-le to s.run (omega (arith, sum, many)))
      ∙ sym (ap length there.replays.replays.events)) in
      quietly_back p s y watch k (with_run s (take to s.run)) (at_line (length y.replay.events))
      (ap (λ b. cond b
      (record {
        text = at_line (length s.run - k);
        session =
            record { run = take (length s.run - k) s.run; breaks = s.breaks; made = s.made };
      }) (notices s notice.NoEvent))
      (le-leb k (length s.run) (omega (arith, sum, many)))
      ∙ ap (λ t.
      record { text = t; session = record { run = take (length s.run - k) s.run; breaks = s.breaks; made = s.made } })
      text
      ∙ ap (λ (j : ℕ). record { text = at_line (length y.replay.events); session = with_run s (take j s.run) })
      (sym to_is)) there

  -- ---- to a cut of the finished replay

  module _ (v y : Sitting M) (before after : List Watched) (events : List Event) (q k : ℕ) (c : Cut)
      (same : IsSameSitting v y)
      (moved : (p : Program) (s : Session) → IsSessionOf v p s → IsCutOfFull p v.trace events c
      → HasMoved p s before events c y after) where
    module _ (p : Program) (s : Session) (h : IsSessionOf v p s) (can : CanGoTo p v.trace events q k) where
      none_refused : refused_at p (seen_trace y.trace) (is_recorded p (seen_trace y.trace) q k) ≡ None
      none_refused =
          subst (λ (t : Content). refused_at p (seen_trace t) (is_recorded p (seen_trace t) q k) ≡ None)
          (sym same.trace) can.allowed

      is_all : events ≡ full_run (script_of p y.trace.n) (seen_trace y.trace)
      is_all = can.is ∙ ap (λ (t : Content). full_run (script_of p t.n) (seen_trace t)) (sym same.trace)

      there : IsConsistent events c → HasMoved p s before events c y after
      there consistent = moved p s h (record { is = can.is; consistent = consistent })

      goes : (m : HasMoved p s before events c y after)
          → GoesTo p (seen_trace y.trace) c s before (moved_text y.replay.events None) m.next after
      goes m = record {
        makes =
            subst (λ E. MakesAll p (seen_trace y.trace) (cut_list c E) (with_run s []) before m.next after) is_all
            m.makes;
        is = ap at_line (ap length (m.stands.replays.replays.events ∙ m.run) ∙ ap (λ E. length (cut_list c E)) is_all);
      }

    pub stopped : IsLeastCut events (Holds q k) c → (p : Program) (s : Session) → IsSessionOf v p s
        → CanGoTo p v.trace events q k
        → Replies (lines.Stop q k) p s before y after (moved_text y.replay.events None)
    stopped least p s h can =
        let m = there p s h can least.consistent in
        record {
          next = m.next;
          stands = m.stands;
          answers =
              sessions.stops q k c (none_refused p s h can)
              (subst (λ E. IsLeastCut E (Holds q k) c) (is_all p s h can) least) (goes p s h can m);
        }

    pub avoided : IsGreatestCut events (Lacks q k) c → (p : Program) (s : Session) → IsSessionOf v p s
        → CanGoTo p v.trace events q k
        → Replies (lines.Avoid q k) p s before y after (moved_text y.replay.events None)
    avoided greatest p s h can =
        let m = there p s h can greatest.consistent in
        record {
          next = m.next;
          stands = m.stands;
          answers =
              sessions.avoids q k c (none_refused p s h can)
              (subst (λ E. IsGreatestCut E (Lacks q k) c) (is_all p s h can) greatest) (goes p s h can m);
        }

  -- ---- where an event isn't recorded

  module _ (v : Sitting M) (b : Bool) (unrecorded : b ≡ false) where
    module _ (q k : ℕ) (recorded : (p : Program) → b ≡ is_recorded p (seen_trace v.trace) q k) (watch : List Watched)
        (p : Program) (s : Session) (h : IsSessionOf v p s) where
      not_there : refused_at p (seen_trace v.trace) (is_recorded p (seen_trace v.trace) q k) ≡ Some notice.NoEvent
      not_there =
          not_among p (seen_trace v.trace) (is_recorded p (seen_trace v.trace) q k) (sym (recorded p) ∙ unrecorded)

      pub stop_nowhere : Replies (lines.Stop q k) p s watch v watch (notice_line notice.NoEvent)
      stop_nowhere = record { next = s; stands = h; answers = sessions.stop_refused q k notice.NoEvent not_there }

      pub avoid_nothing : Replies (lines.Avoid q k) p s watch v watch (notice_line notice.NoEvent)
      avoid_nothing = record { next = s; stands = h; answers = sessions.avoid_refused q k notice.NoEvent not_there }

    pub compare_nothing : (q k r j : ℕ)
        → ((p : Program) → b ≡ (is_recorded p (seen_trace v.trace) q k && is_recorded p (seen_trace v.trace) r j))
        → (p : Program) (s : Session) (watch : List Watched) → IsSessionOf v p s
        → Replies (lines.Compare q k r j) p s watch v watch (notice_line notice.NoEvent)
    compare_nothing q k r j recorded p s watch h = record {
      next = s;
      stands = h;
      answers = sessions.compare_refused q k r j notice.NoEvent
          (not_among p (seen_trace v.trace)
          (is_recorded p (seen_trace v.trace) q k && is_recorded p (seen_trace v.trace) r j)
          (sym (recorded p) ∙ unrecorded));
    }

  -- ---- what a function knows of a replay that it began and finished: x are the parts of its session, seen as v

  module _ (x v : Sitting M) (view : x ≡ v) (first last : Replaying CProc M)
      (begun : (p : Program) → IsCodeOf p x.code → IsReplayAt x.code p x.trace first [])
      (b : Bool) (ended : (code : Code) (p : Program) (t : Content) → IsReplayAt code p t first []
      → IsFinished code p t last b) where
    ended_at : (p : Program) → IsCodeOf p v.code → IsFinished v.code p v.trace last b
    ended_at =
        subst (λ (y : Sitting M). (p : Program) → IsCodeOf p y.code → IsFinished y.code p y.trace last b) view
        (λ p at. ended x.code p x.trace (begun p at))

    -- it is stuck
    module _ (unreached : b ≡ false) where
      stuck_at : (p : Program) → IsCodeOf p v.code → IsStuckRun p v.trace
      stuck_at p at = subst (λ u. IsFinished v.code p v.trace last u) unreached (ended_at p at)

      module _ (a : Bool) (is : a ≡ true) where
        module _ (q k : ℕ) (recorded : (p : Program) → a ≡ is_recorded p (seen_trace v.trace) q k)
            (watch : List Watched) (p : Program) (s : Session) (h : IsSessionOf v p s) where
          not_now : refused_at p (seen_trace v.trace) (is_recorded p (seen_trace v.trace) q k) ≡ Some notice.Stuck
          not_now =
              not_reached p (seen_trace v.trace) (is_recorded p (seen_trace v.trace) q k) (sym (recorded p) ∙ is)
              (stuck_at p h.compiled).below

          pub stop_stuck : Replies (lines.Stop q k) p s watch v watch (notice_line notice.Stuck)
          stop_stuck = record { next = s; stands = h; answers = sessions.stop_refused q k notice.Stuck not_now }

          pub avoid_stuck : Replies (lines.Avoid q k) p s watch v watch (notice_line notice.Stuck)
          avoid_stuck = record { next = s; stands = h; answers = sessions.avoid_refused q k notice.Stuck not_now }

        pub compare_stuck : (q k r j : ℕ)
            → ((p : Program) → a ≡ (is_recorded p (seen_trace v.trace) q k && is_recorded p (seen_trace v.trace) r j))
            → (p : Program) (s : Session) (watch : List Watched) → IsSessionOf v p s
            → Replies (lines.Compare q k r j) p s watch v watch (notice_line notice.Stuck)
        compare_stuck q k r j recorded p s watch h = record {
          next = s;
          stands = h;
          answers = sessions.compare_refused q k r j notice.Stuck
              (not_reached p (seen_trace v.trace)
              (is_recorded p (seen_trace v.trace) q k && is_recorded p (seen_trace v.trace) r j) (sym (recorded p) ∙ is)
              (stuck_at p h.compiled).below);
        }

    -- it reaches all recorded counts
    module _ (reached : b ≡ true) (events : List Event) (list : events ≡ last.events) where
      full_at : (p : Program) → IsCodeOf p v.code → IsFullRun v.code p v.trace last
      full_at p at = subst (λ u. IsFinished v.code p v.trace last u) reached (ended_at p at)

      all_at : (p : Program) → IsCodeOf p v.code → events ≡ full_run (script_of p v.trace.n) (seen_trace v.trace)
      all_at p at = is_full v.code p v.trace last (full_at p at) events list

      some_at : IsSomeSession x → IsSomeSession v
      some_at some = (some.0, some.1, subst (λ y. IsSessionOf y some.0 some.1) view some.2)

      entry_at : (q k : ℕ) → ((p : Program) → is_recorded p (seen_trace v.trace) q k ≡ true) → IsSomeSession v
          → HasEntry events q k
      entry_at q k recorded some =
          full_entry v.code some.0 v.trace last (full_at some.0 some.2.compiled) events list q k
          (recorded_below v some.0 some.1 some.2 q k (recorded some.0)) (recorded some.0)

      pub sound_at : IsSomeSession x → Sound 0 events
      sound_at some =
          let h = some_at some in
          full_sound v.code h.0 v.trace last (full_at h.0 h.2.compiled) events list

      module _ (a : Bool) (is : a ≡ true) where
        module _ (q k : ℕ) (recorded : (p : Program) → a ≡ is_recorded p (seen_trace v.trace) q k) where
          pub entry_in : IsSomeSession x → HasEntry events q k
          entry_in some = entry_at q k (λ p. sym (recorded p) ∙ is) (some_at some)

          pub can_go : (p : Program) (s : Session) → IsSessionOf v p s → CanGoTo p v.trace events q k
          can_go p s h = record {
            is = all_at p h.compiled;
            allowed =
                allowed p (seen_trace v.trace) (is_recorded p (seen_trace v.trace) q k) (sym (recorded p) ∙ is)
                (full_at p h.compiled).reached;
          }

        module _ (q k r j : ℕ) (recorded : (p : Program)
            → a ≡ (is_recorded p (seen_trace v.trace) q k && is_recorded p (seen_trace v.trace) r j)) where
          both_at : (p : Program)
              → (is_recorded p (seen_trace v.trace) q k ≡ true) × (is_recorded p (seen_trace v.trace) r j ≡ true)
          both_at p =
              and_parts (is_recorded p (seen_trace v.trace) q k) (is_recorded p (seen_trace v.trace) r j)
              (sym (recorded p) ∙ is)

          pub first_in : IsSomeSession x → HasEntry events q k
          first_in some = entry_at q k (λ p. (both_at p).0) (some_at some)

          pub second_in : IsSomeSession x → HasEntry events r j
          second_in some = entry_at r j (λ p. (both_at p).1) (some_at some)

          pub compared : (o : Order)
              → ((a b : Event) → IsEntry events q k a → IsEntry events r j b → StandsIn events a b o)
              → (n : Notice) → n ≡ order_notice o → (p : Program) (s : Session) (watch : List Watched)
              → IsSessionOf v p s
              → Replies (lines.Compare q k r j) p s watch v watch (notice_line n)
          compared o stands n says p s watch h =
              let all = all_at p h.compiled in
              let one = entry_at q k (λ p. (both_at p).0) (p, s, h) in
              let two = entry_at r j (λ p. (both_at p).1) (p, s, h) in
              subst (λ m. Replies (lines.Compare q k r j) p s watch v watch (notice_line m)) (sym says) (record {
                next = s;
                stands = h;
                answers = sessions.compares q k r j one.0 two.0 o
                    (allowed p (seen_trace v.trace)
                    (is_recorded p (seen_trace v.trace) q k && is_recorded p (seen_trace v.trace) r j)
                    (sym (recorded p) ∙ is)
                    (full_at p h.compiled).reached)
                    (subst (λ E. IsEntry E q k one.0) all one.1) (subst (λ E. IsEntry E r j two.0) all two.1)
                    (subst (λ E. StandsIn E one.0 two.0 o) all (stands one.0 two.0 one.1 two.1));
              })

-- ---- what is printed

module _ {before after : Option (List ℕ)} {was now : ℕ} {result : Result ⊤ Failed} where
  pub says_why : (events : List Event) (refused : Option Notice) (why : Notice) → refused ≡ Some why
      → Prints before after was now (notice_line why) result
      → Prints before after was now (moved_text events refused) result
  says_why events refused why is h = subst (λ r. Prints before after was now (moved_text events r) result) (sym is) h

  pub says_where : {M : Type 0} (x v : Sitting M) → x ≡ v → (refused : Option Notice) → refused ≡ None
      → (n : ℕ) (events : List Event) → n ≡ length events → events ≡ x.replay.events
      → Prints before after was now (at_line n) result
      → Prints before after was now (moved_text v.replay.events refused) result
  says_where {M = M} x v view refused is n events many same h =
      subst (λ r. Prints before after was now (moved_text v.replay.events r) result) (sym is)
      (subst (λ (y : Sitting M). Prints before after was now (at_line (length y.replay.events)) result) view
      (subst (λ (k : ℕ). Prints before after was now (at_line k) result) (many ∙ ap length same) h))

-- the number of events that a session's run has
pub len_of : {M : Type 0} (x v : Sitting M) → x ≡ v → (n : ℕ) (events : List Event) → n ≡ length events
    → events ≡ x.replay.events → n ≡ length v.replay.events
len_of {M = M} x v view n events many same = many ∙ ap length same ∙ ap (λ (y : Sitting M). length y.replay.events) view

-- ---- what comes of a line

module _ {M A : Type 0} (asked : lines.Asked) (p : Program) (s : Session) (before : List Watched) (new : Sitting M)
    (after : List Watched) (given given' : Option (List ℕ)) where
  pub line_stopped : (result : Result A SessionFault) → result ≡ Err fault.Memory → given' ≡ given
      → HasReplied asked p s before new after given given' result
  line_stopped result is same =
      subst (λ r. HasReplied asked p s before new after given given' r) (sym is)
      (record { whole = tt; part = λ e. absurd cc; stopped = λ e. same })

  pub line_cut : (text : List ℕ) (result : Result A SessionFault) → result ≡ Err fault.Write
      → Replies asked p s before new after text → AppendsPart given given' text
      → HasReplied asked p s before new after given given' result
  line_cut text result is replies part =
      subst (λ r. HasReplied asked p s before new after given given' r) (sym is)
      (record { whole = tt; part = λ e. (text, replies, part); stopped = λ e. absurd cc })

  pub line_replied : (text : List ℕ) (a : A) → Replies asked p s before new after text → Appends given given' text
      → HasReplied asked p s before new after given given' (Ok a)
  line_replied text a replies all = record {
    whole = (text, replies, all);
    part = λ e. absurd cc;
    stopped = λ e. absurd cc;
  }

-- ---- two events

-- both are recorded where the first is and the second is, and else not both
pub both_then : (a b x y : Bool) → a ≡ x → a ≡ true → b ≡ y → b ≡ (x && y)
both_then a b x y first is second = second ∙ ap (λ u. u && y) (sym (sym first ∙ is))

pub both_else : (a x y : Bool) → a ≡ x → a ≡ false → a ≡ (x && y)
both_else a x y first not_ = not_ ∙ ap (λ u. u && y) (sym (sym first ∙ not_))
