-- The finished replay, and going to a cut of it.
use Rattle.std.proofs.Common.{◌≡◌, ℕ, zero, suc, ◌+◌, ◌<◌, ◌≤◌, Bool, true, false, List, [], ◌∷◌, ◌++◌, length, take, drop, Some, None, refl, sym, ap, ◌∙◌, subst, arith, append-nil, ⊎_elim}
use Rattle.std.specs.Prelude.{Result, Ok, Err, OnOk, Contains, slice_get, nat_le, cond, ◌&&◌}
use Rattle.std.proofs.lemmas.Bool.{false≢true, and_parts, leb-true, le-leb, cases_lt}
use Rattle.std.proofs.lemmas.List.{take-append-drop, take_all}
use Rattle.std.proofs.lemmas.List.Elements.{filter-append}
use Rattle.std.proofs.lemmas.Option.{slice_get_within}
use Rattle.nm_base.specs.Scripts.{Script}
use Rattle.nm_base.specs.Fitting.{none}
use Rattle.c_tree.specs.declared.program.Program.{Program}
use Rattle.c_tree.specs.Play.{script_of}
use Rattle.c_tree.proofs.Histories.{scripts_are_lawful}
use Rattle.stack_code.specs.Code.{Code}
use Rattle.event_list.specs.declared.Event.{Event}
use Rattle.event_list.specs.Cuts.{cut_list}
use Rattle.event_list.specs.Events.{count, messages}
use Rattle.event_list.specs.FirstPicks.{IsFirstPicked, first_turn}
use Rattle.event_list.specs.Laws.{AreLawful, IsFewer}
use Rattle.event_list.specs.Order.{Cut, IsConsistent}
use Rattle.event_list.specs.Runs.{Sound}
use Rattle.event_list.specs.Traces.{Trace}
use Rattle.event_list.specs.Turns as turns
use Rattle.event_list.specs.Turns.{Stays, Went, go, after, all_below, all_reached, enough_turns, to_finish}
use Rattle.event_list.proofs.FinishFacts.{came}
use Rattle.event_list.proofs.FirstPickFacts.{first_cut, first_finish}
use Rattle.event_list.proofs.MaskFacts.{sound_fewer, none_ordered}
use Rattle.event_list.proofs.RunsSound.{runs_sound}
use Rattle.event_list.proofs.Soundness.{entry_at}
use Rattle.event_list.proofs.Splits.{prefix, last}
use Rattle.causal_stop.specs.Stops.{HasEntry}
use Rattle.trace_file.specs.Content.{Content, count_of}
use Rattle.world.specs.declared.world.Turned.{Turned}
use Rattle.world.specs.Outcomes.{outcome}
use Rattle.replay_core.specs.declared.finish.Finished.{Finished}
use Rattle.replay_core.specs.declared.finish.ReplayFault.{ReplayFault}
use Rattle.replay_core.specs.declared.finish.ReplayFault.TheVariants.{Stuck}
use Rattle.replay_core.specs.Gates.{seen_trace}
use Rattle.replay_core.specs.Replaying.{Replaying, IsReplayOf, IsSameRun, HasFinished, HasFailed, IsStuck}
use Rattle.replay_core.specs.Stepping.{full_run}
use Rattle.replay_core.proofs.BackLaws.{taken_more}
use Rattle.c_process.specs.contracts.script.CProcProc.TheImpl as process
use Rattle.c_process.specs.declared.process.CProc.{CProc}
use Rattle.watchers.specs.Watched.{Watched, Told}
use Rattle.report.specs.declared.replies.Notice.TheVariants as notice
use Rattle.debugger.specs.Sessions.{Session, Makes, MakesAll, nothing, more, with_event, is_recorded, refused_at}
use Rattle.debugger.specs.Sittings.{Sitting, IsReplayAt, IsSameSitting, IsSessionOf, IsSomeSession}
use Rattle.debugger.specs.private.Making.{HasGone, with_made, with_run}
use Rattle.debugger.specs.private.Moving.{HasMade, HasMoved, IsCutOfFull, IsFinished, IsFullRun, IsNextOf, IsStuckRun}
use Rattle.debugger.proofs.GoingBack.{runs_on}

-- ---- the finished replay

below_test : (n : ℕ) (test : ℕ → Bool) (p : ℕ) → all_below n test ≡ true → p < n → test p ≡ true
below_test zero test p h below = absurd (omega (arith, below))
below_test (suc n) test p h below =
    let both = and_parts (test n) (all_below n test) h in
    ⊎_elim (λ less. below_test n test p both.1 less)
    (λ least. let is : n ≡ p = omega (arith, below, least) in subst (λ k. test k ≡ true) is both.0) (cases_lt p n)

-- why an event can't be gone to, and that it can
pub not_among : (p : Program) (T : Trace) (b : Bool) → b ≡ false → refused_at p T b ≡ Some notice.NoEvent
not_among p T b recorded = ap (refused_at p T) recorded

pub not_reached : (p : Program) (T : Trace) (b : Bool) → b ≡ true
    → all_reached T (full_run (script_of p T.n) T) ≡ false → refused_at p T b ≡ Some notice.Stuck
not_reached p T b recorded reached = ap (refused_at p T) recorded ∙ ap (λ u. cond u None (Some notice.Stuck)) reached

pub allowed : (p : Program) (T : Trace) (b : Bool) → b ≡ true → all_reached T (full_run (script_of p T.n) T) ≡ true
    → refused_at p T b ≡ None
allowed p T b recorded reached = ap (refused_at p T) recorded ∙ ap (λ u. cond u None (Some notice.Stuck)) reached

-- a recorded event is in a list that has all recorded counts
pub recorded_entry : (p : Program) (T : Trace) (R : List Event) (q k : ℕ) → Sound 0 R → all_reached T R ≡ true
    → q < T.n → is_recorded p T q k ≡ true → HasEntry R q k
recorded_entry p T R q k sound reached below recorded =
    let both = and_parts (nat_le 1 k) (nat_le k (T.counts q)) recorded in
    let here =
    leb-true (T.counts q) (count R q) (below_test T.n (λ p. nat_le (T.counts p) (count R p)) q reached below) in
    let e =
    entry_at sound q k (omega (arith, leb-true 1 k both.0)) (omega (arith, leb-true k (T.counts q) both.1, here)) in
    (e.0, record { in_list = e.1; of_p = e.2; numbered = e.3 })

none_fewer : (M : ℕ) → IsFewer 0 M
none_fewer M = λ chan h. absurd (none_ordered chan h)

module _ {M : Type 0} where
  pub replay_sound : (code : Code) (p : Program) (t : Content) (r : Replaying CProc M) (R : List Event)
      → IsReplayAt code p t r R → Sound 0 R
  replay_sound code p t r R h =
      sound_fewer (none_fewer r.world.mask)
      (runs_sound (script_of p t.n) (scripts_are_lawful p t.n) h.replays.world.run)

  module _ (code : Code) (p : Program) (t : Content) where
    -- the replay was finished
    pub full_found : (r v : Replaying CProc M) (f : Finished) → IsReplayAt code p t r []
        → ((s : ℕ → Script) (T : Trace) (R : List Event) → IsReplayOf process.stands_for-value.it r s T R
        → HasFinished process.stands_for-value.it v s T R f)
        → IsSameRun process.origin_of-value.it r v → IsFullRun code p t v
    full_found r v f h finished same =
        let g = finished (script_of p t.n) (seen_trace t) [] h.replays in
        record {
          replay = record { replays = g.stands; runs = runs_on code t.n r.world v.world same.origins h.runs };
          reached = g.reached;
        }

    -- it is stuck
    pub stuck_found : (r v : Replaying CProc M) (counts : List ℕ) → IsReplayAt code p t r []
        → ((s : ℕ → Script) (T : Trace) (R : List Event) → IsReplayOf process.stands_for-value.it r s T R
        → IsStuck process.stands_for-value.it v s T R counts)
        → IsStuckRun p t
    stuck_found r v counts h stuck = record { below = (stuck (script_of p t.n) (seen_trace t) [] h.replays).below }

    -- its events are those of its list, which is sound, and of its processes
    module _ (r : Replaying CProc M) (full : IsFullRun code p t r) (events : List Event) (list : events ≡ r.events)
      where
        pub is_full : events ≡ full_run (script_of p t.n) (seen_trace t)
        is_full = list ∙ full.replay.replays.events

        pub full_sound : Sound 0 events
        full_sound =
            subst (Sound 0) (sym is_full)
            (replay_sound code p t r (full_run (script_of p t.n) (seen_trace t)) full.replay)

        pub full_below : (e : Event) → Contains events e → e.proc.no < t.n
        full_below e inside =
            omega (
              arith,
              full.replay.replays.world.below e
                  (subst (λ E. Contains E e) is_full inside),
              full.replay.replays.size,
            )

        pub full_entry : (q k : ℕ) → q < t.n → is_recorded p (seen_trace t) q k ≡ true → HasEntry events q k
        full_entry q k below recorded =
            recorded_entry p (seen_trace t) events q k full_sound
            (subst (λ E. all_reached (seen_trace t) E ≡ true) (sym is_full) full.reached) below recorded

-- it is made by turns with pick 0
pub full_picked : (s : ℕ → Script) (T : Trace) → IsFirstPicked s T (full_run s T)
full_picked s T = first_finish s T (enough_turns T) (to_finish []) none

-- ---- the entries of a cut, one by one

abbrev pub within_test : Cut → Event → Bool
within_test c e = nat_le e.number (c e.proc.no)

cut_more : (c : Cut) (E : List Event) (i : ℕ) (e : Event) → slice_get E i ≡ Some e
    → cut_list c (take (i + 1) E) ≡ cut_list c (take i E) ++ cond (within_test c e) (e ∷ []) []
cut_more c E i e at = ap (cut_list c) (taken_more E i e at) ∙ filter-append (within_test c) (take i E) (e ∷ [])

pub cut_with : (c : Cut) (E : List Event) (i : ℕ) (e : Event) → slice_get E i ≡ Some e → within_test c e ≡ true
    → cut_list c (take (i + 1) E) ≡ cut_list c (take i E) ++ e ∷ []
cut_with c E i e at yes_ = cut_more c E i e at ∙ ap (λ b. cut_list c (take i E) ++ cond b (e ∷ []) []) yes_

pub cut_without : (c : Cut) (E : List Event) (i : ℕ) (e : Event) → slice_get E i ≡ Some e → within_test c e ≡ false
    → cut_list c (take (i + 1) E) ≡ cut_list c (take i E)
cut_without c E i e at no_ =
    cut_more c E i e at ∙ ap (λ b. cut_list c (take i E) ++ cond b (e ∷ []) []) no_ ∙ append-nil (cut_list c (take i E))

-- the next entry is made by a turn of its process after those before it
cut_next : (s : ℕ → Script) (T : Trace) (E : List Event) (c : Cut) → AreLawful s → IsFirstPicked s T E
    → IsConsistent E c → (i : ℕ) (e : Event) → slice_get E i ≡ Some e → within_test c e ≡ true
    → go s T.mask (Some T) (cut_list c (take i E)) (first_turn e) ≡ Went e
cut_next s T E c law picked consistent i e at within =
    let all = first_cut s law T c picked consistent.closed in
    let parts =
    ap (cut_list c) (sym (take-append-drop (i + 1) E))
    ∙ filter-append (within_test c) (take (i + 1) E) (drop (i + 1) E) in
    let upto =
    prefix (cut_list c (take (i + 1) E)) (cut_list c (drop (i + 1) E)) (subst (IsFirstPicked s T) parts all) in
    (last (cut_list c (take i E)) e (subst (IsFirstPicked s T) (cut_with c E i e at within) upto)).made

-- one event more is made
makes_more : (p : Program) (T : Trace) (events : List Event) (s s' s'' : Session) (w w' w'' : List Watched) (e : Event)
    → MakesAll p T events s w s' w' → Makes p T s' w' e s'' w''
    → MakesAll p T (events ++ e ∷ []) s w s'' w''
makes_more p T [] s s' s'' w w' w'' e nothing m = more m nothing
makes_more p T (x ∷ events) s s' s'' w w' w'' e (more {s' = t} {watch' = v} first rest) m =
    more first (makes_more p T events t s' s'' v w' w'' e rest m)

abbrev went_event : Event → turns.Turned → Event
went_event d (Went e) = e
went_event d (Stays why) = d

module _ {M : Type 0} where
  -- a turn that is told
  pub made_told : (old mid new : Sitting M) (q : ℕ) (what : Turned) (event : Event) (before later : List Watched)
      → outcome what ≡ Went event → IsSameSitting old mid → IsSameSitting mid new
      → ((p : Program) (s : Session) → IsSessionOf old p s → HasGone p s q mid what)
      → ((p : Program) (s : Session) → IsSessionOf mid p s → IsSessionOf new p (with_made s event))
      → (dropped : ℕ) × Told (event ∷ []) before later dropped
      → (p : Program) (s : Session) (e : Event) → IsSessionOf old p s → IsNextOf p old.trace s.run q e
      → HasMade p s before e new later
  made_told old mid new q what event before later out first second gone noted told p s e h is =
      let g = gone p s h in
      let went : Went e ≡ Went event =
      sym is.is
      ∙ ap (λ (t : Content). go (script_of p t.n) (seen_trace t).mask (Some (seen_trace t)) s.run
      (record { proc = q; pick = 0 })) (sym first.trace) ∙ g.is ∙ out in
      let same : e ≡ event = ap (went_event e) went in
      let there : IsSessionOf new p (with_event s event) =
      subst (λ o. IsSessionOf new p (with_made (with_run s (after s.run o)) event)) out
      (noted p (with_run s (after s.run (outcome what))) g.stands) in
      record {
        stands = subst (λ d. IsSessionOf new p (with_event s d)) (sym same) there;
        makes = record {
          dropped = told.0;
          told = subst (λ d. Told (d ∷ []) before later told.0) (sym same) told.1;
          is = refl;
        };
      }

  -- a turn that made no event
  pub not_idle : (old mid : Sitting M) (q : ℕ) (what : Turned) (why : turns.Idle) → outcome what ≡ Stays why
      → IsSameSitting old mid
      → ((p : Program) (s : Session) → IsSessionOf old p s → HasGone p s q mid what)
      → (p : Program) (s : Session) (e : Event) → IsSessionOf old p s → IsNextOf p old.trace s.run q e → ⊥
  not_idle old mid q what why out first gone p s e h is =
      let g = gone p s h in
      let went : Went e ≡ Stays why =
      sym is.is
      ∙ ap (λ (t : Content). go (script_of p t.n) (seen_trace t).mask (Some (seen_trace t)) s.run
      (record { proc = q; pick = 0 })) (sym first.trace) ∙ g.is ∙ out in
      absurd cc

  -- ---- the loop over the events of the finished replay

  pub moved_first : (p : Program) (s : Session) (before : List Watched) (c : Cut) (new : Sitting M)
      → IsSessionOf new p (with_run s []) → HasMoved p s before [] c new before
  moved_first p s before c new h = record { next = with_run s []; stands = h; makes = nothing; run = refl }

  -- one entry more was made
  pub moved_more : (p : Program) (s : Session) (before after later : List Watched) (t : Content) (E : List Event)
      (c : Cut) (i : ℕ) (e : Event) (mid new : Sitting M)
      → mid.trace ≡ t → IsSameSitting mid new → IsCutOfFull p t E c → slice_get E i ≡ Some e → within_test c e ≡ true
      → ((p : Program) (s : Session) (d : Event) → IsSessionOf mid p s → IsNextOf p mid.trace s.run e.proc.no d
      → HasMade p s after d new later)
      → HasMoved p s before (take i E) c mid after → HasMoved p s before (take (i + 1) E) c new later
  moved_more p s before after later t E c i e mid new here same cut at within made m =
      let picked : IsFirstPicked (script_of p t.n) (seen_trace t) E =
      subst (IsFirstPicked (script_of p t.n) (seen_trace t)) (sym cut.is)
      (full_picked (script_of p t.n) (seen_trace t)) in
      let next =
      cut_next (script_of p t.n) (seen_trace t) E c (scripts_are_lawful p t.n) picked cut.consistent i e at
      within in
      let is : IsNextOf p mid.trace m.next.run e.proc.no e =
      subst (λ u. IsNextOf p u m.next.run e.proc.no e) (sym here)
      (record {
        is = ap (λ R. go (script_of p t.n) (seen_trace t).mask (Some (seen_trace t)) R (first_turn e)) m.run
            ∙ next;
      }) in
      let g = made p m.next e m.stands is in
      record {
        next = with_event m.next e;
        stands = g.stands;
        makes =
            subst (λ F. MakesAll p (seen_trace new.trace) F (with_run s []) before (with_event m.next e) later)
            (sym (cut_with c E i e at within))
            (makes_more p (seen_trace new.trace) (cut_list c (take i E)) (with_run s []) m.next (with_event m.next e)
            before after later e
            (subst (λ u. MakesAll p (seen_trace u) (cut_list c (take i E)) (with_run s []) before m.next after)
            (sym same.trace) m.makes) g.makes);
        run = ap (λ R. R ++ e ∷ []) m.run ∙ sym (cut_with c E i e at within);
      }

  -- the entry isn't in the cut
  pub moved_past : (p : Program) (s : Session) (before after : List Watched) (E : List Event) (c : Cut) (i : ℕ)
      (e : Event) (mid : Sitting M) → slice_get E i ≡ Some e → within_test c e ≡ false
      → HasMoved p s before (take i E) c mid after → HasMoved p s before (take (i + 1) E) c mid after
  moved_past p s before after E c i e mid at without m = record {
    next = m.next;
    stands = m.stands;
    makes =
        subst (λ F. MakesAll p (seen_trace mid.trace) F (with_run s []) before m.next after)
        (sym (cut_without c E i e at without)) m.makes;
    run = m.run ∙ sym (cut_without c E i e at without);
  }

  -- all were seen
  pub moved_all : (p : Program) (s : Session) (before after : List Watched) (E : List Event) (c : Cut) (i : ℕ)
      (new : Sitting M) → length E ≤ i → HasMoved p s before (take i E) c new after
      → HasMoved p s before E c new after
  moved_all p s before after E c i new all m = subst (λ F. HasMoved p s before F c new after) (take_all i E all) m

-- ---- how a replay ends

module _ {M : Type 0} (r w : Replaying CProc M) where
  pub ends_full : (f : Finished)
      → ((s : ℕ → Script) (T : Trace) (R : List Event) → IsReplayOf process.stands_for-value.it r s T R
      → HasFinished process.stands_for-value.it w s T R f)
      → IsSameRun process.origin_of-value.it r w → (code : Code) (p : Program) (t : Content) → IsReplayAt code p t r []
      → IsFinished code p t w true
  ends_full f finished same code p t begun = full_found code p t r w f begun finished same

  pub ends_stuck : (fault : ReplayFault) (counts : List ℕ) → fault ≡ Stuck counts
      → ((s : ℕ → Script) (T : Trace) (R : List Event) → IsReplayOf process.stands_for-value.it r s T R
      → HasFailed process.stands_for-value.it w s T R fault)
      → (code : Code) (p : Program) (t : Content) → IsReplayAt code p t r [] → IsFinished code p t w false
  ends_stuck fault counts is failed code p t begun =
      stuck_found code p t r w counts begun
      (λ s T R h. subst (λ e. HasFailed process.stands_for-value.it w s T R e) is (failed s T R h))

-- ---- recorded events are of the trace's processes

test_false : (k n : ℕ) → n < k → nat_le k n ≡ false
test_false k n lt = search arith

pub not_recorded : (p : Program) (T : Trace) (q k : ℕ) → T.counts q ≡ 0 → is_recorded p T q k ≡ false
not_recorded p T q k none_ = by (nat_le 1 k) refl
  where
    by : (b : Bool) → nat_le 1 k ≡ b → (b && nat_le k (T.counts q)) ≡ false
    by false e = refl
    by true e = test_false k (T.counts q) (omega (arith, leb-true 1 k e, none_))

module _ {M : Type 0} (x v : Sitting M) (view : x ≡ v) (some : IsSomeSession x) where
  none_counted : (q : ℕ) → x.trace.n ≤ q → count_of x.trace q ≡ 0
  none_counted q above = some.2.replays.replays.small.none q above

  -- an event of a process that there isn't is not recorded
  pub foreign_event : (n q k : ℕ) → n ≡ x.trace.n → n ≤ q → (p : Program)
      → false ≡ is_recorded p (seen_trace v.trace) q k
  foreign_event n q k many above p =
      subst (λ (y : Sitting M). false ≡ is_recorded p (seen_trace y.trace) q k) view
      (sym (not_recorded p (seen_trace x.trace) q k (none_counted q (omega (arith, many, above)))))

-- such a process makes none
pub foreign_turn : {M : Type 0} (x v : Sitting M) → x ≡ v → (n q : ℕ) → n ≡ x.trace.n → n ≤ q
    → (p : Program) (s : Session) (e : Event) → IsSessionOf v p s → IsNextOf p v.trace s.run q e → ⊥
foreign_turn {M = M} x v view n q many above p s e h is =
    let scripts = script_of p v.trace.n in
    let room =
    (came v.trace.mask (seen_trace v.trace) s.run q 0 e ((scripts q).next (messages s.run q) (count s.run q))
    is.is).room in
    let here : n ≡ v.trace.n = many ∙ ap (λ (y : Sitting M). y.trace.n) view in
    omega (arith, room, h.replays.replays.small.none q (omega (arith, here, above)))

-- what follows of a call that answered
pub ok_then : {T E : Type 0} (r : Result T E) {A B : Type 0} → (A → B) → OnOk r A → OnOk r B
ok_then (Ok x) f h = f h
ok_then (Err e) f h = tt

-- ---- all of the loop

-- the entries of a cut among the first i events were made
pub record IsMoving {M : Type 0} (start now : Sitting M) (before after : List Watched) (E : List Event) (c : Cut)
    (i : ℕ) : Type 0 where
  pub moved : (p : Program) (s : Session) → IsSessionOf start p s → IsCutOfFull p start.trace E c
      → HasMoved p s before (take i E) c now after
  pub same : IsSameSitting start now
  pub within : i ≤ length E

module _ {M : Type 0} where
  pub moving_first : (start now : Sitting M) (before : List Watched) (E : List Event) (c : Cut)
      → ((p : Program) (s : Session) → IsSessionOf start p s → IsSessionOf now p (with_run s []))
      → IsSameSitting start now → IsMoving start now before before E c 0
  moving_first start now before E c anew same = record {
    moved = λ p s h cut. moved_first p s before c now (anew p s h);
    same = same;
    within = omega arith;
  }

  pub moving_more : (start mid new : Sitting M) (before after later : List Watched) (E : List Event) (c : Cut) (i : ℕ)
      (e : Event) → IsMoving start mid before after E c i
      → slice_get E i ≡ Some e → e.number ≤ c e.proc.no
      → ((p : Program) (s : Session) (d : Event) → IsSessionOf mid p s → IsNextOf p mid.trace s.run e.proc.no d
      → HasMade p s after d new later) → IsSameSitting mid new
      → IsMoving start new before later E c (i + 1)
  moving_more start mid new before after later E c i e m at few made same = record {
    moved = λ p s h cut.
        moved_more p s before after later start.trace E c i e mid new m.same.trace same cut at
        (le-leb e.number (c e.proc.no) few) made (m.moved p s h cut);
    same = record { code = same.code ∙ m.same.code; trace = same.trace ∙ m.same.trace };
    within = omega (arith, slice_get_within E i e at);
  }

  pub moving_past : (start mid : Sitting M) (before after : List Watched) (E : List Event) (c : Cut) (i : ℕ)
      (e : Event) → IsMoving start mid before after E c i
      → slice_get E i ≡ Some e → c e.proc.no < e.number → IsMoving start mid before after E c (i + 1)
  moving_past start mid before after E c i e m at past = record {
    moved =
        λ p s h cut. moved_past p s before after E c i e mid at (test_false e.number (c e.proc.no) past)
        (m.moved p s h cut);
    same = m.same;
    within = omega (arith, slice_get_within E i e at);
  }

  pub moving_all : (start now : Sitting M) (before after : List Watched) (E : List Event) (c : Cut) (i : ℕ)
      → IsMoving start now before after E c i → length E ≤ i
      → (p : Program) (s : Session) → IsSessionOf start p s → IsCutOfFull p start.trace E c
      → HasMoved p s before E c now after
  moving_all start now before after E c i m all p s h cut = moved_all p s before after E c i now all (m.moved p s h cut)

-- a recorded event is of one of the processes
pub recorded_below : {M : Type 0} (v : Sitting M) (p : Program) (s : Session) → IsSessionOf v p s → (q k : ℕ)
    → is_recorded p (seen_trace v.trace) q k ≡ true → q < v.trace.n
recorded_below v p s h q k recorded =
    ⊎_elim (λ below. below)
    (λ above. absurd
    (false≢true
    (sym (not_recorded p (seen_trace v.trace) q k (h.replays.replays.small.none q (omega (arith, above))))
    ∙ recorded))) (cases_lt q v.trace.n)
