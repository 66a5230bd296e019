-- What a turn or a step makes of a session.
use Rattle.std.proofs.Common.{◌≡◌, ℕ, Bool, true, false, cond, List, [], ◌∷◌, ◌++◌, length, Option, Some, None, refl, sym, ap, ◌∙◌, subst, arith}
use Rattle.std.specs.Prelude.{Result, Ok, Err, IfOk, OnErr, IfSome, slice_get, option_map, map}
use Rattle.std.proofs.lemmas.List.{length_push, take-append-le}
use Rattle.std.proofs.lemmas.List.Elements.{All-weaker, Contains-push}
use Rattle.std.proofs.lemmas.Option.{slice_get-map, same_Some, none-some}
use Rattle.nm_base.specs.declared.memory.WantOfMemory.{WantOfMemory}
use Rattle.nm_base.specs.Fitting.{more}
use Rattle.nm_base.specs.Scripts.{Script}
use Rattle.c_tree.specs.declared.program.Program.{Program}
use Rattle.c_tree.specs.Play.{script_of}
use Rattle.event_list.specs.declared.Event.{Event}
use Rattle.event_list.specs.Events.{count, messages}
use Rattle.event_list.specs.FirstPicks.{FitsFirst}
use Rattle.event_list.specs.Traces.{Trace}
use Rattle.event_list.specs.Turns as turns
use Rattle.event_list.specs.Turns.{Stays, Went, after, all_reached}
use Rattle.event_list.proofs.FinishFacts.{came}
use Rattle.world.specs.declared.world.Turned.{Turned}
use Rattle.world.specs.Outcomes.{outcome}
use Rattle.world.specs.Worlds.{Parts, IsWorldOf}
use Rattle.replay_core.proofs.ReplayLaws.{room}
use Rattle.replay_core.specs.Gates.{seen_trace}
use Rattle.replay_core.specs.Replaying.{Replaying, IsReplayOf, IsSameRun, ReplaysAll}
use Rattle.replay_core.specs.Replaying.{HasGone as TurnHasGone}
use Rattle.replay_core.specs.Stepping.{turned_by, first_event, event_or, step_of, with_step, round_from, next_in_turn}
use Rattle.replay_core.specs.Stepping.{HasStepped as StepHasStepped}
use Rattle.stack_code.specs.Code.{Code}
use Rattle.c_process.specs.declared.process.CProc.{CProc}
use Rattle.c_process.specs.contracts.script.CProcProc.TheImpl as process
use Rattle.debugger.specs.Sessions.{Session}
use Rattle.debugger.specs.Sittings.{Sitting, IsSessionOf, IsSomeSession, IsKept, AllRun}
use Rattle.debugger.specs.private.Making.{HasGone, HasStepped, IsLonger, with_run}

pub option_map_some : {X Y : Type 0} (f : X → Y) (o : Option X) (y : Y) → option_map f o ≡ Some y
    → (x : X) × (o ≡ Some x) × (f x ≡ y)
option_map_some f None y h = absurd (none-some y h)
option_map_some f (Some x) y h = (x, refl, same_Some (f x) y h)

-- the event of a step is that of some turn
module _ (s : ℕ → Script) (T : Trace) (R : List Event) (e : Event) where
  went_by : (qs : List ℕ) → first_event s T R qs ≡ Some e → (q : ℕ) × (turned_by s T R q ≡ Went e)
  went_by [] h = absurd (none-some e h)
  went_by (q ∷ qs) h = by (turned_by s T R q) refl (went_by qs) h
    where
      by : (t : turns.Turned) → turned_by s T R q ≡ t
          → (first_event s T R qs ≡ Some e → (q : ℕ) × (turned_by s T R q ≡ Went e))
          → event_or t (first_event s T R qs) ≡ Some e → (q : ℕ) × (turned_by s T R q ≡ Went e)
      by (Went f) is next k = (q, is ∙ ap Went (same_Some f e k))
      by (Stays why) is next k = next k

  pub step_went : step_of s T R ≡ Some e → (q : ℕ) × (turned_by s T R q ≡ Went e)
  step_went h = by (all_reached T R) h
    where
      by : (b : Bool) → cond b None (first_event s T R (round_from T.n (next_in_turn T.n R))) ≡ Some e
          → (q : ℕ) × (turned_by s T R q ≡ Went e)
      by true k = absurd (none-some e k)
      by false k = went_by (round_from T.n (next_in_turn T.n R)) k

-- processes of the same origins run the same code
pub same_code : (code : Code) (n : ℕ) (old new : List CProc)
    → map process.origin_of-value.it new ≡ map process.origin_of-value.it old
    → ((q : ℕ) (y : CProc) → slice_get old q ≡ Some y → process.origin_of-value.it y ≡ (code, n))
    → (q : ℕ) (y : CProc) → slice_get new q ≡ Some y → process.origin_of-value.it y ≡ (code, n)
same_code code n old new origins runs q y at =
    let here = slice_get-map process.origin_of-value.it new q ∙ ap (option_map process.origin_of-value.it) at in
    let there = sym (slice_get-map process.origin_of-value.it old q) ∙ ap (λ ys. slice_get ys q) (sym origins) ∙ here in
    let found = option_map_some process.origin_of-value.it (slice_get old q) (process.origin_of-value.it y) there in
    sym found.2 ∙ runs q found.0 found.1

-- the sitting with this replay
abbrev pub with_replay : {M : Type 0} → Sitting M → Replaying CProc M → Sitting M
with_replay x r =
    record { code = x.code; trace = x.trace; replay = r; kept = x.kept; breaks = x.breaks; latest = x.latest }

module _ {M : Type 0} (x : Sitting M) (r : Replaying CProc M) (p : Program) (s : Session) (h : IsSessionOf x p s)
    (same : IsSameRun process.origin_of-value.it x.replay r) where
  -- the processes run the same code
  still_runs : AllRun x.code x.trace.n r.world
  still_runs =
      same_code x.code x.trace.n x.replay.world.processes r.world.processes same.origins h.replays.runs

  -- the session stays as it is
  pub stayed : IsReplayOf process.stands_for-value.it r (script_of p x.trace.n) (seen_trace x.trace) s.run
      → IsSessionOf (with_replay x r) p s
  stayed stands = record {
    compiled = h.compiled;
    trace = h.trace;
    replays = record { replays = stands; runs = still_runs };
    picked = h.picked;
    kept = h.kept;
    breaks = h.breaks;
    latest = h.latest;
  }

  kept_longer : (e : Event) (w : Parts CProc M) → IsKept x.code p x.trace s.run w
      → IsKept x.code p x.trace (s.run ++ e ∷ []) w
  kept_longer e w k = record {
    within = omega (arith, k.within, length_push s.run e);
    stands = subst (IsWorldOf process.stands_for-value.it w (script_of p x.trace.n))
        (sym (take-append-le w.events s.run (e ∷ []) k.within)) k.stands;
    size = k.size;
    mask = k.mask;
    runs = k.runs;
  }

  picked_longer : (q : ℕ) (e : Event) → turned_by (script_of p x.trace.n) (seen_trace x.trace) s.run q ≡ Went e
      → FitsFirst (script_of p x.trace.n) (seen_trace x.trace) s.run e
  picked_longer q e went =
      let scripts = script_of p x.trace.n in
      let of_q = (came x.trace.mask (seen_trace x.trace) s.run q 0 e
      ((scripts q).next (messages s.run q) (count s.run q)) went).of_p in
      record { made = ap (turned_by scripts (seen_trace x.trace) s.run) of_q ∙ went }

  -- the run is one event longer
  pub grown : (q : ℕ) (e : Event) → turned_by (script_of p x.trace.n) (seen_trace x.trace) s.run q ≡ Went e
      → IsReplayOf process.stands_for-value.it r (script_of p x.trace.n) (seen_trace x.trace) (s.run ++ e ∷ [])
      → IsSessionOf (with_replay x r) p (with_run s (s.run ++ e ∷ []))
  grown q e went stands = record {
    compiled = h.compiled;
    trace = h.trace;
    replays = record { replays = stands; runs = still_runs };
    picked = more h.picked (picked_longer q e went);
    kept = All-weaker (IsKept x.code p x.trace s.run) (IsKept x.code p x.trace (s.run ++ e ∷ [])) (kept_longer e)
        x.kept h.kept;
    breaks = h.breaks;
    latest = h.latest;
  }

  turned : (q : ℕ) (w : turns.Turned) → turned_by (script_of p x.trace.n) (seen_trace x.trace) s.run q ≡ w
      → IsReplayOf process.stands_for-value.it r (script_of p x.trace.n) (seen_trace x.trace) (after s.run w)
      → IsSessionOf (with_replay x r) p (with_run s (after s.run w))
  turned q (Stays why) is stands = stayed stands
  turned q (Went e) is stands = grown q e is stands

  -- a turn of process q was made
  pub gone : (q : ℕ) (what : Turned)
      → TurnHasGone process.stands_for-value.it r (script_of p x.trace.n) (seen_trace x.trace) s.run
      (record { proc = q; pick = 0 }) what
      → HasGone p s q (with_replay x r) what
  gone q what k = record { is = k.is; stands = turned q (outcome what) k.is k.stands }

  longer : (o : Option Event) → step_of (script_of p x.trace.n) (seen_trace x.trace) s.run ≡ o
      → IsReplayOf process.stands_for-value.it r (script_of p x.trace.n) (seen_trace x.trace) (with_step s.run o)
      → IsSessionOf (with_replay x r) p (with_run s (with_step s.run o))
  longer None is stands = stayed stands
  longer (Some e) is stands =
      let by = step_went (script_of p x.trace.n) (seen_trace x.trace) s.run e is in
      grown by.0 e by.1 stands

  -- the run is longer by the event of a step
  pub longer_by : (e : Event)
      → StepHasStepped process.stands_for-value.it r (script_of p x.trace.n) (seen_trace x.trace) s.run (Some e)
      → IsLonger x (with_replay x r) e
  longer_by e k =
      let scripts = script_of p x.trace.n in
      let by = step_went scripts (seen_trace x.trace) s.run e k.is in
      let below = (came x.trace.mask (seen_trace x.trace) s.run by.0 0 e
      ((scripts by.0).next (messages s.run by.0) (count s.run by.0)) by.1).room in
      let fits = room process.stands_for-value.it x.replay scripts (seen_trace x.trace) s.run h.replays.replays by.0 below in
      let was = ap length h.replays.replays.events in
      record {
        more = omega (arith, ap length k.stands.events, was, length_push s.run e);
        room = omega (arith, fits, was);
        of = omega (arith, k.stands.world.below e (Contains-push s.run e), k.stands.size);
      }

  -- a step was made
  pub stepped : (o : Option Event)
      → StepHasStepped process.stands_for-value.it r (script_of p x.trace.n) (seen_trace x.trace) s.run o
      → HasStepped p s (with_replay x r) o
  stepped o k = record { is = k.is; stands = longer o k.is k.stands }

module _ {M : Type 0} (x : Sitting M) (r : Replaying CProc M) (same : IsSameRun process.origin_of-value.it x.replay r) where
  -- whatever comes of a turn, the sitting is that of some session
  pub some_gone : (q : ℕ) (result : Result Turned WantOfMemory)
      → IfOk result (λ what. (s : ℕ → Script) (T : Trace) (R : List Event)
      → IsReplayOf process.stands_for-value.it x.replay s T R
      → TurnHasGone process.stands_for-value.it r s T R (record { proc = q; pick = 0 }) what)
      → OnErr result (ReplaysAll process.stands_for-value.it x.replay r)
      → IsSomeSession x → IsSomeSession (with_replay x r)
  some_gone q (Ok what) ok err h =
      let scripts = script_of h.0 x.trace.n in (
        h.0,
        with_run h.1 (after h.1.run (outcome what)),
        (gone x r h.0 h.1 h.2 same q what (ok scripts (seen_trace x.trace) h.1.run h.2.replays.replays)).stands,
      )
  some_gone q (Err want) ok err h =
      let scripts = script_of h.0 x.trace.n in
      (h.0, h.1, stayed x r h.0 h.1 h.2 same (err scripts (seen_trace x.trace) h.1.run h.2.replays.replays))

  pub all_gone : (q : ℕ) (v : Sitting M) → x ≡ v → (result : Result Turned WantOfMemory)
      → IfOk result (λ what. (s : ℕ → Script) (T : Trace) (R : List Event)
      → IsReplayOf process.stands_for-value.it x.replay s T R
      → TurnHasGone process.stands_for-value.it r s T R (record { proc = q; pick = 0 }) what)
      → IfOk result (λ what. (p : Program) (s : Session) → IsSessionOf v p s → HasGone p s q (with_replay x r) what)
  all_gone q v is (Ok what) ok = λ p s h.
      let k = subst (λ y. IsSessionOf y p s) (sym is) h in
      gone x r p s k same q what (ok (script_of p x.trace.n) (seen_trace x.trace) s.run k.replays.replays)
  all_gone q v is (Err want) ok = tt

  -- the same of a step
  pub some_stepped : (result : Result (Option Event) WantOfMemory)
      → IfOk result (λ o. (s : ℕ → Script) (T : Trace) (R : List Event)
      → IsReplayOf process.stands_for-value.it x.replay s T R → StepHasStepped process.stands_for-value.it r s T R o)
      → OnErr result (ReplaysAll process.stands_for-value.it x.replay r)
      → IsSomeSession x → IsSomeSession (with_replay x r)
  some_stepped (Ok o) ok err h =
      let scripts = script_of h.0 x.trace.n in (
        h.0,
        with_run h.1 (with_step h.1.run o),
        (stepped x r h.0 h.1 h.2 same o (ok scripts (seen_trace x.trace) h.1.run h.2.replays.replays)).stands,
      )
  some_stepped (Err want) ok err h =
      let scripts = script_of h.0 x.trace.n in
      (h.0, h.1, stayed x r h.0 h.1 h.2 same (err scripts (seen_trace x.trace) h.1.run h.2.replays.replays))

  pub step_longer : (v : Sitting M) → x ≡ v → (result : Result (Option Event) WantOfMemory)
      → IfOk result (λ o. (s : ℕ → Script) (T : Trace) (R : List Event)
      → IsReplayOf process.stands_for-value.it x.replay s T R → StepHasStepped process.stands_for-value.it r s T R o)
      → IsSomeSession x → IfOk result (λ o. IfSome o (IsLonger v (with_replay x r)))
  step_longer v is (Ok (Some e)) ok h =
      subst (λ y. IsLonger y (with_replay x r) e) is (longer_by x r h.0 h.1 h.2 same e
      (ok (script_of h.0 x.trace.n) (seen_trace x.trace) h.1.run h.2.replays.replays))
  step_longer v is (Ok None) ok h = tt
  step_longer v is (Err want) ok h = tt

  pub all_stepped : (v : Sitting M) → x ≡ v → (result : Result (Option Event) WantOfMemory)
      → IfOk result (λ o. (s : ℕ → Script) (T : Trace) (R : List Event)
      → IsReplayOf process.stands_for-value.it x.replay s T R → StepHasStepped process.stands_for-value.it r s T R o)
      → IfOk result (λ o. (p : Program) (s : Session) → IsSessionOf v p s → HasStepped p s (with_replay x r) o)
  all_stepped v is (Ok o) ok = λ p s h.
      let k = subst (λ y. IsSessionOf y p s) (sym is) h in
      stepped x r p s k same o (ok (script_of p x.trace.n) (seen_trace x.trace) s.run k.replays.replays)
  all_stepped v is (Err want) ok = tt
