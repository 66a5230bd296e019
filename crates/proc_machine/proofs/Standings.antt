-- Where a machine stands, and how it goes on.
use Rattle.std.proofs.Common.{◌≡◌, ℕ, zero, suc, ◌+◌, Bool, true, false, List, [], ◌∷◌, ◌++◌, length, Option, Some, None, refl, sym, ap, ◌∙◌, arith}
use Rattle.std.proofs.Math.Logic.{∥∥₁_elim}
use Rattle.std.specs.Prelude.{slice_get, nat_le}
use Rattle.std.proofs.lemmas.List.{append-nil}
use Rattle.nm_base.specs.declared.kind.Kind.{Kind}
use Rattle.nm_base.specs.declared.kind.Kind.TheVariants as kind
use Rattle.nm_base.specs.declared.kind.FaultCause.TheVariants.{DataFull}
use Rattle.nm_base.specs.Message.{Message}
use Rattle.nm_base.specs.declared.limits.TheConstants.{MAX_DATA_WORDS}
use Rattle.c_tree.specs.State.{State, Able, Wants, Over, Outcome, Done, Stopped, change, then_on}
use Rattle.c_tree.specs.Expr.{demand}
use Rattle.stack_code.specs.Code.{FunctionCode, Code}
use Rattle.stack_code.specs.Laws as law
use Rattle.stack_code.specs.Machine.{Control, step, exec, started_by, new_frame, first_data, run_code}
use Rattle.stack_code.proofs.Law.{step_more}
use Rattle.proc_machine.specs.declared.execution.Execution.{Execution}
use Rattle.proc_machine.specs.declared.pause.Pause.{Pause}
use Rattle.proc_machine.specs.declared.pause.Pause.TheVariants as pause
use Rattle.proc_machine.specs.Pauses.{status_of, pause_of}
use Rattle.proc_machine.specs.private.Outcomes.{pause_by, newest}
use Rattle.proc_machine.specs.View.{control_of, data_with}
use Rattle.proc_machine.specs.private.Run.{Reaches, StandsBefore}
use Rattle.proc_machine.specs.Standing.{StaysThere, shown_state, stand, ComesTo}
use Rattle.proc_machine.specs.private.Kept.{IsTooLarge, IsKept}
use Rattle.proc_machine.proofs.Running.{exec_more}
use Rattle.proc_machine.proofs.Sets.{Outcome-set, Status-set}

module _ (code : Code) (count me : ℕ) where
  abbrev pub run : List Message → ℕ → ℕ → Outcome Control
  run inputs k n = run_code code count me inputs k n

  -- ---- longer runs

  pub run_on : (inputs : List Message) (k n m : ℕ) (c : Control) (s : State) → run inputs k n ≡ Done c s → run inputs k (n + m) ≡ exec code count me m c s
  run_on inputs k n m c s e = by (started_by code count me (slice_get code.functions code.main) (first_data code count me inputs k)) e
    where
      by : (o : Outcome Control) → then_on o (exec code count me n) ≡ Done c s → then_on o (exec code count me (n + m)) ≡ exec code count me m c s
      by (Done x v) h = exec_more code count me n x v c s m h
      by (Stopped status v) h = cc

  module _ (letters : List Message) where
    abbrev pub more : State → State
    more s = law.more 1 letters s

    exec_further : (n : ℕ) (c : Control) (s : State) (d : Control) (u : State) → exec code count me n c s ≡ Done d u → exec code count me n c (more s) ≡ Done d (more u)
    exec_further zero c s d u e =
        let place : c ≡ d = cc in
        let same : s ≡ u = cc in
        ap (λ x. Done x (more s)) place ∙ ap (λ x. Done d (more x)) same
    exec_further (suc n) c s d u e = by (step code count me c s) refl (λ x v f. exec_further n x v d u f) e
      where
        by : (o : Outcome Control) → step code count me c s ≡ o → ((x : Control) (v : State) → exec code count me n x v ≡ Done d u → exec code count me n x (more v) ≡ Done d (more u))
            → then_on o (exec code count me n) ≡ Done d u → then_on (step code count me c (more s)) (exec code count me n) ≡ Done d (more u)
        by (Done x v) f k e = ap (λ o. then_on o (exec code count me n)) (step_more code count me 1 letters c s x v f) ∙ k x v e
        by (Stopped status v) f k e = cc

    abbrev start : Control
    start = record { function = code.main; pc = 0; stack = []; callers = [] }

    -- the call of main, where this says whether there is room
    abbrev begun_by : FunctionCode → Bool → State → Outcome Control
    begun_by f b s = then_on (then_on (demand b DataFull s) (λ _. change (new_frame code.main f.line f.frame_words []))) (λ _ t. Done start t)

    never_begun : (f : FunctionCode) (n j : ℕ) (inputs : List Message) (d : Control) (u : State) → then_on (begun_by f false (first_data code count me inputs j)) (exec code count me n) ≡ Done d u → ⊥
    never_begun f n zero inputs d u e = cc
    never_begun f n (suc j) inputs d u e = cc

    one_more : (k : ℕ) → k + 1 ≡ suc k
    one_more k = omega arith

    begun_further : (f : FunctionCode) (b : Bool) (inputs : List Message) (k n : ℕ) (d : Control) (u : State)
        → then_on (begun_by f b (first_data code count me inputs k)) (exec code count me n) ≡ Done d u
        → then_on (begun_by f b (first_data code count me (inputs ++ letters) (suc k))) (exec code count me n) ≡ Done d (more u)
    begun_further f true inputs k n d u e =
        ap (λ j. exec code count me n start (new_frame code.main f.line f.frame_words [] (first_data code count me (inputs ++ letters) j))) (sym (one_more k))
        ∙ exec_further n start (new_frame code.main f.line f.frame_words [] (first_data code count me inputs k)) d u e
    begun_further f false inputs k n d u e = absurd (never_begun f n k inputs d u e)

    main_further : (o : Option FunctionCode) (inputs : List Message) (k n : ℕ) (d : Control) (u : State)
        → then_on (started_by code count me o (first_data code count me inputs k)) (exec code count me n) ≡ Done d u
        → then_on (started_by code count me o (first_data code count me (inputs ++ letters) (suc k))) (exec code count me n) ≡ Done d (more u)
    main_further None inputs k n d u e =
        ap (λ j. exec code count me n start (first_data code count me (inputs ++ letters) j)) (sym (one_more k)) ∙ exec_further n start (first_data code count me inputs k) d u e
    main_further (Some f) inputs k n d u e = begun_further f (nat_le (length code.globals + f.frame_words) MAX_DATA_WORDS) inputs k n d u e

    -- the same run, with one more event and more letters to come
    pub run_further : (inputs : List Message) (k n : ℕ) (d : Control) (u : State) → run inputs k n ≡ Done d u → run (inputs ++ letters) (suc k) n ≡ Done d (more u)
    run_further inputs k n d u e = main_further (slice_get code.functions code.main) inputs k n d u e

  -- ---- one more step

  end_of : (o : Outcome Control) → then_on o (exec code count me 0) ≡ o
  end_of (Done d u) = refl
  end_of (Stopped status u) = refl

  pub one_step : (inputs : List Message) (k n : ℕ) (c : Control) (s : State) → run inputs k n ≡ Done c s → run inputs k (n + 1) ≡ step code count me c s
  one_step inputs k n c s e = run_on inputs k n 1 c s e ∙ end_of (step code count me c s)

  -- ---- no room for main

  module _ (e : Execution) (large : IsTooLarge code e) where
    abbrev f : FunctionCode
    f = large.main

    first_is : (inputs : List Message) (k n : ℕ) → run inputs k n ≡ then_on (begun_by [] f false (first_data code count me inputs k)) (exec code count me n)
    first_is inputs k n =
        ap (λ o. then_on (started_by code count me o (first_data code count me inputs k)) (exec code count me n)) large.is
        ∙ ap (λ b. then_on (begun_by [] f b (first_data code count me inputs k)) (exec code count me n)) large.full

    pub large_stops : (inputs : List Message) (n : ℕ) → run inputs 0 n ≡ Stopped Able (first_data code count me inputs 0)
    large_stops inputs n = first_is inputs 0 n

    pub large_ends : (inputs : List Message) (k n : ℕ) → run inputs (suc k) n ≡ Stopped Over (record (first_data code count me inputs k) { events = kind.Faulted DataFull ∷ [] })
    large_ends inputs k n = first_is inputs (suc k) n

  -- ---- what a machine knows of where it stands

  abbrev pub Kept : Execution → Bool → Pause → Type 0
  Kept e b n = ∥ IsKept code count me e b n ∥₁

  abbrev pub Comes : Execution → Bool → Pause → List Message → List Kind → Type 0
  Comes e b n inputs events = ComesTo code count me e b n inputs events

  module _ (e : Execution) (inputs : List Message) (events : List Kind) where
    abbrev pub Stops : Bool → Pause → Type 0
    Stops b n = (steps : ℕ) × (run inputs (length events) steps ≡ Stopped (status_of n) (shown_state code count me e b events))

    stops_begun : (n : Pause) → (steps : ℕ) → run inputs (length events) steps ≡ Done (control_of e) (data_with e events 0)
        → step code count me (control_of e) (data_with e events 0) ≡ Stopped (status_of n) (shown_state code count me e true events) → Stops true n
    stops_begun n steps h s = (steps + 1, one_step inputs (length events) steps (control_of e) (data_with e events 0) h ∙ s)

    pub stops : (b : Bool) (n : Pause) → Kept e b n → Comes e b n inputs events → Stops b n
    stops true pause.Done k c = (c.steps, c.comes)
    stops false pause.Done k c = (c.steps, c.comes)
    stops true n k c = stops_begun n c.steps c.comes (∥∥₁_elim k (Outcome-set _ _) (λ h. h.1.stops events))
    stops false n k c = (c.steps, c.comes ∙ ap (λ x. Stopped x (shown_state code count me e false events)) (∥∥₁_elim k (Status-set _ _) (λ h. ap status_of (sym h.0))))

    -- with one more event the run takes the next step from there
    pub one_further : (steps : ℕ) → run inputs (length events) steps ≡ Done (control_of e) (data_with e events 0)
        → run inputs (suc (length events)) (steps + 1) ≡ step code count me (control_of e) (data_with e events 1)
    one_further steps h =
        let further = run_further [] inputs (length events) steps (control_of e) (data_with e events 0) h in
        let none : inputs ++ [] ≡ inputs = append-nil inputs in
        ap (λ l. run l (suc (length events)) (steps + 1)) (sym none) ∙ one_step (inputs ++ []) (suc (length events)) steps (control_of e) (data_with e events 1) further

  -- ---- after an event

  kind_never : (k : Kind) → pause_of k ≡ pause.Done → ⊥
  kind_never (kind.Line line) h = cc
  kind_never (kind.Sent number dest chan len words) h = cc
  kind_never (kind.Accepted set id) h = cc
  kind_never (kind.Printed bytes) h = cc
  kind_never (kind.Ended value) h = cc
  kind_never (kind.Faulted cause) h = cc

  newest_never : (ks : List Kind) → newest ks ≡ Some pause.Done → ⊥
  newest_never [] h = cc
  newest_never (k ∷ ks) h = let same : pause_of k ≡ pause.Done = cc in kind_never k same

  done_never : (o : Outcome Control) → pause_by o ≡ Some pause.Done → ⊥
  done_never (Done c s) h = newest_never s.events h
  done_never (Stopped Able s) h = newest_never s.events h
  done_never (Stopped (Wants set) s) h = cc
  done_never (Stopped Over s) h = newest_never s.events h

  pub not_done : (e : Execution) (n : Pause) → StandsBefore code count me e n → n ≡ pause.Done → ⊥
  not_done e n h is = done_never (step code count me (control_of e) (data_with e [] 1)) (h.next_is [] ∙ ap Some is)

  pub stand_is : (e : Execution) (n : Pause) (events : List Kind) → (n ≡ pause.Done → ⊥) → stand code count me e true n events ≡ Done (control_of e) (data_with e events 0)
  stand_is e pause.Done events h = absurd (h refl)
  stand_is e (pause.Line line) events h = refl
  stand_is e pause.Send events h = refl
  stand_is e (pause.Receive set) events h = refl
  stand_is e pause.Print events h = refl
  stand_is e (pause.End value) events h = refl
  stand_is e (pause.Fault cause) events h = refl

  pub stays_none : (e : Execution) (n : Pause) (inputs : List Message) (events : List Kind) → (n ≡ pause.Done → ⊥) → StaysThere code count me e true n inputs events
  stays_none e pause.Done inputs events h = absurd (h refl)
  stays_none e n inputs events h = tt

  module _ (e : Execution) (n : Pause) (not : n ≡ pause.Done → ⊥) (letters : List Message) (inputs : List Message) (events : List Kind) (c : Comes e true n inputs events) where
    abbrev pub given_one : State
    given_one = law.more 1 letters (data_with e events 0)

    there : run (inputs ++ letters) (suc (length events)) (c.steps + 1) ≡ step code count me (control_of e) given_one
    there = one_step (inputs ++ letters) (suc (length events)) c.steps (control_of e) given_one
        (run_further letters inputs (length events) c.steps (control_of e) (data_with e events 0) (c.comes ∙ stand_is e n events not))

    -- an event, and the run to just before the next
    pub goes_through : (k : Kind) (e2 e3 : Execution) (n3 : Pause) → step code count me (control_of e) given_one ≡ Done (control_of e2) (data_with e2 (k ∷ events) 0)
        → Reaches code count me (control_of e2) (data_with e2 (k ∷ events) 0) (control_of e3) (data_with e3 (k ∷ events) 0) → StandsBefore code count me e3 n3
        → Comes e3 true n3 (inputs ++ letters) (k ∷ events)
    goes_through k e2 e3 n3 h r stands = record {
      steps = c.steps + 1 + r.steps;
      comes =
          run_on (inputs ++ letters) (suc (length events)) (c.steps + 1) r.steps (control_of e2) (data_with e2 (k ∷ events) 0) (there ∙ h)
          ∙ r.comes
          ∙ sym (stand_is e3 n3 (k ∷ events) (not_done e3 n3 stands));
      stays = stays_none e3 n3 (inputs ++ letters) (k ∷ events) (not_done e3 n3 stands);
    }

  -- the last event
  pub ends_there : (e : Execution) (n : Pause) → (n ≡ pause.Done → ⊥) → (inputs : List Message) (events : List Kind) → Comes e true n inputs events → (k : Kind)
      → step code count me (control_of e) (data_with e events 1) ≡ Stopped Over (shown_state code count me e true (k ∷ events)) → Comes e true pause.Done inputs (k ∷ events)
  ends_there e n not inputs events c k h =
      let here : run inputs (length events) c.steps ≡ Done (control_of e) (data_with e events 0) = c.comes ∙ stand_is e n events not in
      record {
        steps = c.steps + 1;
        comes = one_further e inputs events c.steps here ∙ h;
        stays = record { last = k; before = events; made = refl; steps = c.steps; comes = here; ends = h };
      }

  abbrev able_at : State → Outcome Control
  able_at s = Stopped Able s

  abbrev over_at : State → Outcome Control
  over_at s = Stopped Over s

  stopped_same : (s t : State) → able_at s ≡ able_at t → s ≡ t
  stopped_same s t h = cc

  never_able : (s t : State) → over_at s ≡ able_at t → ⊥
  never_able s t h = cc

  -- the fault of a main that has no room
  pub ends_large : (e : Execution) → IsTooLarge code e → (inputs : List Message) → Comes e false (pause.Fault DataFull) inputs []
      → run inputs 1 0 ≡ Stopped Over (record (data_with e (kind.Faulted DataFull ∷ []) 0) { frames = [] })
  ends_large e large inputs c =
      let same : first_data code count me inputs 0 ≡ record (data_with e [] 0) { frames = [] } = stopped_same (first_data code count me inputs 0) (record (data_with e [] 0) { frames = [] })
      (sym (large_stops e large inputs c.steps) ∙ c.comes) in
      large_ends e large inputs 0 0 ∙ ap (λ (s : State). Stopped Over (record s { events = kind.Faulted DataFull ∷ [] })) same

  pub never_later : (e : Execution) → IsTooLarge code e → (inputs : List Message) (k : Kind) (events : List Kind) → Comes e false (pause.Fault DataFull) inputs (k ∷ events) → ⊥
  never_later e large inputs k events c =
      never_able (record (first_data code count me inputs (length events)) { events = kind.Faulted DataFull ∷ [] }) (record (data_with e (k ∷ events) 0) { frames = [] })
      (sym (large_ends e large inputs (length events) c.steps) ∙ c.comes)
