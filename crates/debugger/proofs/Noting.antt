-- What noting an event makes of a session.
use Rattle.std.proofs.Common.{◌≡◌, ℕ, ◌<◌, Bool, true, false, cond, List, [], ◌∷◌, ◌++◌, length, take, Option, Some, None, refl, sym, ap, ◌∙◌, subst, arith}
use Rattle.std.specs.Prelude.{Result, Ok, Err, OnOk, OnErr, IfSome, All, nat_lt}
use Rattle.std.proofs.lemmas.List.{take_all}
use Rattle.std.proofs.lemmas.List.Elements.{All-cons, All-head, All-tail, All-push}
use Rattle.nm_base.specs.declared.memory.WantOfMemory.{WantOfMemory}
use Rattle.c_tree.specs.declared.program.Program.{Program}
use Rattle.c_tree.specs.Play.{script_of}
use Rattle.event_list.specs.declared.Event.{Event}
use Rattle.event_list.specs.Turns.{Stays, Went, after}
use Rattle.event_list.specs.Turns as turns
use Rattle.world.specs.declared.world.Turned.{Turned}
use Rattle.world.specs.Outcomes.{outcome}
use Rattle.world.specs.Worlds.{Parts, IsWorldOf}
use Rattle.replay_core.specs.Gates.{seen_trace}
use Rattle.replay_core.specs.Stepping.{turned_by, step_of}
use Rattle.c_process.specs.declared.process.CProc.{CProc}
use Rattle.c_process.specs.contracts.script.CProcProc.TheImpl as process
use Rattle.checkpoints.specs.Kept.{KeepsCopy, IsCopy, evens, thinned}
use Rattle.watchers.specs.Watched.{Watched, Told}
use Rattle.debugger.specs.Latest.{latest_of}
use Rattle.debugger.specs.Sessions.{Session}
use Rattle.debugger.specs.Sittings.{Sitting, IsSessionOf, IsSomeSession, IsSameSitting, IsKept}
use Rattle.debugger.specs.private.Making.{HasGone, HasStepped, HasNotedStep, HasNotedTurn, IsLonger, IsTold, event_of, with_made, with_next, with_run}
use Rattle.debugger.proofs.Growing.{same_code}

module _ {A : Type 0} (P : A → Type 0) where
  all_evens : (xs : List A) → All P xs → All P (evens xs)
  all_evens [] h = h
  all_evens (x ∷ []) h = h
  all_evens (x ∷ y ∷ xs) h =
      All-cons P x (evens xs) (All-head P x (y ∷ xs) h) (all_evens xs (All-tail P y xs (All-tail P x (y ∷ xs) h)))

  all_thinned : (xs : List A) → All P xs → All P (thinned xs)
  all_thinned xs h = by (nat_lt (length xs) 16)
    where
      by : (b : Bool) → All P (cond b xs (evens xs))
      by true = h
      by false = all_evens xs h

-- the sitting with these kept worlds, and with these latest events
abbrev pub with_kept : {M : Type 0} → Sitting M → List (Parts CProc M) → Sitting M
with_kept x kept =
    record { code = x.code; trace = x.trace; replay = x.replay; kept = kept; breaks = x.breaks; latest = x.latest }

abbrev pub with_latest : {M : Type 0} → Sitting M → List Event → Sitting M
with_latest x latest =
    record { code = x.code; trace = x.trace; replay = x.replay; kept = x.kept; breaks = x.breaks; latest = latest }

module _ {M : Type 0} (x : Sitting M) where
  -- a copy of the world stands for the run
  copied : (p : Program) (s : Session) → IsSessionOf x p s → (v : Parts CProc M)
      → IsCopy process.stands_for-value.it process.origin_of-value.it x.replay.world v
      → IsKept x.code p x.trace s.run v
  copied p s h v c =
      let world = h.replays.replays.world in
      let many : v.events ≡ length s.run = c.events ∙ world.events in
      record {
        within = omega (arith, many);
        stands = subst (IsWorldOf process.stands_for-value.it v (script_of p x.trace.n))
            (sym (ap (λ n. take n s.run) many ∙ take_all (length s.run) s.run (omega arith)))
            (c.same (script_of p x.trace.n) s.run world);
        size = c.size ∙ h.replays.replays.size;
        mask = c.mask ∙ h.replays.replays.mask;
        runs = same_code x.code x.trace.n x.replay.world.processes v.processes c.origins h.replays.runs;
      }

  keeps : (p : Program) (s : Session) → IsSessionOf x p s → (kept : List (Parts CProc M))
      → All (IsKept x.code p x.trace s.run) kept → IsSessionOf (with_kept x kept) p s
  keeps p s h kept all = record {
    compiled = h.compiled;
    trace = h.trace;
    replays = h.replays;
    picked = h.picked;
    kept = all;
    breaks = h.breaks;
    latest = h.latest;
  }

  module _ {A : Type 0} (kept : List (Parts CProc M)) (w : Parts CProc M) (is : w ≡ x.replay.world)
      (result : Result A WantOfMemory)
      (ok : OnOk result (KeepsCopy process.stands_for-value.it process.origin_of-value.it w x.kept kept))
      (err : OnErr result (kept ≡ x.kept)) where
    pub kept_on : (p : Program) (s : Session) → IsSessionOf x p s → IsSessionOf (with_kept x kept) p s
    kept_on p s h = by result ok err
      where
        by : (r : Result A WantOfMemory)
            → OnOk r (KeepsCopy process.stands_for-value.it process.origin_of-value.it w x.kept kept)
            → OnErr r (kept ≡ x.kept) → IsSessionOf (with_kept x kept) p s
        by (Ok done) k e =
            let Q = IsKept x.code p x.trace s.run in
            let copy = subst (λ u. IsCopy process.stands_for-value.it process.origin_of-value.it u k.copy) is k.is_copy in
            keeps p s h kept (subst (All Q) (sym k.is)
            (All-push Q (thinned x.kept) k.copy (all_thinned Q x.kept h.kept) (copied p s h k.copy copy)))
        by (Err want) k e = keeps p s h kept (subst (All (IsKept x.code p x.trace s.run)) (sym e) h.kept)

    pub some_kept : IsSomeSession x → IsSomeSession (with_kept x kept)
    some_kept h = (h.0, h.1, kept_on h.0 h.1 h.2)

    pub all_kept : (v : Sitting M) → x ≡ v → (p : Program) (s : Session) → IsSessionOf v p s
        → IsSessionOf (with_kept x kept) p s
    all_kept v same p s h = kept_on p s (subst (λ y. IsSessionOf y p s) (sym same) h)

  module _ (e : Event) (latest : List Event)
      (pushed : (made : List Event) → x.latest ≡ latest_of made → latest ≡ latest_of (made ++ e ∷ [])) where
    pub made_on : (p : Program) (s : Session) → IsSessionOf x p s → IsSessionOf (with_latest x latest) p (with_made s e)
    made_on p s h = record {
      compiled = h.compiled;
      trace = h.trace;
      replays = h.replays;
      picked = h.picked;
      kept = h.kept;
      breaks = h.breaks;
      latest = pushed s.made h.latest;
    }

    pub some_made : IsSomeSession x → IsSomeSession (with_latest x latest)
    some_made h = (h.0, with_made h.1 e, made_on h.0 h.1 h.2)

    pub all_made : {A : Type 0} (v new : Sitting M) → x ≡ v → (result : Result A WantOfMemory)
        → ((p : Program) (s : Session) → IsSessionOf (with_latest x latest) p s → IsSessionOf new p s)
        → OnOk result ((p : Program) (s : Session) → IsSessionOf v p s → IsSessionOf new p (with_made s e))
    all_made v new same (Ok done) after =
        λ p s h. after p (with_made s e) (made_on p s (subst (λ y. IsSessionOf y p s) (sym same) h))
    all_made v new same (Err want) after = tt

-- a step, and what was noted of it
module _ {M : Type 0} (old mid new : Sitting M) (o : Option Event) (before after : List Watched)
    (same : IsSameSitting mid new) where
  pub noted_event : (e : Event) → o ≡ Some e
      → ((p : Program) (s : Session) → IsSessionOf old p s → HasStepped p s mid o)
      → ((p : Program) (s : Session) → IsSessionOf mid p s → IsSessionOf new p (with_made s e))
      → ((dropped : ℕ) × Told (e ∷ []) before after dropped)
      → (p : Program) (s : Session) → IsSessionOf old p s → HasNotedStep p s before new after (Some e)
  noted_event e is stepped noted told p s h =
      let k = subst (HasStepped p s mid) is (stepped p s h) in
      record {
        is = subst (λ t. step_of (script_of p t.n) (seen_trace t) s.run ≡ Some e) (sym same.trace) k.is;
        stands = noted p (with_run s (s.run ++ e ∷ [])) k.stands;
        told = told;
      }

module _ {M : Type 0} (old mid new : Sitting M) (o : Option Event) (same : IsSameSitting mid new) where
  pub longer_event : (e : Event) → o ≡ Some e → IfSome o (IsLonger old mid) → new.replay ≡ mid.replay → IsLonger old new e
  longer_event e is longer replay =
      let k : IsLonger old mid e = subst (λ q. IfSome q (IsLonger old mid)) is longer in
      record {
        more = ap (λ r. length r.events) replay ∙ k.more;
        room = k.room;
        of = subst (λ t. e.proc.no < t.n) (sym same.trace) k.of;
      }

module _ {M : Type 0} (old new : Sitting M) (o : Option Event) (before : List Watched) where
  pub noted_nothing : o ≡ None → ((p : Program) (s : Session) → IsSessionOf old p s → HasStepped p s new o)
      → (p : Program) (s : Session) → IsSessionOf old p s → HasNotedStep p s before new before None
  noted_nothing is stepped p s h =
      let k = subst (HasStepped p s new) is (stepped p s h) in
      record { is = k.is; stands = k.stands; told = refl }

-- a turn, and what was noted of it
module _ {M : Type 0} (mid new : Sitting M) (what : Turned) (before after : List Watched) (same : IsSameSitting mid new) where
  pub noted_going : {A : Type 0} (e : Event) → outcome what ≡ Went e → (result : Result A WantOfMemory)
      → OnOk result ((p : Program) (s : Session) → IsSessionOf mid p s → IsSessionOf new p (with_made s e))
      → ((dropped : ℕ) × Told (e ∷ []) before after dropped)
      → OnOk result ((p : Program) (s : Session) (q : ℕ) → HasGone p s q mid what → HasNotedTurn p s q before new after what)
  noted_going e is (Ok done) noted told = λ p s q k.
      let stands = subst (λ w. IsSessionOf mid p (with_run s (turns.after s.run w))) is k.stands in
      record {
        is = subst (λ t. turned_by (script_of p t.n) (seen_trace t) s.run q ≡ outcome what) (sym same.trace) k.is;
        stands = subst (λ w. IsSessionOf new p (with_next s (event_of w))) (sym is)
            (noted p (with_run s (s.run ++ e ∷ [])) stands);
        told = subst (λ w. IsTold (event_of w) before after) (sym is) told;
      }
  noted_going e is (Err want) noted told = tt

module _ {M : Type 0} (new : Sitting M) (what : Turned) (before : List Watched) where
  pub noted_idle : (why : turns.Idle) → outcome what ≡ Stays why
      → (p : Program) (s : Session) (q : ℕ) → HasGone p s q new what → HasNotedTurn p s q before new before what
  noted_idle why is p s q k =
      let stands = subst (λ w. IsSessionOf new p (with_run s (turns.after s.run w))) is k.stands in
      record {
        is = k.is;
        stands = subst (λ w. IsSessionOf new p (with_next s (event_of w))) (sym is) stands;
        told = subst (λ w. IsTold (event_of w) before before) (sym is) refl;
      }
