-- Worlds that are kept, and going back to the first events of a run.
use Rattle.std.proofs.Common.{◌≡◌, ℕ, zero, suc, ◌-◌, ◌≤◌, Bool, true, false, List, [], ◌∷◌, length, take, drop, Option, Some, None, refl, sym, ap, ◌∙◌, subst, arith}
use Rattle.nm_base.specs.declared.memory.WantOfMemory.{WantOfMemory}
use Rattle.std.specs.Prelude.{Result, Ok, Err, IfOk, OnOk, OnErr, ⊤, replicate, All, map, slice_get, slice_index_or, option_map, nat_le, cond}
use Rattle.std.proofs.lemmas.Bool.{leb-true}
use Rattle.std.proofs.lemmas.List.{take-append-drop, length-map, length-take-le}
use Rattle.std.proofs.lemmas.List.Elements.{All-filter}
use Rattle.std.proofs.lemmas.Option.{slice_get-map, slice_get_within, get_or_from_slice_get, same_Some}
use Rattle.nm_base.specs.Scripts.{Script}
use Rattle.nm_base.specs.Fitting.{none}
use Rattle.processes.specs.declared.states.Seat.{Seat}
use Rattle.processes.specs.Seats.{process_in}
use Rattle.c_tree.specs.declared.program.Program.{Program}
use Rattle.c_tree.specs.Play.{script_of}
use Rattle.c_tree.proofs.Histories.{scripts_are_lawful}
use Rattle.stack_code.specs.Code.{Code}
use Rattle.event_list.specs.declared.Event.{Event}
use Rattle.event_list.specs.FirstPicks.{IsFirstPicked}
use Rattle.event_list.specs.Traces.{IsReplay}
use Rattle.event_list.proofs.Fronts.{replay_front}
use Rattle.event_list.proofs.Splits.{prefix}
use Rattle.trace_file.specs.Content.{Content}
use Rattle.world.specs.Worlds.{Parts, IsWorldOf}
use Rattle.world.specs.Outcomes.{Begins}
use Rattle.replay_core.specs.Gates.{seen_trace}
use Rattle.replay_core.specs.Replaying.{Replaying, IsReplayOf, IsSameRun, ReplaysAll}
use Rattle.replay_core.specs.Backwards.{IsWayBack, HasWayBack, GoesBack}
use Rattle.checkpoints.specs.Kept.{IsCopy, IsCopyOf, up_to, last}
use Rattle.c_process.specs.Begun.{AreBegun}
use Rattle.c_process.specs.Standing.{IsCodeOf}
use Rattle.c_process.specs.contracts.script.CProcProc.TheImpl as process
use Rattle.c_process.specs.declared.process.CProc.{CProc}
use Rattle.debugger.specs.declared.breakpoints.TheConstants.{MAX_BREAKS}
use Rattle.trace_file.specs.Rules.{IsTrace}
use Rattle.debugger.specs.Sessions.{Session, first_session}
use Rattle.debugger.specs.Sittings.{Sitting, AllRun, IsReplayAt, IsKept, IsSessionOf, IsSomeSession}
use Rattle.debugger.specs.private.Making.{with_run}
use Rattle.debugger.specs.private.Moving.{events_in}

-- ---- lists

pub take_less : {X : Type 0} (xs : List X) (i j : ℕ) → i ≤ j → take i (take j xs) ≡ take i xs
take_less xs zero j h = refl
take_less xs (suc i) zero h = absurd (omega (arith, h))
take_less [] (suc i) (suc j) h = refl
take_less (x ∷ xs) (suc i) (suc j) h = ap (λ l. x ∷ l) (take_less xs i j (omega (arith, h)))

-- what holds of all holds of the one at a place
all_at : {X : Type 0} (P : X → Type 0) (xs : List X) (i : ℕ) (x : X) → All P xs → slice_get xs i ≡ Some x → P x
all_at P xs i x h at = subst P (get_or_from_slice_get xs i x x at) (h i x (slice_get_within xs i x at))

-- lists that a map takes to one list have at each place elements that it takes to one
get_mapped : {X Y : Type 0} (f : X → Y) (xs ys : List X) (i : ℕ) (x : X) → map f xs ≡ map f ys
    → slice_get xs i ≡ Some x → (y : X) × (slice_get ys i ≡ Some y) × (f x ≡ f y)
get_mapped {X = X} f xs ys i x e at =
    go (slice_get ys i) refl (ap (option_map f) (sym at) ∙ sym (slice_get-map f xs i) ∙ ap (λ zs. slice_get zs i) e
    ∙ slice_get-map f ys i)
  where
    go : (o : Option X) → slice_get ys i ≡ o → Some (f x) ≡ option_map f o
        → (y : X) × (slice_get ys i ≡ Some y) × (f x ≡ f y)
    go None k h = absurd cc
    go (Some y) k h = (y, k, same_Some (f x) (f y) h)

-- elements that a function takes to one value, as many on each side
same_values : {X Y : Type 0} (f : X → Y) (o : Y) (xs ys : List X)
    → ((q : ℕ) (x : X) → slice_get xs q ≡ Some x → f x ≡ o) → ((q : ℕ) (y : X) → slice_get ys q ≡ Some y → f y ≡ o)
    → length xs ≡ length ys → map f xs ≡ map f ys
same_values f o [] [] h k e = refl
same_values f o [] (y ∷ ys) h k e = absurd (omega (arith, e))
same_values f o (x ∷ xs) [] h k e = absurd (omega (arith, e))
same_values f o (x ∷ xs) (y ∷ ys) h k e =
    ap (λ v. v ∷ map f xs) (h 0 x refl ∙ sym (k 0 y refl))
    ∙ ap (λ l. f y ∷ l) (same_values f o xs ys (λ q z at. h (suc q) z at) (λ q z at. k (suc q) z at) (omega (arith, e)))

module _ (code : Code) (n : ℕ) (seats : List (Seat CProc)) (a : AreBegun code n n seats) where
  begins : (p : Program) → IsCodeOf p code → Begins process.stands_for-value.it (map process_in seats) (script_of p n)
  begins p is_code = record { lawful = scripts_are_lawful p n; stands = λ me x at. (a.each me x at).stands p is_code }

  begun_many : length (map process_in seats) ≡ n
  begun_many = length-map seats process_in ∙ a.count

module _ {M : Type 0} where
  -- those of at most k events have at most k events
  pub up_to_few : (k : ℕ) (kept : List (Parts CProc M)) → All (λ w. w.events ≤ k) (up_to k kept)
  up_to_few k [] = λ i d below. absurd (omega (arith, below))
  up_to_few k (w ∷ kept) = by (nat_le w.events k) refl (up_to_few k kept)
    where
      more : All (λ v. v.events ≤ k) (up_to k kept) → w.events ≤ k → All (λ v. v.events ≤ k) (w ∷ up_to k kept)
      more rest few zero d below = few
      more rest few (suc i) d below = rest i d (omega (arith, below))

      by : (b : Bool) → nat_le w.events k ≡ b → All (λ v. v.events ≤ k) (up_to k kept)
          → All (λ v. v.events ≤ k) (cond b (w ∷ up_to k kept) (up_to k kept))
      by true e rest = more rest (leb-true w.events k e)
      by false e rest = rest

  -- ---- processes of one code

  pub runs_on : (code : Code) (n : ℕ) (w v : Parts CProc M)
      → map process.origin_of-value.it v.processes ≡ map process.origin_of-value.it w.processes → AllRun code n w
      → AllRun code n v
  runs_on code n w v same h = λ q x at.
      let y = get_mapped process.origin_of-value.it v.processes w.processes q x same at in
      y.2 ∙ h q y.0 y.1

  pub one_code : (code : Code) (n : ℕ) (w v : Parts CProc M) → AllRun code n w → AllRun code n v
      → length w.processes ≡ length v.processes
      → map process.origin_of-value.it w.processes ≡ map process.origin_of-value.it v.processes
  one_code code n w v h k many = same_values process.origin_of-value.it (code, n) w.processes v.processes h k many

  begun_run : (code : Code) (n : ℕ) (seats : List (Seat CProc)) → AreBegun code n n seats → (w : Parts CProc M)
      → w.processes ≡ map process_in seats → AllRun code n w
  begun_run code n seats a w first = λ q x at. (a.each q x (ap (λ ps. slice_get ps q) (sym first) ∙ at)).origin

  -- a replay before its first event
  pub replay_begun : (code : Code) (p : Program) (t : Content) (seats : List (Seat CProc)) (r : Replaying CProc M)
      → IsCodeOf p code → AreBegun code t.n t.n seats
      → r.world.processes ≡ map process_in seats
      → ((s : ℕ → Script) → Begins process.stands_for-value.it (map process_in seats) s
      → IsReplayOf process.stands_for-value.it r s (seen_trace t) [])
      → IsReplayAt code p t r []
  replay_begun code p t seats r is_code a first stands = record {
    replays = stands (script_of p t.n) (begins code t.n seats a p is_code);
    runs = begun_run code t.n seats a r.world first;
  }

  -- ---- worlds that are kept

  module _ (code : Code) (p : Program) (t : Content) (run : List Event) where
    -- a world before the first event
    pub first_events : (seats : List (Seat CProc)) (w : Parts CProc M) → IsCodeOf p code → AreBegun code t.n t.n seats
        → ((s : ℕ → Script) → Begins process.stands_for-value.it (map process_in seats) s
        → IsWorldOf process.stands_for-value.it w s []) → w.events ≡ 0
    first_events seats w is_code a stands = (stands (script_of p t.n) (begins code t.n seats a p is_code)).events

    pub first_kept : (seats : List (Seat CProc)) (w : Parts CProc M) → IsCodeOf p code → AreBegun code t.n t.n seats
        → w.processes ≡ map process_in seats → w.mask ≡ t.mask
        → ((s : ℕ → Script) → Begins process.stands_for-value.it (map process_in seats) s
        → IsWorldOf process.stands_for-value.it w s []) → IsKept code p t run w
    first_kept seats w is_code a first mask stands =
        let h = stands (script_of p t.n) (begins code t.n seats a p is_code) in
        record {
          within = omega (arith, h.events);
          stands = subst (λ k. IsWorldOf process.stands_for-value.it w (script_of p t.n) (take k run)) (sym h.events) h;
          size = ap length first ∙ begun_many code t.n seats a;
          mask = mask;
          runs = begun_run code t.n seats a w first;
        }

    -- a copy of a world that is kept
    copy_kept : (w v : Parts CProc M) → IsKept code p t run w
        → IsCopy process.stands_for-value.it process.origin_of-value.it w v → IsKept code p t run v
    copy_kept w v h c = record {
      within = omega (arith, h.within, c.events);
      stands =
          subst (λ k. IsWorldOf process.stands_for-value.it v (script_of p t.n) (take k run)) (sym c.events)
          (c.same (script_of p t.n) (take w.events run) h.stands);
      size = c.size ∙ h.size;
      mask = c.mask ∙ h.mask;
      runs = runs_on code t.n w v c.origins h.runs;
    }

    -- a kept world is kept of the first events alone
    pub shorter : (w : Parts CProc M) (to : ℕ) → to ≤ length run → w.events ≤ to → IsKept code p t run w
        → IsKept code p t (take to run) w
    shorter w to within few k = record {
      within = omega (arith, few, length-take-le to run within);
      stands =
          subst (λ R. IsWorldOf process.stands_for-value.it w (script_of p t.n) R)
          (sym (take_less run w.events to few)) k.stands;
      size = k.size;
      mask = k.mask;
      runs = k.runs;
    }

  -- what `back_to` answers is a copy of a kept world with at most so many events
  record IsCopied (k : ℕ) (kept : List (Parts CProc M)) (v : Parts CProc M) : Type 0 where
    world : Parts CProc M
    at : last (up_to k kept) ≡ Some world
    copies : IsCopy process.stands_for-value.it process.origin_of-value.it world v

  copied : (k : ℕ) (kept : List (Parts CProc M)) (v : Parts CProc M)
      → IsCopyOf process.stands_for-value.it process.origin_of-value.it (last (up_to k kept)) (Some v)
      → IsCopied k kept v
  copied k kept v h = by (last (up_to k kept)) refl h
    where
      by : (o : Option (Parts CProc M)) → last (up_to k kept) ≡ o
          → IsCopyOf process.stands_for-value.it process.origin_of-value.it o (Some v) → IsCopied k kept v
      by None e c = absurd c
      by (Some w) e c = record { world = w; at = e; copies = c }

  pub copy_few : (k : ℕ) (kept : List (Parts CProc M)) (v : Parts CProc M)
      → IsCopyOf process.stands_for-value.it process.origin_of-value.it (last (up_to k kept)) (Some v) → v.events ≤ k
  copy_few k kept v h =
      let c = copied k kept v h in
      omega (
        arith,
        c.copies.events,
        all_at (λ w. w.events ≤ k) (up_to k kept) (length (up_to k kept) - 1) c.world
            (up_to_few k kept) c.at,
      )

  pub copy_stands : (x : Sitting M) (p : Program) (s : Session) (k : ℕ) (v : Parts CProc M) → IsSessionOf x p s
      → IsCopyOf process.stands_for-value.it process.origin_of-value.it (last (up_to k x.kept)) (Some v)
      → IsKept x.code p x.trace s.run v
  copy_stands x p s k v h is =
      let c = copied k x.kept v is in
      copy_kept x.code p x.trace s.run c.world v
      (all_at (IsKept x.code p x.trace s.run) (up_to k x.kept) (length (up_to k x.kept) - 1) c.world
      (All-filter (λ w. nat_le w.events k) (IsKept x.code p x.trace s.run) x.kept h.kept) c.at) c.copies

  -- ---- sessions

  -- with fewer kept worlds
  abbrev pub with_kept : Sitting M → List (Parts CProc M) → Sitting M
  with_kept x kept = record {
    code = x.code;
    trace = x.trace;
    replay = x.replay;
    kept = kept;
    breaks = x.breaks;
    latest = x.latest;
  }

  pub keeps_fewer : (x : Sitting M) (k : ℕ) (kept : List (Parts CProc M)) → kept ≡ up_to k x.kept
      → (p : Program) (s : Session) → IsSessionOf x p s → IsSessionOf (with_kept x kept) p s
  keeps_fewer x k kept is p s h = record {
    compiled = h.compiled;
    trace = h.trace;
    replays = h.replays;
    picked = h.picked;
    kept =
        subst (λ ws. All (IsKept x.code p x.trace s.run) ws) (sym is)
        (All-filter (λ w. nat_le w.events k) (IsKept x.code p x.trace s.run) x.kept h.kept);
    breaks = h.breaks;
    latest = h.latest;
  }

  -- with another replay
  abbrev pub with_replay : Sitting M → Replaying CProc M → Sitting M
  with_replay x r = record {
    code = x.code;
    trace = x.trace;
    replay = r;
    kept = x.kept;
    breaks = x.breaks;
    latest = x.latest;
  }

  module _ (x : Sitting M) (p : Program) (s : Session) (h : IsSessionOf x p s) where
    -- the replay goes back from a world that is kept
    is_way : (w : Parts CProc M) → IsKept x.code p x.trace s.run w
        → IsWayBack process.stands_for-value.it x.replay w (script_of p x.trace.n) (seen_trace x.trace) s.run
    is_way w k = record {
      replays = h.replays.replays;
      picked = h.picked;
      front = record {
        world = k.stands;
        replay = replay_front (script_of p x.trace.n) (seen_trace x.trace) (take w.events s.run) (drop w.events s.run)
            (subst (IsReplay (script_of p x.trace.n) (seen_trace x.trace)) (sym (take-append-drop w.events s.run))
            h.replays.replays.replay);
        events = ap (take w.events) h.replays.replays.events;
        gate = h.replays.replays.gate;
        mask = k.mask;
        size = k.size;
        small = h.replays.replays.small;
      };
    }

    pub has_way : (w : Parts CProc M) → IsKept x.code p x.trace s.run w
        → HasWayBack process.stands_for-value.it x.replay w
    has_way w k = record { scripts = script_of p x.trace.n; trace = seen_trace x.trace; run = s.run; way = is_way w k }

    pub same_code : (w : Parts CProc M) → IsKept x.code p x.trace s.run w
        → map process.origin_of-value.it w.processes ≡ map process.origin_of-value.it x.replay.world.processes
    same_code w k =
        one_code x.code x.trace.n w x.replay.world k.runs h.replays.runs (k.size ∙ sym h.replays.replays.size)

    pub gone_back : (r : Replaying CProc M) (w : Parts CProc M) (to : ℕ) → IsKept x.code p x.trace s.run w
        → to ≤ length x.replay.events → All (λ v. v.events ≤ to) x.kept
        → GoesBack process.stands_for-value.it x.replay w r to → IsSameRun process.origin_of-value.it x.replay r
        → IsSessionOf (with_replay x r) p (with_run s (take to s.run))
    gone_back r w to k within few back same =
        let within_run : to ≤ length s.run = omega (arith, within, ap length h.replays.replays.events) in
        record {
          compiled = h.compiled;
          trace = h.trace;
          replays = record {
            replays = back (script_of p x.trace.n) (seen_trace x.trace) s.run (is_way w k);
            runs = runs_on x.code x.trace.n x.replay.world r.world same.origins h.replays.runs;
          };
          picked =
              prefix (take to s.run) (drop to s.run)
              (subst (IsFirstPicked (script_of p x.trace.n) (seen_trace x.trace)) (sym (take-append-drop to s.run))
              h.picked);
          kept =
              λ i d below. shorter x.code p x.trace s.run (slice_index_or x.kept i d) to within_run (few i d below)
              (h.kept i d below);
          breaks = h.breaks;
          latest = h.latest;
        }

    -- the replay stands where it stood
    pub stays : (r : Replaying CProc M) → ReplaysAll process.stands_for-value.it x.replay r
        → IsSameRun process.origin_of-value.it x.replay r → IsSessionOf (with_replay x r) p s
    stays r all same = record {
      compiled = h.compiled;
      trace = h.trace;
      replays = record {
        replays = all (script_of p x.trace.n) (seen_trace x.trace) s.run h.replays.replays;
        runs = runs_on x.code x.trace.n x.replay.world r.world same.origins h.replays.runs;
      };
      picked = h.picked;
      kept = h.kept;
      breaks = h.breaks;
      latest = h.latest;
    }

    -- the replay begins anew, and no world is kept
    pub begins_anew : (r : Replaying CProc M) (kept : List (Parts CProc M)) → kept ≡ []
        → IsReplayAt x.code p x.trace r [] → IsSessionOf (with_kept (with_replay x r) kept) p (with_run s [])
    begins_anew r kept nothing begun = record {
      compiled = h.compiled;
      trace = h.trace;
      replays = begun;
      picked = none;
      kept =
          subst (λ ws. All (IsKept x.code p x.trace []) ws) (sym nothing) (λ i d below. absurd (omega (arith, below)));
      breaks = h.breaks;
      latest = h.latest;
    }

-- ---- what a function knows of its session: the entry's parts x, seen as v

module _ {M : Type 0} (x v : Sitting M) (view : x ≡ v) where
  -- the world before the first event
  pub first_all : (n m : ℕ) → n ≡ x.trace.n → m ≡ x.trace.mask → (seats : List (Seat CProc))
      → AreBegun x.code n n seats → (w : Parts CProc M) → w.processes ≡ map process_in seats → w.mask ≡ m
      → ((s : ℕ → Script) → Begins process.stands_for-value.it (map process_in seats) s
      → IsWorldOf process.stands_for-value.it w s [])
      → (p : Program) (s : Session) → IsSessionOf v p s → IsKept v.code p v.trace s.run w
  first_all n m many is_mask seats a w first mask stands p s h =
      let begun = subst (λ k. AreBegun x.code k k seats) many a in
      subst (λ (y : Sitting M). IsSessionOf y p s → IsKept y.code p y.trace s.run w) view
      (λ k. first_kept x.code p x.trace s.run seats w k.compiled begun first (mask ∙ is_mask) stands) h

pub first_none : {M : Type 0} (x : Sitting M) → IsSomeSession x → (n : ℕ) → n ≡ x.trace.n → (seats : List (Seat CProc))
    → AreBegun x.code n n seats → (w : Parts CProc M)
    → ((s : ℕ → Script) → Begins process.stands_for-value.it (map process_in seats) s
    → IsWorldOf process.stands_for-value.it w s []) → w.events ≡ 0
first_none x h n many seats a w stands =
    first_events x.code h.0 x.trace h.1.run seats w h.2.compiled (subst (λ k. AreBegun x.code k k seats) many a) stands

-- beginning anew
pub some_anew : {M : Type 0} (x : Sitting M) → IsSomeSession x
    → (r new : Replaying CProc M) (kept left : List (Parts CProc M)) → new ≡ r → left ≡ kept → kept ≡ []
    → ((p : Program) → IsCodeOf p x.code → IsReplayAt x.code p x.trace r [])
    → IsSomeSession (with_kept (with_replay x new) left)
some_anew x h r new kept left is are nothing begun = (
  h.0,
  with_run h.1 [],
  begins_anew x h.0 h.1 h.2 new left (are ∙ nothing)
      (subst (λ u. IsReplayAt x.code h.0 x.trace u []) (sym is) (begun h.0 h.2.compiled)),
)

pub all_anew : {M : Type 0} (x v : Sitting M) → x ≡ v → (r new : Replaying CProc M) (kept left : List (Parts CProc M))
    → new ≡ r → left ≡ kept → kept ≡ []
    → ((p : Program) → IsCodeOf p x.code → IsReplayAt x.code p x.trace r [])
    → (p : Program) (s : Session) → IsSessionOf v p s
    → IsSessionOf (with_kept (with_replay x new) left) p (with_run s [])
all_anew x v view r new kept left is are nothing begun p s h =
    let k = subst (λ y. IsSessionOf y p s) (sym view) h in
    begins_anew x p s k new left (are ∙ nothing)
    (subst (λ u. IsReplayAt x.code p x.trace u []) (sym is) (begun p k.compiled))

-- ---- with the kept worlds of few events alone

pub some_left : {M : Type 0} (x : Sitting M) → IsSomeSession x → (kept : List (Parts CProc M)) → kept ≡ x.kept
    → IsSomeSession (with_kept x kept)
some_left x h kept is = subst (λ ws. IsSomeSession (with_kept x ws)) (sym is) h

pub some_fewer : {M : Type 0} (x : Sitting M) → IsSomeSession x → (k : ℕ) (kept : List (Parts CProc M))
    → kept ≡ up_to k x.kept → IsSomeSession (with_kept x kept)
some_fewer x h k kept is = (h.0, h.1, keeps_fewer x k kept is h.0 h.1 h.2)

pub all_fewer : {M : Type 0} (x v : Sitting M) → x ≡ v → (k : ℕ) (kept : List (Parts CProc M)) → kept ≡ up_to k x.kept
    → (p : Program) (s : Session) → IsSessionOf v p s → IsSessionOf (with_kept x kept) p s
all_fewer x v view k kept is p s h = keeps_fewer x k kept is p s (subst (λ y. IsSessionOf y p s) (sym view) h)

pub kept_few : {M : Type 0} (k : ℕ) (kept left : List (Parts CProc M)) → left ≡ up_to k kept
    → All (λ w. w.events ≤ k) left
kept_few k kept left is = subst (λ ws. All (λ w. w.events ≤ k) ws) (sym is) (up_to_few k kept)

pub on_ok : {T E A : Type 0} (r : Result T E) → A → OnOk r A
on_ok (Ok x) a = a
on_ok (Err e) a = tt

-- a copy has as many events as the world that it is of
pub many_copied : {M : Type 0} (x v : Sitting M) → x ≡ v → (k : ℕ) (o : Option (Parts CProc M)) (w : Parts CProc M)
    → o ≡ Some w
    → IsCopyOf process.stands_for-value.it process.origin_of-value.it (last (up_to k x.kept)) o
    → w.events ≡ events_in (last (up_to k v.kept))
many_copied {M = M} x v view k o w is copy =
    subst (λ y. w.events ≡ events_in (last (up_to k y.kept))) view
    (by (last (up_to k x.kept))
    (subst (λ u. IsCopyOf process.stands_for-value.it process.origin_of-value.it (last (up_to k x.kept)) u) is copy))
  where
    by : (kept : Option (Parts CProc M))
        → IsCopyOf process.stands_for-value.it process.origin_of-value.it kept (Some w) → w.events ≡ events_in kept
    by (Some v) copy = copy.events
    by None copy = absurd copy

-- the world before the first event has as many as one that there isn't
pub none_copied : {E M : Type 0} (x v : Sitting M) → x ≡ v → (k : ℕ) (o : Option (Parts CProc M))
    (r : Result (Parts CProc M) E) → o ≡ None
    → IsCopyOf process.stands_for-value.it process.origin_of-value.it (last (up_to k x.kept)) o
    → IfOk r (λ w. w.events ≡ 0) → IfOk r (λ w. w.events ≡ events_in (last (up_to k v.kept)))
none_copied {M = M} x v view k o r is copy h =
    subst (λ y. IfOk r (λ w. w.events ≡ events_in (last (up_to k y.kept)))) view
    (subst (λ m. IfOk r (λ w. w.events ≡ m)) (sym none) h)
  where
    by : (kept : Option (Parts CProc M))
        → IsCopyOf process.stands_for-value.it process.origin_of-value.it kept None → events_in kept ≡ 0
    by None copy = refl
    by (Some v) copy = absurd copy

    none : events_in (last (up_to k x.kept)) ≡ 0
    none =
        by (last (up_to k x.kept))
        (subst (λ u. IsCopyOf process.stands_for-value.it process.origin_of-value.it (last (up_to k x.kept)) u) is copy)

pub few_copied : {M : Type 0} (k : ℕ) (kept : List (Parts CProc M)) (o : Option (Parts CProc M)) (w : Parts CProc M)
    → o ≡ Some w
    → IsCopyOf process.stands_for-value.it process.origin_of-value.it (last (up_to k kept)) o → w.events ≤ k
few_copied k kept o w is copy =
    copy_few k kept w
    (subst (λ u. IsCopyOf process.stands_for-value.it process.origin_of-value.it (last (up_to k kept)) u) is copy)

pub new_copied : {M : Type 0} (x : Sitting M) (k : ℕ) (left : List (Parts CProc M)) (o : Option (Parts CProc M))
    (w : Parts CProc M) → left ≡ up_to k x.kept → o ≡ Some w
    → IsCopyOf process.stands_for-value.it process.origin_of-value.it (last (up_to k x.kept)) o
    → (p : Program) (s : Session) → IsSessionOf (with_kept x left) p s → IsKept x.code p x.trace s.run w
new_copied {M = M} x k left o w are is copy p s h =
    let c =
    copied k x.kept w
    (subst (λ u. IsCopyOf process.stands_for-value.it process.origin_of-value.it (last (up_to k x.kept)) u) is
    copy) in
    copy_kept x.code p x.trace s.run c.world w
    (all_at (IsKept x.code p x.trace s.run) (up_to k x.kept) (length (up_to k x.kept) - 1) c.world
    (subst (λ (ws : List (Parts CProc M)). All (IsKept x.code p x.trace s.run) ws) are h.kept) c.at) c.copies

-- ---- going back, in a session whose parts are x: u is the session before its kept worlds were let go of

module _ {M : Type 0} (x v : Sitting M) (view : x ≡ v) (w : Parts CProc M)
    (world : (p : Program) (s : Session) → IsSessionOf v p s → IsKept v.code p v.trace s.run w) where
  kept_here : (p : Program) (s : Session) → IsSessionOf x p s → IsKept x.code p x.trace s.run w
  kept_here =
      subst (λ (y : Sitting M). (p : Program) (s : Session) → IsSessionOf y p s → IsKept y.code p y.trace s.run w)
      (sym view) world

  pub way_of : IsSomeSession x → HasWayBack process.stands_for-value.it x.replay w
  way_of some = has_way x some.0 some.1 some.2 w (kept_here some.0 some.1 some.2)

  pub origins_of : IsSomeSession x
      → map process.origin_of-value.it w.processes ≡ map process.origin_of-value.it x.replay.world.processes
  origins_of some = same_code x some.0 some.1 some.2 w (kept_here some.0 some.1 some.2)

  module _ (u : Sitting M) (to : ℕ) (within : to ≤ length u.replay.events) (same_replay : v.replay ≡ u.replay) where
    pub within_of : to ≤ length x.replay.events
    within_of =
        omega (
          arith,
          within,
          ap (λ (r : Replaying CProc M). length r.events)
              (ap (λ (y : Sitting M). y.replay) view ∙ same_replay),
        )

    module _ (few : All (λ w. w.events ≤ to) v.kept) (r : Replaying CProc M)
        (same : IsSameRun process.origin_of-value.it x.replay r) where
      few_here : All (λ w. w.events ≤ to) x.kept
      few_here = subst (λ (y : Sitting M). All (λ w. w.events ≤ to) y.kept) (sym view) few

      pub some_back : (result : Result ⊤ WantOfMemory)
          → OnOk result (GoesBack process.stands_for-value.it x.replay w r to)
          → OnErr result (ReplaysAll process.stands_for-value.it x.replay r)
          → IsSomeSession x → IsSomeSession (with_replay x r)
      some_back (Ok y) ok err some = (
        some.0,
        with_run some.1 (take to some.1.run),
        gone_back x some.0 some.1 some.2 r w to
            (kept_here some.0 some.1 some.2) within_of few_here ok same,
      )
      some_back (Err e) ok err some = (some.0, some.1, stays x some.0 some.1 some.2 r err same)

      pub all_back : (result : Result ⊤ WantOfMemory)
          → OnOk result (GoesBack process.stands_for-value.it x.replay w r to)
          → ((p : Program) (s : Session) → IsSessionOf u p s → IsSessionOf v p s)
          → OnOk result ((p : Program) (s : Session) → IsSessionOf u p s
          → IsSessionOf (with_replay x r) p (with_run s (take to s.run)))
      all_back (Ok y) ok still = λ p s h.
          let k = subst (λ y. IsSessionOf y p s) (sym view) (still p s h) in
          gone_back x p s k r w to (kept_here p s k) within_of few_here ok same
      all_back (Err e) ok still = tt

-- ---- before the first line

pub begun_session : {M : Type 0} (x : Sitting M) (p : Program) → IsCodeOf p x.code → IsTrace x.trace
    → IsReplayAt x.code p x.trace x.replay [] → x.kept ≡ []
    → x.breaks ≡ replicate MAX_BREAKS None → x.latest ≡ [] → IsSessionOf x p first_session
begun_session x p compiled trace replays kept breaks latest = record {
  compiled = compiled;
  trace = trace;
  replays = replays;
  picked = none;
  kept = subst (λ ws. All (IsKept x.code p x.trace []) ws) (sym kept) (λ i d below. absurd (omega (arith, below)));
  breaks = breaks;
  latest = latest;
}
