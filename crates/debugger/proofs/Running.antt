-- Where a run comes to a halt.
use Rattle.std.proofs.Common.{◌≡◌, ℕ, cond, ◌+◌, ◌<◌, Bool, true, false, List, [], ◌∷◌, length, Option, Some, None, refl, sym, ap, ◌∙◌, subst, arith, inl, inr, get_or, ◌≤◌}
use Rattle.std.specs.Prelude.{slice_get, option_map, position, map, nat_lt, not}
use Rattle.std.specs.List.{position_or_len}
use Rattle.std.proofs.lemmas.List.{length-map}
use Rattle.std.proofs.lemmas.Option.{get_or_from_slice_get, slice_get_within}
use Rattle.std.proofs.lemmas.Bool.{cases_eq, cond-true, cond-false, lt-ltb, le-ltb}
use Rattle.std.proofs.lemmas.List.Sums.{position_or_len_is}
use Rattle.nm_base.specs.Message.{Message}
use Rattle.nm_base.specs.Scripts.{Script}
use Rattle.nm_base.specs.declared.letter.ProcNo.{ProcNo}
use Rattle.c_tree.specs.declared.program.Program.{Program}
use Rattle.c_tree.specs.Play.{script_of}
use Rattle.event_list.specs.declared.Event.{Event}
use Rattle.event_list.specs.Events.{count, messages}
use Rattle.trace_file.specs.Content.{Content}
use Rattle.replay_core.specs.Gates.{seen_trace}
use Rattle.c_process.specs.declared.process.CProc.{CProc}
use Rattle.c_process.specs.Standing.{IsCodeOf}
use Rattle.c_process.specs.Values.{next_line_after}
use Rattle.c_process.specs.contracts.script.CProcProc.TheImpl as process
use Rattle.watchers.specs.Watched.{Watched}
use Rattle.debugger.specs.declared.breakpoints.Break.{Break}
use Rattle.debugger.specs.declared.forward.Halt.{Halt}
use Rattle.debugger.specs.declared.forward.Halt.TheVariants as halts
use Rattle.debugger.specs.Breaks.{fits_after}
use Rattle.debugger.specs.Sessions as sessions
use Rattle.debugger.specs.Sessions.{Session, Runs, halt, halt_by, is_stopping, with_event}
use Rattle.debugger.specs.Sittings.{Sitting, IsSessionOf, IsSameSitting}
use Rattle.debugger.specs.private.Making.{HasNotedStep, HasRun, halt_text}

module _ {M : Type 0} (x : Sitting M) (p : Program) (s : Session) (h : IsSessionOf x p s) where
  -- the line of the next event of process q
  pub next_seen : (q : ℕ) (y : CProc) → slice_get x.replay.world.processes q ≡ Some y
      → process.name_of-value.it y ≡ record { no = q } → (seen : Option ℕ)
      → ((p : Program) (s : Script) (letters : List Message) (k : ℕ) → IsCodeOf p (process.origin_of-value.it y).0
      → process.stands_for-value.it y s letters k
      → seen ≡ next_line_after p (process.origin_of-value.it y).1 (process.name_of-value.it y).no letters k)
      → seen ≡ next_line_after p x.trace.n q (messages s.run q) (count s.run q)
  next_seen q y at name seen told =
      let origin = h.replays.runs q y at in
      let code = subst (λ c. IsCodeOf p c.0) (sym origin) h.compiled in
      let stands = h.replays.replays.world.stands q y at in
      told p (script_of p x.trace.n q) (messages s.run q) (count s.run q) code stands
      ∙ ap (λ c. next_line_after p c.1 (process.name_of-value.it y).no (messages s.run q) (count s.run q)) origin
      ∙ ap (λ (m : ProcNo). next_line_after p x.trace.n m.no (messages s.run q) (count s.run q)) name

-- the first place where a test passes after a map
place_map : {A B : Type 0} (f : A → B) (test : B → Bool) (xs : List A)
    → position_or_len test (map f xs) ≡ position_or_len (λ x. test (f x)) xs
place_map f test [] = refl
place_map f test (x ∷ xs) = ap (λ n. cond (not (test (f x))) (1 + n) 0) (place_map f test xs)

pub position_map : {A B : Type 0} (f : A → B) (test : B → Bool) (xs : List A)
    → position test (map f xs) ≡ position (λ x. test (f x)) xs
position_map f test xs =
    ap (λ n. cond (nat_lt n (length (map f xs))) (Some n) None) (place_map f test xs)
    ∙ ap (λ n. cond (nat_lt (position_or_len (λ x. test (f x)) xs) n) (Some (position_or_len (λ x. test (f x)) xs)) None)
    (length-map xs f)

-- no test passed before place k
pub record NonePassed {A : Type 0} (test : A → Bool) (xs : List A) (k : ℕ) : Type 0 where
  pub each : (i : ℕ) (d : A) → i < k → test (get_or xs i d) ≡ false

module _ {A : Type 0} (test : A → Bool) where
  pub none_yet : (xs : List A) → NonePassed test xs 0
  none_yet xs = record { each = λ i d l. absurd (omega (arith, l)) }

  pub none_more : (xs : List A) (k : ℕ) (x : A) → slice_get xs k ≡ Some x → test x ≡ false → NonePassed test xs k
      → NonePassed test xs (k + 1)
  none_more xs k x at fails h = record {
    each = λ i d l. elim (cases_eq i k) [
      | inl z ↦ ap (λ j. test (get_or xs j d)) z ∙ ap test (get_or_from_slice_get xs k x d at) ∙ fails
      | inr z ↦ h.each i d (omega (arith, l, z))
    ];
  }

  pub passed_at : (xs : List A) (k : ℕ) (x : A) → slice_get xs k ≡ Some x → test x ≡ true → NonePassed test xs k
      → Some k ≡ position test xs
  passed_at xs k x at passes h =
      let within = slice_get_within xs k x at in
      let here = position_or_len_is test xs k x (omega (arith, within)) (λ i l. h.each i x l)
      (λ l. ap test (get_or_from_slice_get xs k x x at) ∙ passes) in
      sym (ap (λ n. cond (nat_lt n (length xs)) (Some n) None) here
      ∙ cond-true (nat_lt k (length xs)) (Some k) None (lt-ltb k (length xs) within))

  pub passed_nowhere : (xs : List A) (k : ℕ) → length xs ≤ k → NonePassed test xs k → None ≡ position test xs
  passed_nowhere [] k l h = refl
  passed_nowhere (x ∷ xs) k l h =
      let all = position_or_len_is test (x ∷ xs) (length (x ∷ xs)) x (omega arith)
      (λ i m. h.each i x (omega (arith, l, m))) (λ m. absurd (omega (arith, m))) in
      sym (ap (λ n. cond (nat_lt n (length (x ∷ xs))) (Some n) None) all
      ∙ cond-false (nat_lt (length (x ∷ xs)) (length (x ∷ xs))) (Some (length (x ∷ xs))) None
      (le-ltb (length (x ∷ xs)) (length (x ∷ xs)) (omega arith)))

-- where the run halts
pub halted : (p : Program) (t : Content) (s : Session) (watch : List Watched) (e : Event) (o : Option Halt)
    (broke stopping next : Option ℕ) (breaks : List (Option Break))
    → option_map (halt_text p t s.run) o ≡ halt_by e broke stopping
    → broke ≡ position (fits_after e.proc.no e.kind next) breaks → breaks ≡ s.breaks
    → next ≡ next_line_after p t.n e.proc.no (messages s.run e.proc.no) (count s.run e.proc.no)
    → stopping ≡ position is_stopping watch
    → option_map (halt_text p t s.run) o ≡ halt p (seen_trace t) s watch e
halted p t s watch e o broke stopping next breaks text fitting places line stops =
    text
    ∙ ap (λ b. halt_by e b stopping) (fitting ∙ ap (position (fits_after e.proc.no e.kind next)) places
    ∙ ap (λ n. position (fits_after e.proc.no e.kind n) s.breaks) line)
    ∙ ap (halt_by e (position (sessions.fits p (seen_trace t) s.run e) s.breaks)) stops

-- a run that came to this session goes on from it
pub record HasGoneOn {M : Type 0} (p : Program) (s : Session) (before : List Watched) (now : Sitting M)
    (watch : List Watched) : Type 0 where
  pub next : Session
  pub stands : IsSessionOf now p next
  pub leads : (text : List ℕ) (end : Session) (after : List Watched)
      → Runs p (seen_trace now.trace) next watch text end after → Runs p (seen_trace now.trace) s before text end after

pub record KeepsRunning {M : Type 0} (old : Sitting M) (before : List Watched) (now : Sitting M) (watch : List Watched) : Type 0 where
  pub each : (p : Program) (s : Session) → IsSessionOf old p s → HasGoneOn p s before now watch
  pub same : IsSameSitting old now

pub runs_first : {M : Type 0} (x : Sitting M) (watch : List Watched) → KeepsRunning x watch x watch
runs_first x watch = record {
  each = λ p s h. record { next = s; stands = h; leads = λ text end after k. k };
  same = record { code = refl; trace = refl };
}

pub same_sittings : {M : Type 0} (x y z : Sitting M) → IsSameSitting x y → IsSameSitting y z → IsSameSitting x z
same_sittings x y z a b = record { code = b.code ∙ a.code; trace = b.trace ∙ a.trace }

module _ {M : Type 0} (old : Sitting M) (before : List Watched) (now : Sitting M) (watch : List Watched)
    (k : KeepsRunning old before now watch) (new : Sitting M) (watch' : List Watched) (same : IsSameSitting now new) where
  leads_on : (p : Program) (s : Session) (g : HasGoneOn p s before now watch) (text : List ℕ) (end : Session) (after : List Watched)
      → Runs p (seen_trace new.trace) g.next watch text end after → Runs p (seen_trace new.trace) s before text end after
  leads_on p s g text end after =
      subst (λ t. Runs p (seen_trace t) g.next watch text end after → Runs p (seen_trace t) s before text end after)
      (sym same.trace) (g.leads text end after)

  module _ (o : Option Event) (noted : (p : Program) (s : Session) → IsSessionOf now p s → HasNotedStep p s watch new watch' o) where
    -- no step makes an event any more
    pub runs_out : o ≡ None → (p : Program) (s : Session) → IsSessionOf old p s → HasRun p s before new watch' halts.Over
    runs_out is p s h =
        let g = k.each p s h in
        let n = subst (HasNotedStep p g.next watch new watch') is (noted p g.next g.stands) in
        record {
          next = g.next;
          stands = n.stands;
          runs = leads_on p s g (sessions.end_line p (seen_trace new.trace) g.next.run) g.next watch'
              (subst (λ w. Runs p (seen_trace new.trace) g.next watch
              (sessions.end_line p (seen_trace new.trace) g.next.run) g.next w) (sym n.told) (sessions.ends n.is));
        }

    module _ (e : Event) (is : o ≡ Some e) (stop : Option Halt)
        (text : (p : Program) (s : Session) → IsSessionOf new p s
        → option_map (halt_text p new.trace s.run) stop ≡ halt p (seen_trace new.trace) s watch' e) where
      -- it halts after the event
      pub runs_into : (end : Halt) → stop ≡ Some end → (p : Program) (s : Session) → IsSessionOf old p s
          → HasRun p s before new watch' end
      runs_into end at p s h =
          let g = k.each p s h in
          let n = subst (HasNotedStep p g.next watch new watch') is (noted p g.next g.stands) in
          let there = with_event g.next e in
          record {
            next = there;
            stands = n.stands;
            runs = leads_on p s g (halt_text p new.trace there.run end) there watch'
                (sessions.halts e n.is (record { dropped = n.told.0; told = n.told.1; is = refl })
                (sym (text p there n.stands) ∙ ap (option_map (halt_text p new.trace there.run)) at));
          }

      -- it goes on
      pub runs_past : stop ≡ None → KeepsRunning old before new watch'
      runs_past at = record {
        each = λ p s h.
            let g = k.each p s h in
            let n = subst (HasNotedStep p g.next watch new watch') is (noted p g.next g.stands) in
            let there = with_event g.next e in
            record {
              next = there;
              stands = n.stands;
              leads = λ t end after rest. leads_on p s g t end after
                  (sessions.goes_on e n.is (record { dropped = n.told.0; told = n.told.1; is = refl })
                  (sym (text p there n.stands) ∙ ap (option_map (halt_text p new.trace there.run)) at) rest);
            };
        same = same_sittings old now new k.same same;
      }
