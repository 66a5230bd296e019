-- What comes of a line, from what was made and what was printed.
use Rattle.std.proofs.Common.{◌≡◌, ℕ, Bool, false, List, Option, Some, None, refl, sym, ap, ◌∙◌, subst, arith, length, []}
use Rattle.std.specs.Prelude.{Result, Ok, Err, is_err, ⊤, position, slice_get}
use Rattle.c_tree.specs.declared.program.Program.{Program}
use Rattle.event_list.specs.declared.Event.{Event}
use Rattle.event_list.specs.Turns.{Stays, Went}
use Rattle.event_list.specs.Turns as turns
use Rattle.world.specs.declared.world.Turned.{Turned}
use Rattle.world.specs.Outcomes.{outcome}
use Rattle.world.specs.Worlds.{Parts, IsWorldOf}
use Rattle.c_process.specs.declared.process.CProc.{CProc}
use Rattle.c_process.specs.contracts.script.CProcProc.TheImpl as process
use Rattle.report.specs.Runs.{RunsProgram}
use Rattle.report.proofs.Pieces.{prints_nothing}
use Rattle.nm_outside.specs.Causes.{BelongsTo}
use Rattle.nm_outside.specs.declared.cabinet.Failed.{Failed}
use Rattle.report.specs.Printing.{Prints}
use Rattle.watchers.specs.Watched.{Watched}
use Rattle.c_tree.specs.Play.{script_of}
use Rattle.replay_core.specs.Gates.{seen_trace}
use Rattle.replay_core.specs.Stepping.{turned_by}
use Rattle.debugger.specs.declared.fault.SessionFault.{SessionFault}
use Rattle.debugger.specs.declared.fault.SessionFault.TheVariants as fault
use Rattle.debugger.specs.declared.forward.Halt.{Halt}
use Rattle.debugger.specs.declared.breakpoints.Break.{Break}
use Rattle.debugger.specs.Breaks.{is_free, is_taken, set_in, cleared_in}
use Rattle.debugger.specs.Lines.{Asked}
use Rattle.debugger.specs.Lines as lines
use Rattle.debugger.specs.Sessions as sessions
use Rattle.debugger.specs.Sessions.{Session, Reply, Answers}
use Rattle.debugger.specs.Sittings.{Sitting, IsSessionOf, HasReplied, Replies}
use Rattle.debugger.specs.Faults.{is_write}
use Rattle.debugger.specs.private.Making.{with_breaks, with_break, without_break, set_text, cleared_text, detach_text, detached_from, HasNotedStep, HasNotedTurn, HasRun, IsTold, event_of, with_next, step_text, turn_text, halt_text}

-- the same text is printed
pub same_text : {before after : Option (List ℕ)} {was now : ℕ} {result : Result ⊤ Failed} (a b : List ℕ) → a ≡ b
    → Prints before after was now a result → Prints before after was now b result
same_text {before} {after} {was} {now} {result} a b is h = subst (λ t. Prints before after was now t result) is h

memory_not_write : {A : Type 0} (r : Result A SessionFault) → r ≡ Err fault.Memory → r ≡ Err fault.Write → ⊥
memory_not_write r is h = cc

write_not_memory : {A : Type 0} (r : Result A SessionFault) → r ≡ Err fault.Write → r ≡ Err fault.Memory → ⊥
write_not_memory r is h = cc

ok_not_err : {A : Type 0} (r : Result A SessionFault) (a : A) (y : SessionFault) → r ≡ Ok a → r ≡ Err y → ⊥
ok_not_err r a y is h = cc

module _ {A : Type 0} (result : Result A SessionFault) (y : SessionFault) (is : result ≡ Err y) where
  -- memory was refused, and nothing was printed
  pub memory_caused : (n : ℕ) → y ≡ fault.Memory → BelongsTo (is_write result) n n
  memory_caused n why =
      subst (λ r. BelongsTo (is_write r) n n) (sym (is ∙ ap Err why))
      (record { later = omega arith; rose = tt; still = refl })

  -- the sink failed
  pub write_caused : (a b : ℕ) (printed : Result ⊤ Failed) (e : Failed) → printed ≡ Err e → y ≡ fault.Write
      → BelongsTo (is_err printed) a b → BelongsTo (is_write result) a b
  write_caused a b printed e failed why h =
      subst (λ r. BelongsTo (is_write r) a b) (sym (is ∙ ap Err why))
      (subst (λ r. BelongsTo (is_err r) a b) failed h)

-- all was printed
pub none_caused : (a b : ℕ) (printed : Result ⊤ Failed) (done : ⊤) → printed ≡ Ok done → BelongsTo (is_err printed) a b
    → BelongsTo false a b
none_caused a b printed done is h = subst (λ r. BelongsTo (is_err r) a b) is h

module _ {M : Type 0} (asked : Asked) (p : Program) (s : Session) (before : List Watched) (new : Sitting M)
    (after : List Watched) where
  module _ {A : Type 0} (result : Result A SessionFault) (y : SessionFault) (is : result ≡ Err y) where
    pub memory_replied : (given : Option (List ℕ)) → y ≡ fault.Memory
        → HasReplied asked p s before new after given given result
    memory_replied given why =
        subst (HasReplied asked p s before new after given given) (sym (is ∙ ap Err why))
        (record { whole = tt; part = λ e. absurd (memory_not_write (Err fault.Memory) refl e); stopped = λ e. refl })

    pub write_replied : (given given' : Option (List ℕ)) (was now : ℕ) (text : List ℕ) (printed : Result ⊤ Failed)
        (e : Failed) → printed ≡ Err e → y ≡ fault.Write → Replies asked p s before new after text
        → Prints given given' was now text printed → HasReplied asked p s before new after given given' result
    write_replied given given' was now text printed e failed why replies prints =
        let part = (subst (Prints given given' was now text) failed prints).err in
        subst (HasReplied asked p s before new after given given') (sym (is ∙ ap Err why))
        (record { whole = tt; part = λ z. (text, replies, part); stopped = λ z. absurd (write_not_memory (Err fault.Write) refl z) })

  pub all_replied : {A : Type 0} (a : A) (given given' : Option (List ℕ)) (was now : ℕ) (text : List ℕ)
      (printed : Result ⊤ Failed) (done : ⊤) → printed ≡ Ok done → Replies asked p s before new after text
      → Prints given given' was now text printed → HasReplied asked p s before new after given given' (Ok a)
  all_replied a given given' was now text printed done is replies prints =
      let whole = (subst (Prints given given' was now text) is prints).ok in
      record {
        whole = (text, replies, whole);
        part = λ z. absurd (ok_not_err (Ok a) a fault.Write refl z);
        stopped = λ z. absurd (ok_not_err (Ok a) a fault.Memory refl z);
      }

module _ {M : Type 0} (p : Program) (s : Session) (before : List Watched) (new : Sitting M) (after : List Watched) where
  pub step_replies : (o : Option Event) → HasNotedStep p s before new after o
      → Replies lines.Step p s before new after (step_text p new.trace (with_next s o).run o)
  step_replies None k = record {
    next = s;
    stands = k.stands;
    answers = subst (λ w. Answers p (seen_trace new.trace) lines.Step s before
        (sessions.end_line p (seen_trace new.trace) s.run) s w) (sym k.told) (sessions.step_ends k.is);
  }
  step_replies (Some e) k = record {
    next = with_next s (Some e);
    stands = k.stands;
    answers = sessions.steps e k.is (record { dropped = k.told.0; told = k.told.1; is = refl });
  }

  turn_by : (q : ℕ) (w : turns.Turned)
      → turned_by (script_of p new.trace.n) (seen_trace new.trace) s.run q ≡ w
      → IsSessionOf new p (with_next s (event_of w)) → IsTold (event_of w) before after
      → Replies (lines.StepOf q) p s before new after (turn_text w)
  turn_by q (Stays why) is stands told = record {
    next = s;
    stands = stands;
    answers = subst (λ w. Answers p (seen_trace new.trace) (lines.StepOf q) s before (sessions.idle_line why) s w)
        (sym told) (sessions.idles q why is);
  }
  turn_by q (Went e) is stands told = record {
    next = with_next s (Some e);
    stands = stands;
    answers = sessions.steps_one q e is (record { dropped = told.0; told = told.1; is = refl });
  }

  pub turn_replies : (q : ℕ) (what : Turned) → HasNotedTurn p s q before new after what
      → Replies (lines.StepOf q) p s before new after (turn_text (outcome what))
  turn_replies q what k = turn_by q (outcome what) k.is k.stands k.told

  pub run_replies : (end : Halt) (k : HasRun p s before new after end)
      → Replies lines.Run p s before new after (halt_text p new.trace k.next.run end)
  run_replies end k = record { next = k.next; stands = k.stands; answers = sessions.runs k.runs }

-- the parts of a reply that is quiet
quietly_of : {M : Type 0} (p : Program) (s : Session) (asked : Asked) (new : Sitting M) (watch : List Watched) (r : Reply)
    → sessions.quiet p (seen_trace new.trace) s asked ≡ Some r → IsSessionOf new p r.session
    → Replies asked p s watch new watch r.text
quietly_of p s asked new watch r is stands = record { next = r.session; stands = stands; answers = sessions.quietly is }

module _ {M : Type 0} (p : Program) (s : Session) (new : Sitting M) (watch : List Watched) where
  set_at_is : (b : Break) (o : Option ℕ)
      → sessions.set_at s b o ≡ record { text = set_text b o; session = with_breaks s (set_in s.breaks b o) }
  set_at_is b None = refl
  set_at_is b (Some k) = refl

  pub set_replies : (b : Break) (free : Option ℕ) → free ≡ position is_free s.breaks
      → IsSessionOf new p (with_breaks s (with_break b s.breaks))
      → Replies (lines.SetBreak b.proc.no b.at) p s watch new watch (set_text b free)
  set_replies b free is stands =
      let o = position is_free s.breaks in
      subst (λ f. Replies (lines.SetBreak b.proc.no b.at) p s watch new watch (set_text b f)) (sym is)
      (quietly_of p s (lines.SetBreak b.proc.no b.at) new watch
      (record { text = set_text b o; session = with_breaks s (set_in s.breaks b o) }) (ap Some (set_at_is b o)) stands)

  clear_at_is : (k : ℕ) (o : Option (Option Break))
      → sessions.clear_at s k o ≡ record { text = cleared_text k (is_taken o); session = with_breaks s (cleared_in s.breaks k o) }
  clear_at_is k None = refl
  clear_at_is k (Some None) = refl
  clear_at_is k (Some (Some b)) = refl

  pub clear_replies : (k : ℕ) (taken : Bool) → taken ≡ is_taken (slice_get s.breaks k)
      → IsSessionOf new p (with_breaks s (without_break k s.breaks))
      → Replies (lines.Clear k) p s watch new watch (cleared_text k taken)
  clear_replies k taken is stands =
      let o = slice_get s.breaks k in
      subst (λ t. Replies (lines.Clear k) p s watch new watch (cleared_text k t)) (sym is)
      (quietly_of p s (lines.Clear k) new watch
      (record { text = cleared_text k (is_taken o); session = with_breaks s (cleared_in s.breaks k o) })
      (ap Some (clear_at_is k o)) stands)

  pub watch_replies : IsSessionOf new p s → Replies lines.Watch p s watch new watch (sessions.watch_text watch)
  watch_replies stands = record { next = s; stands = stands; answers = sessions.watches }

  pub detach_replies : (k : ℕ) (left : List Watched) → left ≡ detached_from watch k (slice_get watch k)
      → IsSessionOf new p s → Replies (lines.Detach k) p s watch new left (detach_text k (slice_get watch k))
  detach_replies k left is stands =
      subst (λ l. Replies (lines.Detach k) p s watch new l (detach_text k (slice_get watch k))) (sym is)
      (by (slice_get watch k) refl)
    where
      by : (o : Option Watched) → slice_get watch k ≡ o
          → Replies (lines.Detach k) p s watch new (detached_from watch k o) (detach_text k o)
      by None e = record { next = s; stands = stands; answers = sessions.has_none k e }
      by (Some w) e = record { next = s; stands = stands; answers = sessions.detaches k w e }

module _ {M : Type 0} (p : Program) (s : Session) (x : Sitting M) (h : IsSessionOf x p s) where
  -- a line that only looks
  pub look_replies : (asked : Asked) (text : List ℕ) (watch : List Watched)
      → sessions.quiet p (seen_trace x.trace) s asked ≡ Some (sessions.says s text) → Replies asked p s watch x watch text
  look_replies asked text watch is = quietly_of p s asked x watch (sessions.says s text) is h

  module _ (w : Parts CProc M) (is : w ≡ x.replay.world) where
    pub as_many : length w.processes ≡ x.trace.n
    as_many = ap (λ v. length v.processes) is ∙ h.replays.replays.size

    -- the session's world runs the program
    pub runs_program : RunsProgram w p s.run
    runs_program = record {
      stands = subst (λ n. IsWorldOf process.stands_for-value.it w (script_of p n) s.run) (sym as_many)
          (subst (λ v. IsWorldOf process.stands_for-value.it v (script_of p x.trace.n) s.run) (sym is) h.replays.replays.world);
      code = x.code;
      compiled = h.compiled;
      runs = subst (λ n. (q : ℕ) (y : CProc) → slice_get w.processes q ≡ Some y → process.origin_of-value.it y ≡ (x.code, n))
          (sym as_many)
          (subst (λ v. (q : ℕ) (y : CProc) → slice_get v.processes q ≡ Some y → process.origin_of-value.it y ≡ (x.code, x.trace.n))
          (sym is) h.replays.runs);
    }

  -- a line to which nothing is replied
  pub silent_replied : {A : Type 0} (a : A) (asked : Asked) (watch : List Watched) (given : Option (List ℕ))
      → sessions.quiet p (seen_trace x.trace) s asked ≡ Some (sessions.says s [])
      → HasReplied asked p s watch x watch given given (Ok a)
  silent_replied a asked watch given is =
      all_replied asked p s watch x watch a given given 0 0 [] (Ok tt) tt refl (look_replies asked [] watch is)
      (prints_nothing given 0)
