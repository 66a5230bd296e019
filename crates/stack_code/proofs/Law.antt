-- Laws of code alone: a run that stopped stays as it is, and a run with more events and letters is the first run, run on.
use Rattle.std.proofs.Common.{◌≡◌, ℕ, zero, suc, ◌+◌, List, [], ◌∷◌, length, Option, Some, None, refl, ap, ◌∙◌, arith}
use Rattle.std.specs.Prelude.{nat_lt, nat_le, slice_get, slice_index}
use Rattle.nm_base.specs.declared.kind.Kind.TheVariants.{Ended}
use Rattle.nm_base.specs.declared.kind.FaultCause.TheVariants.{DepthFull, DataFull}
use Rattle.nm_base.specs.Message.{Message}
use Rattle.nm_base.specs.Word.{unary, binary, as_int}
use Rattle.nm_base.specs.declared.limits.TheConstants.{MAX_DATA_WORDS}
use Rattle.c_tree.specs.State.{State, Status, Outcome, Done, Stopped, Run, then_on, ◌>>=◌, pure}
use Rattle.c_tree.specs.Storage.{base_of, zeroed}
use Rattle.c_tree.specs.Print.{printed}
use Rattle.c_tree.specs.Expr.{is_true, frame_limit}
use Rattle.c_tree.proofs.Longer.{Extends, Follows, bind_follows, pure_follows, read_follows, change_follows, end_with_follows, or_fault_follows, line_event_follows, choice_follows, demand_follows, load_follows, store_follows, element_follows, send_words_follows, receive_follows, of_letter_follows, word_of_follows, print_follows, leave_follows}
use Rattle.stack_code.specs.declared.instr.Instr.{Instr}
use Rattle.stack_code.specs.declared.instr.Instr.TheVariants as instr
use Rattle.stack_code.specs.Code.{Placed, FunctionCode, Code, steps_of}
use Rattle.stack_code.specs.Laws as law
use Rattle.stack_code.specs.Laws.{RunsOn}
use Rattle.stack_code.specs.Machine.{Caller, Control, top, below, popped, next, push, local_place, param_array, new_frame, open_frame, called, returned, conversions, text_at, act, act_if_any, shown, step, exec}

module _ (code : Code) (count me : ℕ) where
  -- ---- more steps

  pub stopped_stays : (n j : ℕ) (c : Control) (t : State) (status : Status) (s : State) → exec code count me n c t ≡ Stopped status s → exec code count me (n + j) c t ≡ Stopped status s
  stopped_stays zero j c t status s e = cc
  stopped_stays (suc n) j c t status s e =
      let more : suc n + j ≡ suc (n + j) = omega arith in
      ap (λ k. exec code count me k c t) more ∙ by_step (λ d u f. stopped_stays n j d u status s f) (step code count me c t) e
    where
      by_step : ((d : Control) (u : State) → exec code count me n d u ≡ Stopped status s → exec code count me (n + j) d u ≡ Stopped status s) → (o : Outcome Control) → then_on o (exec code count me n) ≡ Stopped status s → then_on o (exec code count me (n + j)) ≡ Stopped status s
      by_step k (Done d u) e = k d u e
      by_step k (Stopped status' s') e = e

  -- ---- more events and letters

  module _ (extra : ℕ) (letters : List Message) where
    abbrev more : State → State
    more t = law.more extra letters t

    abbrev Grows : {A : Type 0} → ℕ → ℕ → Run A → Type 0
    Grows b b' run = Follows extra letters b b' run run

    module _ (b b' : ℕ) where
      then_grows : {A B : Type 0} {run : Run A} {go : A → Run B} → Grows b b' run → ((a : A) → Grows b b' (go a)) → Grows b b' (run >>= go)
      then_grows g k = bind_follows extra letters g k

      pure_grows : {A : Type 0} (a : A) → Grows b b' (pure a)
      pure_grows a = pure_follows extra letters a

      push_grows : (c : Control) (stack : List ℕ) (run : Run ℕ) → Grows b b' run → Grows b b' (push c stack run)
      push_grows c stack run g = then_grows g (λ v. pure_grows (next c (v ∷ stack)))

      local_grows : (i : ℕ) → Grows b b' (local_place i)
      local_grows i = read_follows extra letters b b' (λ s. base_of s.frames + i) (λ s. refl)

      param_grows : (i : ℕ) → Grows b b' (param_array i)
      param_grows i = read_follows extra letters b b' (λ s. (slice_index s.words (base_of s.frames + i), slice_index s.words (base_of s.frames + i + 1))) (λ s. refl)

      open_frame_grows : (number line size : ℕ) (words : List ℕ) → Grows b b' (open_frame number line size words)
      open_frame_grows number line size words =
          then_grows (read_follows extra letters b b' (λ s. length s.frames) (λ s. refl)) (λ depth.
          then_grows (demand_follows extra letters b b' (nat_lt depth frame_limit) DepthFull) (λ _.
          then_grows (read_follows extra letters b b' (λ s. length s.words) (λ s. refl)) (λ before.
          then_grows (demand_follows extra letters b b' (nat_le (before + size) MAX_DATA_WORDS) DataFull) (λ _.
          change_follows extra letters b b' (new_frame number line size words) (λ s. refl) (λ s. refl) (λ s. refl)))))

      called_grows : (number : ℕ) (f : Option FunctionCode) (c : Control) → Grows b b' (called number f c)
      called_grows number None c = pure_grows c
      called_grows number (Some f) c = then_grows (open_frame_grows number f.line f.frame_words (popped f.param_words c.stack []).0) (λ _. pure_grows _)

      returned_grows : (callers : List Caller) (v : ℕ) → Grows b b' (returned callers v)
      returned_grows [] v = end_with_follows extra letters b b' (Ended (as_int v)) (λ sent. tt)
      returned_grows (k ∷ ks) v = then_grows (leave_follows extra letters b b' v) (λ v. pure_grows (record { function = k.function; pc = k.pc + 1; stack = v ∷ k.stack; callers = ks }))

      letter_grows : (go : Message → ℕ) → Grows b b' (Rattle.c_tree.specs.Expr.of_letter (λ m. pure (go m)))
      letter_grows go = of_letter_follows extra letters b b' (λ m. pure (go m)) (λ m. pure_grows (go m))

      pub act_grows : (i : Instr) (c : Control) → Grows b b' (act code count me i c)
      act_grows (instr.Line line) c = then_grows (line_event_follows extra letters b b' line) (λ _. pure_grows _)
      act_grows (instr.Push bits) c = push_grows c _ _ (pure_grows bits)
      act_grows instr.Drop c = pure_grows _
      act_grows instr.Dup c = pure_grows _
      act_grows instr.Swap c = pure_grows _
      act_grows (instr.GlobalPlace slot) c = push_grows c _ _ (pure_grows slot)
      act_grows (instr.LocalPlace slot) c = push_grows c _ _ (local_grows slot)
      act_grows (instr.GlobalAt base len) c = push_grows c _ _ (element_follows extra letters b b' (Some (base, len)) (top c.stack))
      act_grows (instr.LocalAt base len) c =
          push_grows c _ _ (then_grows (local_grows base) (λ place. element_follows extra letters b b' (Some (place, len)) (top c.stack)))
      act_grows (instr.ParamAt slot) c =
          push_grows c _ _ (then_grows (param_grows slot) (λ array. element_follows extra letters b b' (Some array) (top c.stack)))
      act_grows (instr.GlobalArray base len) c = pure_grows _
      act_grows (instr.LocalArray base len) c = then_grows (local_grows base) (λ place. pure_grows (next c (len ∷ place ∷ c.stack)))
      act_grows (instr.ParamArray slot) c = then_grows (param_grows slot) (λ array. pure_grows (next c (array.1 ∷ array.0 ∷ c.stack)))
      act_grows instr.Load c = push_grows c _ _ (load_follows extra letters b b' (top c.stack))
      act_grows instr.Store c = push_grows c _ _ (store_follows extra letters b b' (top (below c.stack)) (top c.stack))
      act_grows (instr.Unary op of) c = push_grows c _ _ (or_fault_follows extra letters b b' (unary op of (top c.stack)))
      act_grows (instr.Binary op of) c = push_grows c _ _ (or_fault_follows extra letters b b' (binary op of (top (below c.stack)) (top c.stack)))
      act_grows (instr.Jump target) c = pure_grows _
      act_grows (instr.JumpZero target) c = choice_follows extra letters b b' (is_true (top c.stack)) (pure_grows _) (pure_grows _)
      act_grows (instr.Zero base len) c =
          then_grows (change_follows extra letters b b' (λ s. record s { words = zeroed len (base_of s.frames + base) s.words }) (λ s. refl) (λ s. refl) (λ s. refl)) (λ _. pure_grows (next c c.stack))
      act_grows (instr.Call function) c = called_grows function (slice_get code.functions function) c
      act_grows instr.Return c = returned_grows c.callers (top c.stack)
      act_grows (instr.Send words) c = push_grows c _ _ (send_words_follows extra letters b b' count (popped (words + 2) c.stack []).0)
      act_grows instr.Receive c = push_grows c _ _ (receive_follows extra letters b b' (top c.stack))
      act_grows instr.Word c = push_grows c _ _ (word_of_follows extra letters b b' (top c.stack))
      act_grows instr.Words c = push_grows c _ _ (letter_grows (λ m. length m.words))
      act_grows instr.From c = push_grows c _ _ (letter_grows (λ m. m.id.sender.no))
      act_grows instr.Via c = push_grows c _ _ (letter_grows (λ m. m.chan))
      act_grows instr.SelfNo c = push_grows c _ _ (pure_grows me)
      act_grows instr.Count c = push_grows c _ _ (pure_grows count)
      act_grows (instr.Print text) c =
          push_grows c _ _ (print_follows extra letters b b' (printed (text_at code count me text) (popped (conversions (text_at code count me text)) c.stack []).0))

      act_if_any_grows : (x : Option Placed) (c : Control) → Grows b b' (act_if_any code count me x c)
      act_if_any_grows None c = pure_grows c
      act_if_any_grows (Some x) c = act_grows x.instr c

    shown_grows : (c : Control) (o o' : Outcome Control) → Extends extra letters o o' → (d : Control) (u : State) → shown code count me c o ≡ Done d u → shown code count me c o' ≡ Done d (more u)
    shown_grows c (Done d' u') o' e d u f =
        let place : d' ≡ d = cc in
        let state : u' ≡ u = cc in
        ap (shown code count me c) e ∙ ap (λ x. Done x (more u')) place ∙ ap (λ x. Done d (more x)) state
    shown_grows c (Stopped status s) o' e d u f = cc

    -- a step that doesn't stop is the same with more events and letters
    pub step_more : (c : Control) (t : State) (d : Control) (u : State) → step code count me c t ≡ Done d u → step code count me c (more t) ≡ Done d (more u)
    step_more c t d u e =
        let x = slice_get (steps_of code c.function) c.pc in
        let grows = (act_if_any_grows (suc t.left) (suc (t.left + extra)) x c).follows t (omega arith) (omega arith) in
        shown_grows c (act_if_any code count me x c t) (act_if_any code count me x c (more t)) grows d u e

    pub runs_on : (n : ℕ) (c : Control) (t : State) (status : Status) (s : State) → exec code count me n c t ≡ Stopped status s → RunsOn code count me extra letters c t status s
    runs_on zero c t status s e = cc
    runs_on (suc n) c t status s e = by_step (λ d u f. runs_on n d u status s f) (step code count me c t) refl e
      where
        by_step : ((d : Control) (u : State) → exec code count me n d u ≡ Stopped status s → RunsOn code count me extra letters d u status s) → (o : Outcome Control) → step code count me c t ≡ o → then_on o (exec code count me n) ≡ Stopped status s → RunsOn code count me extra letters c t status s
        by_step k (Done d u) f e =
            let r = k d u e in
            record {
              steps = suc r.steps;
              place = r.place;
              before = r.before;
              comes = ap (λ o. then_on o (exec code count me r.steps)) f ∙ r.comes;
              stops = r.stops;
              goes_on = λ j.
                  let m : suc r.steps + j ≡ suc (r.steps + j) = omega arith in
                  ap (λ i. exec code count me i c (more t)) m ∙ ap (λ o. then_on o (exec code count me (r.steps + j))) (step_more c t d u f) ∙ r.goes_on j;
            }
        by_step k (Stopped status' s') f e = record {
          steps = 0;
          place = c;
          before = t;
          comes = refl;
          stops = f ∙ e;
          goes_on = λ j. let m : 0 + j ≡ j = omega arith in ap (λ i. exec code count me i c (more t)) m;
        }
