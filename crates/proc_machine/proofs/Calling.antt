-- A call: it faults, or makes a frame.
use Rattle.std.proofs.Common.{◌≡◌, ℕ, zero, suc, ◌+◌, ◌-◌, ◌<◌, ◌≤◌, Bool, true, false, List, [], ◌∷◌, ◌++◌}
use Rattle.std.proofs.Common.{length, take, drop, reverse, Option, Some, None, refl, sym, ap, ◌∙◌, subst, arith, append_assoc, length-append}
use Rattle.std.specs.Prelude.{nat_lt, nat_le, option_map, slice_get}
use Rattle.std.proofs.lemmas.List.{append-nil}
use Rattle.std.proofs.lemmas.Grind.{reverse_onto}
use Rattle.std.proofs.lemmas.Bool.{ltb-true, ltb-false, leb-true, leb-false}
use Rattle.nm_base.specs.declared.kind.Kind.{Kind}
use Rattle.nm_base.specs.declared.kind.FaultCause.TheVariants.{DepthFull, DataFull}
use Rattle.nm_base.specs.declared.kind.Kind.TheVariants.{Faulted}
use Rattle.nm_base.specs.declared.limits.TheConstants.{MAX_DATA_WORDS}
use Rattle.c_tree.specs.State.{State, Outcome, Done, Stopped, Able, Over, Run, then_on}
use Rattle.c_tree.specs.Expr.{demand}
use Rattle.stack_code.specs.declared.code.FunctionFrame.{FunctionFrame}
use Rattle.stack_code.specs.declared.instr.Instr.TheVariants as instr
use Rattle.stack_code.specs.Code.{FunctionCode, Code}
use Rattle.stack_code.specs.Frame.{frame_of}
use Rattle.stack_code.specs.Together.{start_of}
use Rattle.stack_code.specs.Machine.{Control, popped, called, new_frame}
use Rattle.proc_machine.specs.declared.execution.Execution.{Execution}
use Rattle.proc_machine.specs.declared.callers.Caller.{Caller as KeptCaller}
use Rattle.proc_machine.specs.declared.pause.Pause.TheVariants.{Fault}
use Rattle.proc_machine.specs.Divided.{upper, lower}
use Rattle.proc_machine.specs.private.Outcomes.{pause_by}
use Rattle.proc_machine.specs.View.{callers_of, frames_in, control_of, data_with}
use Rattle.proc_machine.specs.private.Moves.{Pauses, opened, frame_words_by, Keeps}
use Rattle.proc_machine.specs.private.Ready.{param_words_by}
use Rattle.proc_machine.proofs.Upper.{take_front, drop_front}

pub popped_are : (n : ℕ) (stack words : List ℕ) → n ≤ length stack → popped n stack words ≡ (reverse (take n stack) ++ words, drop n stack)
popped_are zero stack words h = refl
popped_are (suc n) [] words h = absurd (omega (arith, h))
popped_are (suc n) (x ∷ stack) words h =
    popped_are n stack (x ∷ words) (omega (arith, h))
    ∙ ap (λ l. (l, drop n stack)) (sym (ap (λ l. l ++ words) (reverse_onto (take n stack) x []) ∙ append_assoc (reverse (take n stack)) (x ∷ []) words))

pub upper_all : (a b : List ℕ) → upper (length b) (a ++ b) ≡ a
upper_all a b =
    let n : length (a ++ b) - length b ≡ length a = omega (arith, length-append a b) in
    ap (λ k. take k (a ++ b)) n ∙ take_front a b (length a) refl

pub lower_all : (a b : List ℕ) → lower (length b) (a ++ b) ≡ b
lower_all a b =
    let n : length (a ++ b) - length b ≡ length a = omega (arith, length-append a b) in
    ap (λ k. drop k (a ++ b)) n ∙ drop_front a b (length a) refl

module _ (e : Execution) where
  abbrev at : List Kind → ℕ → State
  at events left = data_with e events left

  deep_stops : (b : Bool) → b ≡ false → (k : Unit {0} → Run (Unit {0})) (j : Unit {0} → Run Control) (events : List Kind)
      → then_on (then_on (demand b DepthFull (at events 0)) k) j ≡ Stopped Able (at events 0)
  deep_stops false h k j events = refl
  deep_stops true h k j events = cc

  deep_next : (b : Bool) → b ≡ false → (k : Unit {0} → Run (Unit {0})) (j : Unit {0} → Run Control) (events : List Kind)
      → pause_by (then_on (then_on (demand b DepthFull (at events 1)) k) j) ≡ Some (Fault DepthFull)
  deep_next false h k j events = refl
  deep_next true h k j events = cc

  deep_last : (b : Bool) → b ≡ false → (k : Unit {0} → Run (Unit {0})) (j : Unit {0} → Run Control) (events : List Kind)
      → then_on (then_on (demand b DepthFull (at events 1)) k) j ≡ Stopped Over (at (Faulted DepthFull ∷ events) 0)
  deep_last false h k j events = refl
  deep_last true h k j events = cc

  module _ (size : ℕ) where
    abbrev after : (Unit {0} → Run (Unit {0})) → Unit {0} → Run (Unit {0})
    after k _ s = then_on (demand (nat_le (length s.words + size) MAX_DATA_WORDS) DataFull s) k

    fails_stops : (d : Bool) → d ≡ false → (k : Unit {0} → Run (Unit {0})) (j : Unit {0} → Run Control) (events : List Kind)
        → then_on (then_on (demand d DataFull (at events 0)) k) j ≡ Stopped Able (at events 0)
    fails_stops false h k j events = refl
    fails_stops true h k j events = cc

    fails_next : (d : Bool) → d ≡ false → (k : Unit {0} → Run (Unit {0})) (j : Unit {0} → Run Control) (events : List Kind)
        → pause_by (then_on (then_on (demand d DataFull (at events 1)) k) j) ≡ Some (Fault DataFull)
    fails_next false h k j events = refl
    fails_next true h k j events = cc

    fails_last : (d : Bool) → d ≡ false → (k : Unit {0} → Run (Unit {0})) (j : Unit {0} → Run Control) (events : List Kind)
        → then_on (then_on (demand d DataFull (at events 1)) k) j ≡ Stopped Over (at (Faulted DataFull ∷ events) 0)
    fails_last false h k j events = refl
    fails_last true h k j events = cc

    holds_goes : (d : Bool) → d ≡ true → (k : Unit {0} → Run (Unit {0})) (j : Unit {0} → Run Control) (events : List Kind)
        → then_on (then_on (demand d DataFull (at events 0)) k) j ≡ then_on (k tt (at events 0)) j
    holds_goes true h k j events = refl
    holds_goes false h k j events = cc

    past_depth : (b : Bool) → b ≡ true → (k : Unit {0} → Run (Unit {0})) (j : Unit {0} → Run Control) (events : List Kind) (left : ℕ)
        → then_on (then_on (demand b DepthFull (at events left)) (after k)) j ≡ then_on (then_on (demand (nat_le (length e.words + size) MAX_DATA_WORDS) DataFull (at events left)) k) j
    past_depth true h k j events left = refl
    past_depth false h k j events left = cc

  abbrev depth : Bool
  depth = nat_lt (length (data_with e [] 0).frames) 256

  abbrev fits : ℕ → Bool
  fits size = nat_le (length e.words + size) MAX_DATA_WORDS

  frames_length : (ks : List KeptCaller) → length (frames_in ks) ≡ length ks
  frames_length [] = refl
  frames_length (k ∷ ks) = ap suc (frames_length ks)

  pub is_deep : 256 ≤ length e.calls.callers + 1 → depth ≡ false
  is_deep h = by depth refl
    where
      by : (b : Bool) → depth ≡ b → depth ≡ false
      by false t = t
      by true t = absurd (omega (arith, h, ltb-true (suc (length (frames_in e.calls.callers))) 256 t, frames_length e.calls.callers))

  pub is_low : length e.calls.callers + 1 < 256 → depth ≡ true
  is_low h = by depth refl
    where
      by : (b : Bool) → depth ≡ b → depth ≡ true
      by true t = t
      by false t = absurd (omega (arith, h, ltb-false (suc (length (frames_in e.calls.callers))) 256 t, frames_length e.calls.callers))

  pub is_full : (size : ℕ) → MAX_DATA_WORDS < length e.words + size → fits size ≡ false
  is_full size h = by (fits size) refl
    where
      by : (b : Bool) → fits size ≡ b → fits size ≡ false
      by false t = t
      by true t = absurd (omega (arith, h, leb-true (length e.words + size) MAX_DATA_WORDS t))

  pub has_space : (size : ℕ) → length e.words + size ≤ MAX_DATA_WORDS → fits size ≡ true
  has_space size h = by (fits size) refl
    where
      by : (b : Bool) → fits size ≡ b → fits size ≡ true
      by true t = t
      by false t = absurd (omega (arith, h, leb-false (length e.words + size) MAX_DATA_WORDS t))

  -- a call's frame, with these operands left to the caller above those of its callers, and these words first
  abbrev made : ℕ → FunctionCode → List Kind → List ℕ → List ℕ → List ℕ → Outcome Control
  made number g events stack outer words =
      Done (record { function = number; pc = 0; stack = []; callers = record { function = e.frame.function; pc = e.frame.place; stack = stack } ∷ callers_of e.calls.callers outer })
      (new_frame number g.line g.frame_words words (data_with e events 0))

  module _ (number : ℕ) (f : FunctionFrame) where
    pub called_deep : (o : Option FunctionCode) → option_map frame_of o ≡ Some f → depth ≡ false → Pauses (called number o (control_of e)) e (Fault DepthFull)
    called_deep None is h = cc
    called_deep (Some g) is h = record { stops = λ events. deep_stops depth h _ _ events; next_is = λ events. deep_next depth h _ _ events; last = λ events. deep_last depth h _ _ events }

    pub called_full : (o : Option FunctionCode) → option_map frame_of o ≡ Some f → depth ≡ true → fits f.frame_words ≡ false → Pauses (called number o (control_of e)) e (Fault DataFull)
    called_full None is h d = cc
    called_full (Some g) is h d =
        let size : f.frame_words ≡ g.frame_words = cc in
        let d2 : fits g.frame_words ≡ false = ap fits (sym size) ∙ d in
        record {
          stops = λ events. past_depth g.frame_words depth h _ _ events 0 ∙ fails_stops g.frame_words (fits g.frame_words) d2 _ _ events;
          next_is = λ events. ap pause_by (past_depth g.frame_words depth h _ _ events 1) ∙ fails_next g.frame_words (fits g.frame_words) d2 _ _ events;
          last = λ events. past_depth g.frame_words depth h _ _ events 1 ∙ fails_last g.frame_words (fits g.frame_words) d2 _ _ events;
        }

    pub called_goes : (start : ℕ) (o : Option FunctionCode) → option_map frame_of o ≡ Some f → depth ≡ true → fits f.frame_words ≡ true → f.param_words ≤ length e.calls.own → (events : List Kind)
        → called number o (control_of e) (data_with e events 0) ≡ Done (control_of (opened number start f e)) (data_with (opened number start f e) events 0)
    called_goes start None is h d few events = cc
    called_goes start (Some g) is h d few events =
        let same : frame_of g ≡ f = cc in
        subst (λ (x : FunctionFrame). fits x.frame_words ≡ true → x.param_words ≤ length e.calls.own → called number (Some g) (control_of e) (data_with e events 0) ≡ Done
        (control_of (opened number start x e)) (data_with (opened number start x e) events 0)) same by_frame d few
      where
        by_frame : fits g.frame_words ≡ true → g.param_words ≤ length e.calls.own
            → called number (Some g) (control_of e) (data_with e events 0) ≡ Done (control_of (opened number start (frame_of g) e)) (data_with (opened number start (frame_of g) e) events 0)
        by_frame d few =
            let own = e.calls.own in
            let n = g.param_words in
            let left = drop n own in
            past_depth g.frame_words depth h _ _ events 0
            ∙ holds_goes g.frame_words (fits g.frame_words) d _ _ events
            ∙ ap (λ (p : List ℕ × List ℕ). Done (record {
              function = number;
              pc = 0;
              stack = [];
              callers = record { function = e.frame.function; pc = e.frame.place; stack = p.1 } ∷ callers_of
                  e.calls.callers e.calls.outer;
            }) (new_frame number g.line g.frame_words p.0 (data_with e events 0))) (popped_are n own [] few)
            ∙ ap (λ l. made number g events left e.calls.outer l) (append-nil (reverse (take n own)))
            ∙ ap (λ l. made number g events l e.calls.outer (reverse (take n own))) (sym (upper_all left e.calls.outer))
            ∙ ap (λ l. made number g events (upper (length e.calls.outer) (left ++ e.calls.outer)) l (reverse (take n own))) (sym (lower_all left e.calls.outer))

pub params_are : (o : Option FunctionCode) (f : FunctionFrame) → option_map frame_of o ≡ Some f → param_words_by o ≡ f.param_words
params_are None f h = cc
params_are (Some g) f h = let same : g.param_words ≡ f.param_words = cc in same

pub size_is : (o : Option FunctionCode) (f : FunctionFrame) → option_map frame_of o ≡ Some f → frame_words_by o ≡ f.frame_words
size_is None f h = cc
size_is (Some g) f h = let same : g.frame_words ≡ f.frame_words = cc in same

pub call_keeps : (code : Code) (number start : ℕ) (f : FunctionFrame) (old new : Execution) → start ≡ start_of code number → new ≡ opened number start f old → option_map frame_of (slice_get code.functions number) ≡ Some f
    → length old.words + f.frame_words ≤ MAX_DATA_WORDS → Keeps code (instr.Call number) old new
call_keeps code number start f old new begins e is fits =
    let size = size_is (slice_get code.functions number) f is in
    let inner : length old.words + frame_words_by (slice_get code.functions number) ≤ MAX_DATA_WORDS = omega (arith, size, fits) in
    subst (λ x. Keeps code (instr.Call number) old x) (sym e) (record { small = tt; height = refl; frames = λ h. ((inner, begins), (h.0, h.1)) })
