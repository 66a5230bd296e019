-- The call of main, where there is room for its frame.
use Rattle.std.proofs.Common.{◌≡◌, ℕ, ◌+◌, ◌≤◌, Bool, true, false, List, [], ◌∷◌, ◌++◌, length, take, replicate, Option, Some, None, refl, sym, ap, ◌∙◌, subst, arith}
use Rattle.std.specs.Prelude.{IsTrue, slice_get, option_map, nat_le}
use Rattle.nm_base.specs.declared.kind.FaultCause.TheVariants.{DataFull}
use Rattle.nm_base.specs.Message.{Message, message_of}
use Rattle.nm_base.specs.declared.limits.TheConstants.{MAX_DATA_WORDS}
use Rattle.c_tree.specs.State.{State, Done, then_on, Run}
use Rattle.c_tree.specs.Expr.{demand}
use Rattle.stack_code.specs.Code.{FunctionCode, Code}
use Rattle.stack_code.specs.Machine.{Control, run_code, started_by, first_data, exec}
use Rattle.stack_code.specs.Valid.{IsSound, is_within}
use Rattle.stack_code.specs.declared.code.FunctionFrame.{FunctionFrame}
use Rattle.stack_code.specs.Frame.{frame_of}
use Rattle.stack_code.specs.Together.{start_of}
use Rattle.proc_machine.specs.declared.callers.Caller.{Caller as KeptCaller}
use Rattle.proc_machine.specs.declared.execution.Execution.{Execution}
use Rattle.proc_machine.specs.View.{callers_of, frames_in, control_of, data_with}
use Rattle.proc_machine.specs.private.Moves.{CallersFit, frame_words_by}
use Rattle.proc_machine.specs.private.Sound.{IsSoundAt, Holds}
use Rattle.proc_machine.specs.private.Kept.{IsFresh}
use Rattle.proc_machine.proofs.Sending.{has_room}

module _ (code : Code) (e : Execution) (fresh : IsFresh code e) (words : List ℕ) where
  abbrev new : Execution
  new = record e { words = words }

  abbrev start : Control
  start = record { function = code.main; pc = 0; stack = []; callers = [] }

  control_is : control_of new ≡ start
  control_is =
      ap (λ f. record { function = f; pc = e.frame.place; stack = e.calls.own; callers = callers_of e.calls.callers e.calls.outer }) fresh.function
      ∙ ap (λ p. record { function = code.main; pc = p; stack = e.calls.own; callers = callers_of e.calls.callers e.calls.outer }) fresh.place
      ∙ ap (λ l. record { function = code.main; pc = 0; stack = l; callers = callers_of e.calls.callers e.calls.outer }) fresh.own
      ∙ ap (λ k. record { function = code.main; pc = 0; stack = []; callers = callers_of k e.calls.outer }) fresh.callers

  abbrev data_at : ℕ → ℕ → ℕ → List KeptCaller → Option Message → List ℕ → ℕ → State
  data_at function line base callers letter output sent = record {
    words = words;
    frames = record { function = function; line = line; base = base; entered = [] } ∷ frames_in callers;
    letter = letter;
    output = output;
    inputs = [];
    events = [];
    left = 0;
    sent = sent;
  }

  data_is : (line : ℕ) → e.frame.line ≡ line → data_with new [] 0 ≡ data_at code.main line (length code.globals) [] None [] 0
  data_is line h =
      ap (λ f. data_at f e.frame.line e.frame.base e.calls.callers (option_map message_of e.letter) e.output.items e.sent) fresh.function
      ∙ ap (λ l. data_at code.main l e.frame.base e.calls.callers (option_map message_of e.letter) e.output.items e.sent) h
      ∙ ap (λ b. data_at code.main line b e.calls.callers (option_map message_of e.letter) e.output.items e.sent) fresh.base
      ∙ ap (λ k. data_at code.main line (length code.globals) k (option_map message_of e.letter) e.output.items e.sent) fresh.callers
      ∙ ap (λ l. data_at code.main line (length code.globals) [] (option_map message_of l) e.output.items e.sent) fresh.letter
      ∙ ap (λ o. data_at code.main line (length code.globals) [] None o e.sent) fresh.output
      ∙ ap (λ s. data_at code.main line (length code.globals) [] None [] s) fresh.sent

  module _ (h : FunctionCode) (is : slice_get code.functions code.main ≡ Some h) (fits : length code.globals + h.frame_words ≤ MAX_DATA_WORDS) where
    line_is : e.frame.line ≡ h.line
    line_is = let s : option_map (λ (f : FunctionCode). f.line) (Some h) ≡ Some e.frame.line = ap (option_map (λ (f : FunctionCode). f.line)) (sym is) ∙ fresh.line in cc

    pub holds_fresh : IsSound code → IsTrue (is_within code) → Holds code new
    holds_fresh sound within =
        let at_main : IsSoundAt code start = record { here = record { function = h; here = is; kinds = []; are = tt; find = sound.operands code.main h is }; low = omega arith; callers = tt } in
        let size : frame_words_by (slice_get code.functions e.frame.function) ≡ h.frame_words = ap (λ g. frame_words_by (slice_get code.functions g)) fresh.function ∙ ap frame_words_by is in
        let base = fresh.base in
        record {
          sound = sound;
          within = within;
          control = subst (λ (c : Control). IsSoundAt code c) (sym control_is) at_main;
          frames = ((omega (arith, base, size, fits), fresh.start ∙ ap (start_of code) (sym fresh.function)), subst (λ (k : List KeptCaller). CallersFit code k) (sym fresh.callers) tt);
          room = fresh.room;
          short = fresh.short;
        }

    by_room : (b : Bool) → b ≡ true → (k : Unit {0} → Run (Unit {0})) (j : Unit {0} → Run Control) (s : State) → then_on (then_on (demand b DataFull s) k) j ≡ then_on (k tt s) j
    by_room true g k j s = refl
    by_room false g k j s = cc

    pub main_called : (count me : ℕ) → words ≡ code.globals ++ take h.frame_words ([] ++ replicate h.frame_words 0) → run_code code count me [] 0 0 ≡ Done (control_of new) (data_with new [] 0)
    main_called count me w =
        ap (λ o. then_on (started_by code count me o (first_data code count me [] 0)) (exec code count me 0)) is
        ∙ ap (λ o. then_on o (exec code count me 0)) (by_room (nat_le (length code.globals + h.frame_words) MAX_DATA_WORDS) (has_room (length code.globals + h.frame_words) MAX_DATA_WORDS fits) _ _
        (first_data code count me [] 0))
        ∙ ap (λ l. Done start (record (data_at code.main h.line (length code.globals) [] None [] 0) { words = l })) (sym w)
        ∙ ap (λ c. Done c (data_at code.main h.line (length code.globals) [] None [] 0)) (sym control_is)
        ∙ ap (λ s. Done (control_of new) s) (sym (data_is h.line line_is))

pub main_is : (o : Option FunctionCode) (f : FunctionFrame) → option_map frame_of o ≡ Some f → (h : FunctionCode) × (o ≡ Some h) × (h.frame_words ≡ f.frame_words)
main_is None f h = cc
main_is (Some g) f h = let same : g.frame_words ≡ f.frame_words = cc in (g, refl, same)
