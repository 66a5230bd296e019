-- One step of an execution, and a run of many.
use Rattle.std.proofs.Common.{◌^◌, ◌≡◌, ℕ, suc, ◌+◌, ◌-◌, ◌*◌, ◌<◌, ◌≤◌, Bool, true, false, List, [], ◌∷◌, length, Option, Some, None, refl, sym, ap, ◌∙◌, subst, arith}
use Rattle.std.proofs.Math.Logic.{∥∥₁_elim, ∥∥₁_map}
use Rattle.std.proofs.Props.{props}
use Rattle.std.specs.Prelude.{IsTrue, option_map, slice_get, if◌then◌else◌}
use Rattle.nm_base.specs.declared.kind.Kind.{Kind}
use Rattle.c_tree.specs.State.{State, Outcome, Done, Stopped, Able, Wants, Over}
use Rattle.stack_code.specs.declared.instr.Instr.{Instr}
use Rattle.stack_code.specs.declared.instr.Instr.TheVariants as instr
use Rattle.stack_code.specs.Code.{Placed, Code, steps_of}
use Rattle.stack_code.specs.Forward.{Advance, Ahead, AtLine, Back}
use Rattle.stack_code.specs.Valid.{finds, follows}
use Rattle.stack_code.specs.Machine.{Caller, Control, act, act_if_any, shown, step}
use Rattle.stack_code.specs.Together.{all_steps, start_of}
use Rattle.stack_code.proofs.Forward.{step_advances}
use Rattle.stack_code.proofs.Together.{start_within, fetched}
use Rattle.proc_machine.specs.declared.callers.Caller.{Caller as KeptCaller}
use Rattle.proc_machine.specs.declared.execution.Execution.{Execution}
use Rattle.proc_machine.specs.declared.pause.Pause.{Pause}
use Rattle.proc_machine.specs.declared.pause.Pause.TheVariants as pause
use Rattle.proc_machine.specs.Divided.{lower}
use Rattle.proc_machine.specs.private.Outcomes.{pause_by}
use Rattle.proc_machine.specs.View.{callers_of, control_of, data_with}
use Rattle.proc_machine.specs.private.Moves.{Pauses, Keeps, Moves, IsLast, waits}
use Rattle.proc_machine.specs.private.Sound.{Holds}
use Rattle.proc_machine.specs.private.Ready.{IsReady}
use Rattle.proc_machine.specs.private.Run.{IsLastThere, StandsBefore, waits_at, is_line, is_line_at, way, GoesOn, Steps, instr_at}
use Rattle.proc_machine.proofs.Advancing.{act_sound}
use Rattle.proc_machine.proofs.Readiness.{there, is_there, ready, it_follows, params_are}

pub callers_length : (ks : List KeptCaller) (outer : List ℕ) → length (callers_of ks outer) ≡ length ks
callers_length [] outer = refl
callers_length (k ∷ ks) outer = ap suc (callers_length ks (lower k.below outer))

IsReady-prop : (code : Code) (i : Instr) (e : Execution) → IsProp (IsReady code i e)
IsReady-prop code i e = hlevel props

module _ (code : Code) (count me : ℕ) (e : Execution) (i : Instr) where
  abbrev o : Option Placed
  o = slice_get (steps_of code e.frame.function) e.frame.place

  pub instr_is : (x : Placed) → o ≡ Some x → option_map (λ (x : Placed). x.instr) o ≡ Some i → x.instr ≡ i
  instr_is x h r = let s : option_map (λ (x : Placed). x.instr) (Some x) ≡ Some i = ap (option_map (λ (x : Placed). x.instr)) (sym h) ∙ r in cc

  pub is_ready : Holds code e → option_map (λ (x : Placed). x.instr) o ≡ Some i → IsReady code i e
  is_ready h r =
      let x = there code count me e h in
      subst (λ (j : Instr). IsReady code j e) (instr_is x.0 x.1 r) (ready code count me e h x.0 x.1)

  pub ready_by : ∥ Holds code e ∥₁ → option_map (λ (x : Placed). x.instr) o ≡ Some i → IsReady code i e
  ready_by h r = ∥∥₁_elim h (IsReady-prop code i e) (λ k. is_ready k r)

pub within_by : (code : Code) (e : Execution) → ∥ Holds code e ∥₁ → e.frame.place < length (steps_of code e.frame.function)
within_by code e h = ∥∥₁_elim h (hlevel props) (λ k. is_there code 0 0 e k)

-- ---- the instruction, among those of all functions

pub start_is : (code : Code) (e : Execution) → ∥ Holds code e ∥₁ → e.frame.start ≡ start_of code e.frame.function
start_is code e h = ∥∥₁_elim h (hlevel props) (λ k. k.frames.0.1)

pub index_within : (code : Code) (e : Execution) → ∥ Holds code e ∥₁ → e.frame.start + e.frame.place < length (all_steps code)
index_within code e h =
    let at = start_is code e h in
    let within = start_within code.functions e.frame.function e.frame.place (within_by code e h) in
    omega (arith, at, within)

pub fetched_is : (code : Code) (e : Execution) (i : Instr) → ∥ Holds code e ∥₁ → option_map (λ (x : Placed). x.instr) (slice_get (all_steps code) (e.frame.start + e.frame.place)) ≡ Some i → instr_at code e ≡ Some i
fetched_is code e i h is =
    ap (option_map (λ (x : Placed). x.instr)) (sym (fetched code.functions e.frame.function e.frame.place (within_by code e h)))
    ∙ ap (λ n. option_map (λ (x : Placed). x.instr) (slice_get (all_steps code) (n + e.frame.place))) (sym (start_is code e h))
    ∙ is

-- ---- what is shown

pub by_shown : (code : Code) (count me : ℕ) (c : Control) (r : Outcome Control) → pause_by (shown code count me c r) ≡ pause_by r
by_shown code count me c (Done d u) = refl
by_shown code count me c (Stopped Able u) = refl
by_shown code count me c (Stopped (Wants set) u) = refl
by_shown code count me c (Stopped Over u) = refl

some_of : (o : Option Placed) (i : Instr) → option_map (λ (x : Placed). x.instr) o ≡ Some i → (x : Placed) × (o ≡ Some x) × (x.instr ≡ i)
some_of None i h = cc
some_of (Some x) i h = let same : x.instr ≡ i = cc in (x, refl, same)

module _ (code : Code) (count me : ℕ) (old new : Execution) (i : Instr) (is : option_map (λ (x : Placed). x.instr) (slice_get (steps_of code old.frame.function) old.frame.place) ≡ Some i) where
  abbrev c : Control
  c = control_of old

  abbrev at_place : Option Placed
  at_place = slice_get (steps_of code old.frame.function) old.frame.place

  abbrev x : Placed
  x = (some_of at_place i is).0

  at_x : at_place ≡ Some x
  at_x = (some_of at_place i is).1

  same_i : x.instr ≡ i
  same_i = (some_of at_place i is).2

  step_is : (s : State) → step code count me c s ≡ shown code count me c (act code count me i c s)
  step_is s = ap (λ q. shown code count me c (act_if_any code count me q c s)) at_x ∙ ap (λ j. shown code count me c (act code count me j c s)) same_i

  last_there : (next : Pause) → IsLast (act code count me i c) old next → IsLastThere code count me old next
  last_there (pause.Fault cause) h = λ events. step_is (data_with old events 1) ∙ ap (shown code count me c) (h events)
  last_there (pause.End value) h = λ events. step_is (data_with old events 1) ∙ ap (shown code count me c) (h events)
  last_there next h = tt

  pub stands : (next : Pause) → IsTrue (waits i next) → Pauses (act code count me i c) old next → StandsBefore code count me old next
  stands next w p = record {
    stops = λ events. step_is (data_with old events 0) ∙ ap (shown code count me c) (p.stops events);
    next_is = λ events. ap pause_by (step_is (data_with old events 1)) ∙ by_shown code count me c (act code count me i c (data_with old events 1)) ∙ p.next_is events;
    last = last_there next p.last;
    waits_there = ap (λ q. waits_at q next) at_x ∙ ap (λ j. waits j next) same_i ∙ w;
  }

  module _ (acts : (events : List Kind) → act code count me i c (data_with old events 0) ≡ Done (control_of new) (data_with new events 0)) (keeps : Keeps code i old new) where
    goes : (events : List Kind) → step code count me c (data_with old events 0) ≡ Done (control_of new) (data_with new events 0)
    goes events = step_is (data_with old events 0) ∙ ap (shown code count me c) (acts events)

    pub holds_on : Holds code old → Holds code new
    holds_on holds = record {
      sound = holds.sound;
      within = holds.within;
      control =
          act_sound code count me holds.sound c holds.control (params_are code holds.within) i
          (x.entered, at_x ∙ ap (λ (j : Instr). Some (record { instr = j; entered = x.entered })) same_i)
          (subst (λ (j : Instr). (n : ℕ) → IsTrue (follows code holds.control.here.function j old.frame.place holds.control.here.kinds (λ q t. finds code holds.control.here.function n q t))) same_i
          (it_follows code count me old holds x at_x))
          (data_with old [] 0) (control_of new) (data_with new [] 0) (acts []) keeps.small;
      frames = keeps.frames holds.frames;
      room = λ g place inside. let r = holds.room g place inside in let h = keeps.height in omega (arith, r, h);
      short = holds.short;
    }

    no_line : is_line i ≡ false
    no_line = by i acts
      where
        by : (j : Instr) → ((events : List Kind) → act code count me j c (data_with old events 0) ≡ Done (control_of new) (data_with new events 0)) → is_line j ≡ false
        by (instr.Line line) h = let no = h [] in cc
        by j h = refl

    abbrev far : ℕ
    far = suc (length old.calls.callers * suc (2 ^ 30) + (2 ^ 30 - old.frame.place))

    way_is : way code old ≡ far
    way_is = ap (λ (q : Option Placed). if is_line_at q then 0 else far) at_x ∙ ap (λ (j : Instr). if is_line j then 0 else far) same_i ∙ ap (λ b. if b then 0 else far) no_line

    abbrev far_new : ℕ
    far_new = suc (length new.calls.callers * suc (2 ^ 30) + (2 ^ 30 - new.frame.place))

    way_most : way code new ≤ far_new
    way_most = by (is_line_at (slice_get (steps_of code new.frame.function) new.frame.place))
      where
        by : (b : Bool) → (if b then 0 else far_new) ≤ far_new
        by true = omega arith
        by false = omega arith

    nearer_by : Holds code old → Advance code c (control_of new) → way code new < far
    nearer_by holds (Ahead g h lt) =
        let a = ap (λ (l : List Caller). length l) h in
        let b = callers_length old.calls.callers old.calls.outer in
        let d = callers_length new.calls.callers new.calls.outer in
        let same : length new.calls.callers ≡ length old.calls.callers = omega (arith, a, b, d) in
        let inside = is_there code count me old holds in
        let short = holds.short old.frame.function in
        let most = way_most in
        omega (arith, same, lt, inside, short, most)
    nearer_by holds (AtLine (line, entered, is)) =
        let none : way code new ≡ 0 = ap (λ (q : Option Placed). if is_line_at q then 0 else far_new) is in
        omega (arith, none)
    nearer_by holds (Back lt) =
        let b = callers_length old.calls.callers old.calls.outer in
        let d = callers_length new.calls.callers new.calls.outer in
        let fewer : suc (length new.calls.callers) ≤ length old.calls.callers = omega (arith, lt, b, d) in
        let most = way_most in
        omega (arith, fewer, most)

    nearer : Holds code old → way code new < way code old
    nearer holds =
        let n = nearer_by holds (step_advances code count me holds.sound.forward x c (data_with old [] 0) (control_of new) (data_with new [] 0) at_x (goes [])) in
        let w = way_is in
        omega (arith, n, w)

    pub goes_on : ∥ Holds code old ∥₁ → new.sent ≡ old.sent → GoesOn code count me old new
    goes_on h sent = record { goes = goes; nearer = ∥∥₁_elim h (hlevel props) nearer; sent = sent }

-- ---- a step that makes no event, and one that would

pub holds_by : (code : Code) (count me : ℕ) (old new : Execution) (i : Instr) (result : Option Pause) → ∥ Holds code old ∥₁
    → option_map (λ (x : Placed). x.instr) (slice_get (steps_of code old.frame.function) old.frame.place) ≡ Some i → Moves code count me i old new result → ∥ Holds code new ∥₁
holds_by code count me old new i None h is m = ∥∥₁_map h (holds_on code count me old new i is m.0 m.1)
holds_by code count me old new i (Some next) h is m = subst (λ (x : Execution). ∥ Holds code x ∥₁) (sym m.0) h

pub steps_by : (code : Code) (count me : ℕ) (old new : Execution) (i : Instr) (result : Option Pause) → ∥ Holds code old ∥₁
    → option_map (λ (x : Placed). x.instr) (slice_get (steps_of code old.frame.function) old.frame.place) ≡ Some i → Moves code count me i old new result → Steps code count me old new result
steps_by code count me old new i None h is m = goes_on code count me old new i is m.0 m.1 h m.2
steps_by code count me old new i (Some next) h is m = (m.0, stands code count me old new i is next m.1 m.2)

-- an event that leads on
module _ (code : Code) (count me : ℕ) (old new : Execution) (i : Instr) (is : option_map (λ (x : Placed). x.instr) (slice_get (steps_of code old.frame.function) old.frame.place) ≡ Some i) where
  pub step_of : (s : State) → step code count me (control_of old) s ≡ shown code count me (control_of old) (act code count me i (control_of old) s)
  step_of s = step_is code count me old new i is s

  pub holds_after : (s u : State) → act code count me i (control_of old) s ≡ Done (control_of new) u → Keeps code i old new → ∥ Holds code old ∥₁ → ∥ Holds code new ∥₁
  holds_after s u acts keeps h = ∥∥₁_map h (λ holds.
      let x = some_of (slice_get (steps_of code old.frame.function) old.frame.place) i is in
      record {
        sound = holds.sound;
        within = holds.within;
        control =
            act_sound code count me holds.sound (control_of old) holds.control (params_are code holds.within) i
            (x.0.entered, x.1 ∙ ap (λ (j : Instr). Some (record { instr = j; entered = x.0.entered })) x.2)
            (subst (λ (j : Instr). (n : ℕ) → IsTrue (follows code holds.control.here.function j old.frame.place holds.control.here.kinds (λ q t. finds code holds.control.here.function n q t))) x.2
            (it_follows code count me old holds x.0 x.1))
            s (control_of new) u acts keeps.small;
        frames = keeps.frames holds.frames;
        room = λ g place inside. let r = holds.room g place inside in let k = keeps.height in omega (arith, r, k);
        short = holds.short;
      })
