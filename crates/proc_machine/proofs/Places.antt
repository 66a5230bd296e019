-- Each frame stands at an instruction.
use Rattle.std.proofs.Common.{◌≡◌, ℕ, zero, suc, ◌+◌, ◌<◌, Bool, true, false, List, [], ◌∷◌, ◌++◌, length, Option, Some, None, refl, ap, subst, arith}
use Rattle.std.proofs.Math.Logic.{∥∥₁_elim, ∥∥₁_map}
use Rattle.std.proofs.Props.{props}
use Rattle.std.proofs.lemmas.Option.{slice_get_within}
use Rattle.std.specs.Prelude.{IsTrue, slice_get}
use Rattle.stack_code.specs.Code.{Placed, FunctionCode, Code, steps_by, steps_of}
use Rattle.stack_code.specs.Seek.{IsPlaceIn}
use Rattle.stack_code.specs.Valid.{Operand, Value, finds, follows_if_any}
use Rattle.proc_machine.specs.declared.callers.Caller.{Caller as KeptCaller}
use Rattle.proc_machine.specs.declared.execution.Execution.{Execution}
use Rattle.proc_machine.specs.declared.pause.Pause.{Pause}
use Rattle.proc_machine.specs.Divided.{upper, lower}
use Rattle.proc_machine.specs.View.{callers_of, control_of}
use Rattle.proc_machine.specs.Standing.{shown_state}
use Rattle.proc_machine.specs.Machines.{places_seen}
use Rattle.proc_machine.specs.private.Kept.{IsKept}
use Rattle.proc_machine.specs.private.Sound.{IsFound, Wait, Holds}
use Rattle.proc_machine.proofs.Onwards.{kept_holds}

module _ (code : Code) where
  -- a function has this place
  abbrev Within : ℕ → ℕ → Type 0
  Within g pc = (g < length code.functions) × (pc < length (steps_of code g))

  Within-prop : (g pc : ℕ) → IsProp (Within g pc)
  Within-prop g pc = hlevel props

  there : (f : FunctionCode) (pc : ℕ) (s : List Operand) (o : Option Placed) → IsTrue (follows_if_any code f o pc s (λ q t. finds code f 0 q t)) → slice_get f.steps pc ≡ o → pc < length f.steps
  there f pc s None h is = cc
  there f pc s (Some x) h is = slice_get_within f.steps pc x is

  found_within : (g pc : ℕ) (above : List Operand) (operands : List ℕ) → IsFound code g pc above operands → Within g pc
  found_within g pc above operands h =
      let within = there h.function pc (above ++ h.kinds) (slice_get h.function.steps pc) (h.find 1) refl in
      let lengths = ap (λ o. length (steps_by o)) h.here in
      (slice_get_within code.functions g h.function h.here, omega (arith, within, lengths))

  -- a caller stands before where it goes on
  before : (g pc : ℕ) → Within g (pc + 1) → Within g pc
  before g pc h = let within = h.1 in (h.0, omega (arith, within))

  caller_within : (ks : List KeptCaller) (outer : List ℕ) → Wait code (callers_of ks outer) → (i : ℕ) (k : KeptCaller) → slice_get ks i ≡ Some k → Within k.frame.function k.frame.place
  caller_within [] outer w i k h = cc
  caller_within (j ∷ ks) outer w zero k h =
      let same : j ≡ k = cc in
      subst (λ (x : KeptCaller). Within x.frame.function x.frame.place) same
      (before j.frame.function j.frame.place (found_within j.frame.function (j.frame.place + 1) (Value ∷ []) (upper j.below outer) w.0))
  caller_within (j ∷ ks) outer w (suc i) k h = caller_within ks (lower j.below outer) w.2 i k h

  module _ (count me : ℕ) (e : Execution) where
    -- where it has a frame it can go on, or could before its end
    frame_holds : (b : Bool) (n : Pause) (i : ℕ) → i < length (places_seen (control_of e) (shown_state code count me e b []).frames) → ∥ IsKept code count me e b n ∥₁ → ∥ Holds code e ∥₁
    frame_holds true n i h k = ∥∥₁_map k (kept_holds code count me e n)
    frame_holds false n i h k = absurd (omega (arith, h))

    module _ (b : Bool) (n : Pause) (i : ℕ) (h : i < length (places_seen (control_of e) (shown_state code count me e b []).frames)) (kept : ∥ IsKept code count me e b n ∥₁) where
      pub inner_placed : IsPlaceIn code (Some (record { function = e.frame.function; place = e.frame.place }))
      inner_placed = ∥∥₁_elim (frame_holds b n i h kept) (Within-prop e.frame.function e.frame.place)
          (λ g. found_within e.frame.function e.frame.place [] e.calls.own g.control.here)

      pub outer_placed : (j : ℕ) (k : KeptCaller) → slice_get e.calls.callers j ≡ Some k → IsPlaceIn code (Some (record { function = k.frame.function; place = k.frame.place }))
      outer_placed j k is = ∥∥₁_elim (frame_holds b n i h kept) (Within-prop k.frame.function k.frame.place)
          (λ g. caller_within e.calls.callers e.calls.outer g.control.callers j k is)
