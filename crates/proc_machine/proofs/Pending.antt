-- What a machine does next.
use Rattle.std.proofs.Common.{◌≡◌, ℕ, suc, ◌+◌, Bool, true, false, List, [], ◌∷◌, length, Some, refl, sym, ap, subst}
use Rattle.std.proofs.Math.Logic.{∥∥₁_elim}
use Rattle.std.proofs.Props.{props}
use Rattle.nm_base.specs.declared.kind.Kind.{Kind}
use Rattle.nm_base.specs.declared.kind.Kind.TheVariants as kind
use Rattle.nm_base.specs.declared.kind.FaultCause.{FaultCause}
use Rattle.nm_base.specs.declared.kind.FaultCause.TheVariants.{DataFull}
use Rattle.nm_base.specs.Message.{Message}
use Rattle.c_tree.specs.State.{State, Able, Wants, Over, Outcome, Done, Stopped}
use Rattle.stack_code.specs.Machine.{Control, step, first_data, run_code}
use Rattle.stack_code.specs.View.{seen_code}
use Rattle.proc_machine.specs.declared.execution.Execution.{Execution}
use Rattle.proc_machine.specs.declared.machine.Machine.{Machine}
use Rattle.proc_machine.specs.declared.pause.Pause.{Pause}
use Rattle.proc_machine.specs.declared.pause.Pause.TheVariants as pause
use Rattle.proc_machine.specs.private.Outcomes.{pause_by}
use Rattle.proc_machine.specs.View.{control_of, data_with}
use Rattle.proc_machine.specs.private.Run.{state_there}
use Rattle.proc_machine.specs.Standing.{ComesTo, goes_by_itself}
use Rattle.proc_machine.specs.private.Kept.{IsKept}
use Rattle.proc_machine.specs.Machines.{MachineSetting, MachineStandsFor, Expects, HasMade, HasCome, MakesNext, machine_setting, state_of}
use Rattle.proc_machine.proofs.Nexts.{makes_one, comes_to}
use Rattle.proc_machine.proofs.Sets.{Outcome-set, Pause-set}
use Rattle.proc_machine.proofs.Standings.{stops, one_further, large_ends, never_later}

pub stops_of : (m : Machine) (inputs : List Message) (events : List Kind) → MachineStandsFor m inputs events → Expects (machine_setting m) inputs events m.next (state_of m events)
stops_of m inputs events s =
    let r = stops (seen_code m.setting.code.now) m.setting.count m.setting.me.no m.execution inputs events m.begun m.next m.kept s in
    record { steps = r.0; stops = r.1 }

module _ (set : MachineSetting) (e : Execution) (inputs : List Message) where
  abbrev Comes : Bool → Pause → List Kind → Type 0
  Comes b n events = ComesTo set.code set.count set.me.no e b n inputs events

  abbrev Kept : Bool → Pause → Type 0
  Kept b n = ∥ IsKept set.code set.count set.me.no e b n ∥₁

  abbrev run : ℕ → ℕ → Outcome Control
  run k n = run_code set.code set.count set.me.no inputs k n

  -- ---- an execution of main

  module _ (events : List Kind) where
    abbrev next_step : ℕ → Outcome Control
    next_step left = step set.code set.count set.me.no (control_of e) (data_with e events left)

    abbrev last_state : State
    last_state = state_there set.code set.count set.me.no e events

    makes_here : (n : Pause) → goes_by_itself n ≡ true → (steps : ℕ) → run (length events) steps ≡ Done (control_of e) (data_with e events 0) → next_step 0 ≡ Stopped Able last_state
        → pause_by (next_step 1) ≡ Some n → (steps : ℕ) × HasMade events n (run (suc (length events)) steps)
    makes_here n g steps h stops next =
        let made = makes_one set.code set.count set.me.no (control_of e) (data_with e events 0) last_state refl n g stops next in
        (steps + 1, subst (HasMade events n) (sym (one_further set.code set.count set.me.no e inputs events steps h)) made)

    comes_here : (channels steps : ℕ) → run (length events) steps ≡ Done (control_of e) (data_with e events 0) → next_step 0 ≡ Stopped (Wants channels) last_state
        → (steps : ℕ) × HasCome events channels (run (suc (length events)) steps)
    comes_here channels steps h stops =
        let come = comes_to set.code set.count set.me.no (control_of e) (data_with e events 0) last_state refl channels refl stops in
        (steps + 1, subst (HasCome events channels) (sym (one_further set.code set.count set.me.no e inputs events steps h)) come)

  -- ---- no room for main

  no_proof : IsProp ⊥
  no_proof = hlevel props

  Cause-set : IsSet FaultCause
  Cause-set = hlevel props

  fault_is : (cause : FaultCause) → pause.Fault cause ≡ pause.Fault DataFull → cause ≡ DataFull
  fault_is cause h = cc

  large_makes : (cause : FaultCause) (events : List Kind) → cause ≡ DataFull → Kept false (pause.Fault cause) → Comes false (pause.Fault cause) events
      → HasMade events (pause.Fault cause) (run (suc (length events)) 0)
  large_makes cause [] is k c =
      let over : run 1 0 ≡ Stopped Over (record (first_data set.code set.count set.me.no inputs 0) { events = kind.Faulted DataFull ∷ [] }) =
      ∥∥₁_elim k (Outcome-set _ _) (λ h. large_ends set.code set.count set.me.no e h.1 inputs 0 0) in
      subst (HasMade [] (pause.Fault cause)) (sym over) (record { made = kind.Faulted DataFull; fits = ap pause.Fault (sym is); events_are = refl; none_left = refl })
  large_makes cause (x ∷ events) is k c =
      let c2 = subst (λ y. Comes false (pause.Fault y) (x ∷ events)) is c in
      absurd (∥∥₁_elim k no_proof (λ h. never_later set.code set.count set.me.no e h.1 inputs x events c2))

  -- ---- what a machine makes

  pub makes_by : (events : List Kind) (b : Bool) (n : Pause) → Kept b n → Comes b n events → MakesNext set inputs events n
  makes_by events b pause.Done k c = tt
  makes_by events true (pause.Receive channels) k c = comes_here events channels c.steps c.comes (∥∥₁_elim k (Outcome-set _ _) (λ h. h.1.stops events))
  makes_by events true n k c =
      makes_here events n refl c.steps c.comes (∥∥₁_elim k (Outcome-set _ _) (λ h. h.1.stops events)) (∥∥₁_elim k (Pause-set _ _) (λ h. h.1.next_is events))
  makes_by events false (pause.Fault cause) k c = (0, large_makes cause events (∥∥₁_elim k (Cause-set _ _) (λ h. fault_is cause h.0)) k c)
  makes_by events false n k c = absurd (∥∥₁_elim k no_proof (λ h. let no = h.0 in cc))

pub makes_of : (m : Machine) (inputs : List Message) (events : List Kind) → MachineStandsFor m inputs events → MakesNext (machine_setting m) inputs events m.next
makes_of m inputs events s = makes_by (machine_setting m) m.execution inputs events m.begun m.next m.kept s
