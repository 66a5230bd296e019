-- A machine that stands before an event which leads on.
use Rattle.std.proofs.Common.{◌≡◌, ℕ, List, ◌∷◌, ◌++◌, [], true, sym, subst}
use Rattle.std.specs.Prelude.{IsTrue, slice_get}
use Rattle.nm_base.specs.declared.kind.Kind.{Kind}
use Rattle.nm_base.specs.declared.kind.Kind.TheVariants as kind
use Rattle.nm_base.specs.declared.letter.Letter.{Letter}
use Rattle.nm_base.specs.Message.{Message, message_of}
use Rattle.stack_code.specs.Code.{Code, steps_of}
use Rattle.stack_code.specs.View.{seen_code}
use Rattle.proc_machine.specs.declared.execution.Execution.{Execution}
use Rattle.proc_machine.specs.declared.machine.Machine.{Machine}
use Rattle.proc_machine.specs.declared.pause.Pause.{Pause}
use Rattle.proc_machine.specs.private.Sound.{Holds}
use Rattle.proc_machine.specs.private.Run.{StandsBefore, After, Accepts, waits_at}
use Rattle.proc_machine.specs.Standing.{ComesTo}
use Rattle.proc_machine.specs.private.Kept.{IsKept}
use Rattle.proc_machine.specs.Machines.{MachineStandsFor}
use Rattle.proc_machine.proofs.Onwards.{leads, kept_on, after_comes, accepts_comes}
use Rattle.proc_machine.proofs.Knows.{held, waits_is}

module _ (m : Machine) (x : Pause) (waits : m.next ≡ x) where
  abbrev code : Code
  code = seen_code m.setting.code.now

  abbrev count : ℕ
  count = m.setting.count

  abbrev me : ℕ
  me = m.setting.me.no

  module _ (on : leads code count me x ≡ true) where
    leads_on : leads code count me m.next ≡ true
    leads_on = subst (λ (y : Pause). leads code count me y ≡ true) (sym waits) on

    pub holds_there : ∥ Holds code m.execution ∥₁
    holds_there = held code count me m.execution m.begun m.next m.kept x waits on

    pub waits_there : IsTrue (waits_at (slice_get (steps_of code m.execution.frame.function) m.execution.frame.place) x)
    waits_there = waits_is code count me m.execution m.begun m.next m.kept x waits on

    pub kept_there : (new : Execution) (next : Pause) → ∥ Holds code new ∥₁ → StandsBefore code count me new next → ∥ IsKept code count me new m.begun next ∥₁
    kept_there new next holds stands = kept_on code count me m.execution new m.begun m.next next leads_on m.kept holds stands

    pub makes_there : (new : Execution) (next : Pause) (made : Kind) → After code count me m.execution new made next → (inputs : List Message) (events : List Kind) → MachineStandsFor m inputs events
        → ComesTo code count me new m.begun next inputs (made ∷ events)
    makes_there new next made after inputs events stands = after_comes code count me m.execution new m.begun m.next next made leads_on m.kept after inputs events stands

    pub accepts_there : (new : Execution) (next : Pause) (set : ℕ) (letter : Letter) → Accepts code count me m.execution new set letter next → (inputs : List Message) (events : List Kind)
        → MachineStandsFor m inputs events → ComesTo code count me new m.begun next (inputs ++ message_of letter ∷ []) (kind.Accepted set letter.id ∷ events)
    accepts_there new next set letter took inputs events stands = accepts_comes code count me m.execution new m.begun m.next next set letter leads_on m.kept took inputs events stands
