-- Cuts that hold an event of a process or lack it, and how two events stand to each other.
use Rattle.std.specs.Prelude.{◌≡◌, ◌≢◌, ℕ, ◌<◌, ◌≤◌, List, Contains, slice_index}
use Rattle.event_list.specs.declared.Event.{Event}
use Rattle.event_list.specs.Order.{Before as HappenedBefore, Cut}
use Rattle.causal_stop.specs.declared.standing.Order.{Order}
use Rattle.causal_stop.specs.declared.standing.Order.TheVariants.{Same, Before, After, Unordered}

-- a is p's entry of this number in E
pub record IsEntry (E : List Event) (p number : ℕ) (a : Event) : Type 0 where
  pub in_list : Contains E a
  pub of_p : a.proc.no ≡ p
  pub numbered : a.number ≡ number

-- E has such an entry
abbrev pub HasEntry : List Event → ℕ → ℕ → Type 0
HasEntry E p number = (a : Event) × IsEntry E p number a

-- the cut whose numbers these are, for processes 0, 1 and so on
abbrev pub cut_of : List ℕ → Cut
cut_of parts p = slice_index parts p

-- p's entry of this number is in the cut, and it isn't
abbrev pub Holds : ℕ → ℕ → Cut → Type 0
Holds p number c = number ≤ c p

abbrev pub Lacks : ℕ → ℕ → Cut → Type 0
Lacks p number c = c p < number

-- a stands to b in this order
abbrev pub StandsIn : List Event → Event → Event → Order → Type 0
StandsIn E a b Same = a ≡ b
StandsIn E a b Before = HappenedBefore E a b
StandsIn E a b After = HappenedBefore E b a
StandsIn E a b Unordered = (a ≢ b) × (HappenedBefore E a b → ⊥) × (HappenedBefore E b a → ⊥)
