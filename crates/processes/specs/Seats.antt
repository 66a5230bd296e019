-- The process of a seat, and what a step gives.
use Rattle.std.specs.Prelude.{◌≡◌, Option}
use Rattle.nm_base.specs.declared.letter.Letter.{Letter}
use Rattle.nm_base.specs.declared.kind.Kind.{Kind}
use Rattle.processes.specs.declared.proc.Look.{Look}
use Rattle.processes.specs.declared.proc.Look.TheVariants as look
use Rattle.processes.specs.declared.states.Seat.{Seat}
use Rattle.processes.specs.declared.states.Seat.TheVariants.{Able, Waiting, Over}
use Rattle.processes.specs.declared.states.Stepped.{Stepped}
use Rattle.processes.specs.declared.states.Stepped.TheVariants.{Moved, NoMemory}
use Rattle.processes.specs.Standing.{IsWaiting, IsOver}

abbrev pub process_in : {P : Type 0} → Seat P → P
process_in (Able p) = p
process_in (Waiting p) = p
process_in (Over p) = p

-- the seat's process shows what the seat says
abbrev pub IsSeated : {P : Type 0} → (P → Look) → Seat P → Type 0
IsSeated look_of (Able p) = look_of p ≡ look.Able
IsSeated look_of (Waiting p) = IsWaiting (look_of p)
IsSeated look_of (Over p) = IsOver (look_of p)

abbrev pub IfMoved : {P : Type 0} → Stepped P → (P → Kind → Option Letter → Type 0) → Type 0
IfMoved (Moved seat kind letter) F = F (process_in seat) kind letter
IfMoved (NoMemory p) F = Unit {0}

abbrev pub IfNoMemory : {P : Type 0} → Stepped P → (P → Type 0) → Type 0
IfNoMemory (Moved seat kind letter) F = Unit {0}
IfNoMemory (NoMemory p) F = F p
