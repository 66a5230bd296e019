-- Operands of calls that stand one on the other, divided.
use Rattle.std.specs.Prelude.{ℕ, ◌-◌, List, length, take, drop}

-- the operands above the lowest so many, the topmost first, and those lowest ones
abbrev pub upper : ℕ → List ℕ → List ℕ
upper below operands = take (length operands - below) operands

abbrev pub lower : ℕ → List ℕ → List ℕ
lower below operands = drop (length operands - below) operands
