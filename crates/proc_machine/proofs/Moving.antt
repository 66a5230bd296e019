-- What an instruction does, whatever it is.
use Rattle.std.proofs.Common.{◌≡◌, ℕ, Option, sym, subst}
use Rattle.stack_code.specs.declared.instr.Instr.{Instr}
use Rattle.stack_code.specs.Code.{Code}
use Rattle.proc_machine.specs.declared.execution.Execution.{Execution}
use Rattle.proc_machine.specs.declared.pause.Pause.{Pause}
use Rattle.proc_machine.specs.private.Moves.{Moves}

pub moves_by : (code : Code) (count me : ℕ) (i j : Instr) (old new : Execution) (result : Option Pause) → i ≡ j → Moves code count me j old new result → Moves code count me i old new result
moves_by code count me i j old new result e m = subst (λ (x : Instr). Moves code count me x old new result) (sym e) m
