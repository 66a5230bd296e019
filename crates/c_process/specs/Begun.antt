-- Processes of a program before their first events.
use Rattle.std.specs.Prelude.{◌≡◌, ℕ, List, [], length, map, Some, slice_get}
use Rattle.c_tree.specs.declared.program.Program.{Program}
use Rattle.c_tree.specs.Play.{script_of}
use Rattle.stack_code.specs.Code.{Code}
use Rattle.processes.specs.declared.states.Seat.{Seat}
use Rattle.processes.specs.Seats.{process_in}
use Rattle.c_process.specs.Standing.{IsCodeOf}
use Rattle.c_process.specs.contracts.script.CProcProc.TheImpl as process
use Rattle.c_process.specs.declared.process.CProc.{CProc}

-- a process of this number among n runs this code and has made no event
pub record IsBegun (code : Code) (n me : ℕ) (x : CProc) : Type 0 where
  pub stands : (p : Program) → IsCodeOf p code → process.stands_for-value.it x (script_of p n me) [] 0
  pub name : process.name_of-value.it x ≡ record { no = me }
  pub origin : process.origin_of-value.it x ≡ (code, n)

-- so many seats, in order
pub record AreBegun (code : Code) (n many : ℕ) (seats : List (Seat CProc)) : Type 0 where
  pub count : length seats ≡ many
  pub each : (me : ℕ) (x : CProc) → slice_get (map process_in seats) me ≡ Some x → IsBegun code n me x
