-- Which faults of a session are the sink's.
use Rattle.std.specs.Prelude.{Bool, true, false, Result, Err}
use Rattle.debugger.specs.declared.fault.SessionFault.{SessionFault}
use Rattle.debugger.specs.declared.fault.SessionFault.TheVariants as fault

abbrev pub is_write : {A : Type 0} → Result A SessionFault → Bool
is_write (Err fault.Write) = true
is_write other = false
