-- Callers whose Call isn't at the last place that there can be.
use Rattle.std.specs.Prelude.{◌+◌, ◌^◌, Bool, nat_lt}
use Rattle.proc_machine.specs.declared.callers.Caller.{Caller}

abbrev pub goes_on : Caller → Bool
goes_on k = nat_lt (k.frame.place + 1) (2 ^ 32)
