use Rattle.std.proofs.Common.{◌≡◌, ◌++◌, map, drop}
use Rattle.c_compile.proofs.stmt.slots_in.Given as goal

abbrev pub invariant-loop-local : goal.invariant-loop-local
invariant-loop-local l = l.slots.items ++ map (λ x. x.slot) (drop l.local-index l.locals) ≡ map (λ x. x.slot) l.locals
