use Rattle.std.proofs.Common.{◌≡◌, ◌+◌, ◌-◌}
use Rattle.c_tree.specs.Storage.{zeroed}
use Rattle.proc_machine.proofs.words.Words.clear.Given as goal

abbrev pub invariant-loop : goal.invariant-loop
invariant-loop l = (l.at ≡ l.place + l.counter) × (zeroed (l.len - l.counter) l.at l.self ≡ zeroed l.len l.place l.initial.self)
