use Rattle.std.proofs.Common.{◌≡◌, ◌≤◌, drop}
use Rattle.c_tree.specs.Typing.{conversions_from}
use Rattle.proc_machine.proofs.Counts.{and_so_many}
use Rattle.proc_machine.proofs.messages.conversions.Given as goal

abbrev pub invariant-loop-byte : goal.invariant-loop-byte
invariant-loop-byte l = (conversions_from l.initial.after_percent l.text ≡ and_so_many l.count (conversions_from l.after_percent (drop l.byte-index l.text))) × (l.count ≤ l.byte-index)
