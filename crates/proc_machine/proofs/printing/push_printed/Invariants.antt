use Rattle.std.proofs.Common.{◌≡◌, ◌++◌, ◌≤◌, ◌+◌, ◌*◌, ◌-◌, length, drop}
use Rattle.std.specs.Prelude.{if◌then◌else◌}
use Rattle.std.specs.Vec.{vec_len, vec_capacity}
use Rattle.c_tree.specs.Print.{printed_from}
use Rattle.proc_machine.proofs.printing.push_printed.Given as goal

abbrev pub invariant-loop-byte : goal.invariant-loop-byte
invariant-loop-byte l = record {
  items : l.out.items ++ printed_from l.after_percent (drop l.byte-index l.text) (drop l.taken l.values) ≡ l.initial.out.items ++ printed_from l.initial.after_percent l.text l.values;
  room : vec_len l.out + (6 * (length l.text - l.byte-index) + (if l.after_percent then 6 else 0)) ≤ vec_capacity l.out;
  capacity : vec_capacity l.out ≡ vec_capacity l.initial.out;
  few : l.taken ≤ l.byte-index;
}
