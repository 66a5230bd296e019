use Rattle.std.proofs.Common.{◌≡◌, ◌≤◌, take, length}
use Rattle.std.specs.Prelude.{filter}
use Rattle.cut_witness.specs.private.Steps.{is_receive_below}
use Rattle.cut_witness.proofs.kept.receive_number.Given as goal

abbrev pub invariant-loop-i : goal.invariant-loop-i
invariant-loop-i l = record {
  few : l.received ≤ l.i;
  is : l.received ≡ length (filter (is_receive_below l.p.no l.number) (take l.i l.events.events));
}
