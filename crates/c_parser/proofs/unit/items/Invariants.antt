use Rattle.std.proofs.Common.{◌+◌, ◌≤◌, length}
use Rattle.c_parser.specs.private.ReadStmt.{repeated}
use Rattle.c_parser.specs.private.ReadUnit.{at_end, read_item}
use Rattle.c_parser.proofs.Lists.{Repeats}
use Rattle.c_parser.proofs.unit.items.Given as goal

abbrev pub invariant-loop-rest : goal.invariant-loop-rest
invariant-loop-rest l = record {
  low : l.highest ≤ 64;
  shorter : length l.rest ≤ length l.tokens;
  rest : Repeats (at_end) (read_item) l.list.items l.highest l.rest (repeated (at_end) (read_item) (length l.tokens + 1) l.tokens);
}

abbrev pub decreases-loop-rest : goal.decreases-loop-rest
decreases-loop-rest l = length l.rest
