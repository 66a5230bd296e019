use Rattle.std.proofs.Common.{◌+◌, ◌≤◌, length}
use Rattle.c_parser.specs.private.ReadStmt.{repeated, no_label, label}
use Rattle.c_parser.proofs.Lists.{Repeats}
use Rattle.c_parser.proofs.labels.labels.Given as goal

abbrev pub invariant-loop-alloc : goal.invariant-loop-alloc
invariant-loop-alloc l = record {
  low : l.highest ≤ l.limit;
  shorter : length l.rest + length l.list.items ≤ length l.tokens;
  rest : Repeats (no_label) (label l.limit) l.list.items l.highest l.rest (repeated (no_label) (label l.limit) (length l.tokens + 1) l.tokens);
}

abbrev pub decreases-loop-alloc : goal.decreases-loop-alloc
decreases-loop-alloc l = length l.rest
