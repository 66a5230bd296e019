use Rattle.std.proofs.Common.{◌+◌, ◌≤◌, length}
use Rattle.c_parser.specs.private.ReadStmt.{repeated, no_type, local}
use Rattle.c_parser.proofs.Lists.{Repeats}
use Rattle.c_parser.proofs.decl.locals.Given as goal

abbrev pub invariant-loop-of : goal.invariant-loop-of
invariant-loop-of l = record {
  low : l.highest ≤ l.limit;
  shorter : length l.rest ≤ length l.tokens;
  rest : Repeats (no_type) (local l.limit) l.list.items l.highest l.rest (repeated (no_type) (local l.limit) (length l.tokens + 1) l.tokens);
}

abbrev pub decreases-loop-of : goal.decreases-loop-of
decreases-loop-of l = length l.rest
