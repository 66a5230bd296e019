use Rattle.std.proofs.Common.{◌+◌, ◌≤◌, length}
use Rattle.c_parser.specs.private.ReadStmt.{separated}
use Rattle.c_parser.specs.private.ReadExpr.{is_separator}
use Rattle.c_parser.specs.private.ReadUnit.{parameter}
use Rattle.c_parser.proofs.Lists.{Separates}
use Rattle.c_parser.proofs.unit.some_parameters.Given as goal

abbrev pub invariant-loop-list : goal.invariant-loop-list
invariant-loop-list l = record {
  low : l.highest ≤ 64;
  shorter : length l.rest ≤ length l.tokens;
  rest : Separates is_separator (parameter) l.list.items l.highest l.rest (separated is_separator (parameter) (length l.tokens + 1) l.tokens);
}

abbrev pub decreases-loop-list : goal.decreases-loop-list
decreases-loop-list l = length l.rest
