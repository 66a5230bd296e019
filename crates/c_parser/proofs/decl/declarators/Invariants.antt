use Rattle.std.proofs.Common.{◌+◌, ◌≤◌, length}
use Rattle.c_parser.specs.private.ReadStmt.{is_declr_end, separated}
use Rattle.c_parser.specs.private.ReadStmt.{declarator}
use Rattle.c_parser.proofs.Lists.{Separates}
use Rattle.c_parser.proofs.decl.declarators.Given as goal

abbrev pub invariant-loop-list : goal.invariant-loop-list
invariant-loop-list l = record {
  low : l.highest ≤ l.limit;
  shorter : length l.rest ≤ length l.tokens;
  rest : Separates is_declr_end (declarator l.limit) l.list.items l.highest l.rest (separated is_declr_end (declarator l.limit) (length l.tokens + 1) l.tokens);
}

abbrev pub decreases-loop-list : goal.decreases-loop-list
decreases-loop-list l = length l.rest
