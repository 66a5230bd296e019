use Rattle.std.proofs.Common.{◌+◌, ◌*◌, ◌≤◌, length}
use Rattle.c_lexer.specs.declared.token.Mark.TheVariants.{RightBrace}
use Rattle.c_parser.specs.private.Reader.{after}
use Rattle.c_parser.specs.private.ReadStmt.{repeated, read_stmt, arm, list_end}
use Rattle.c_parser.proofs.Lists.{Repeats}
use Rattle.c_parser.proofs.stmt.+stmt.Given as goal

abbrev pub decreases-statement : goal.decreases-statement
decreases-statement l = l.limit * 16 + 8

abbrev pub decreases-block : goal.decreases-block
decreases-block l = (l.below + 1) * 16 + 6

abbrev pub decreases-branch : goal.decreases-branch
decreases-branch l = (l.below + 1) * 16 + 6

abbrev pub decreases-repeated : goal.decreases-repeated
decreases-repeated l = (l.below + 1) * 16 + 6

abbrev pub decreases-done : goal.decreases-done
decreases-done l = (l.below + 1) * 16 + 6

abbrev pub decreases-counted : goal.decreases-counted
decreases-counted l = (l.below + 1) * 16 + 6

abbrev pub decreases-switched : goal.decreases-switched
decreases-switched l = (l.below + 1) * 16 + 6

abbrev pub decreases-statements : goal.decreases-statements
decreases-statements l = (l.below + 1) * 16 + 2

abbrev pub decreases-otherwise : goal.decreases-otherwise
decreases-otherwise l = (l.below + 1) * 16 + 4

abbrev pub decreases-arms : goal.decreases-arms
decreases-arms l = (l.below + 1) * 16 + 4

abbrev pub decreases-arm : goal.decreases-arm
decreases-arm l = (l.below + 1) * 16 + 3

abbrev pub invariant-statements-loop-alloc : goal.invariant-statements-loop-alloc
invariant-statements-loop-alloc l = record {
  low : l.highest ≤ l.below;
  shorter : length l.rest + length l.list.items ≤ length l.tokens;
  rest : Repeats (list_end) (read_stmt l.below) l.list.items l.highest l.rest (repeated (list_end) (read_stmt l.below) (length l.tokens + 1) l.tokens);
}

abbrev pub decreases-statements-loop-alloc : goal.decreases-statements-loop-alloc
decreases-statements-loop-alloc l = length l.rest

abbrev pub invariant-arms-loop-next : goal.invariant-arms-loop-next
invariant-arms-loop-next l = record {
  low : l.highest ≤ l.below;
  shorter : length l.rest ≤ length l.tokens;
  rest : Repeats (after RightBrace) (arm l.below (read_stmt l.below)) l.list.items l.highest l.rest (repeated (after RightBrace) (arm l.below (read_stmt l.below)) (length l.tokens + 1) l.tokens);
}

abbrev pub decreases-arms-loop-next : goal.decreases-arms-loop-next
decreases-arms-loop-next l = length l.rest
