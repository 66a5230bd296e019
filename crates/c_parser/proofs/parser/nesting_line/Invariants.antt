use Rattle.std.proofs.Common.{length}
use Rattle.c_parser.proofs.FaultLines.{NestsWithin, NestSo}
use Rattle.c_parser.proofs.parser.nesting_line.Given as goal

abbrev pub invariant-loop-tokens : goal.invariant-loop-tokens
invariant-loop-tokens l = record {
  within : NestsWithin l.tokens l.initial.tokens;
  line : NestSo l.tokens l.line l.initial.tokens;
}

abbrev pub decreases-loop-tokens : goal.decreases-loop-tokens
decreases-loop-tokens l = length l.tokens
