use Rattle.std.proofs.Common.{◌≡◌, ◌⊎◌, length}
use Rattle.c_parser.specs.Faults.{IsLine}
use Rattle.c_parser.proofs.FaultLines.{Within}
use Rattle.c_parser.proofs.parser.syntax_line.Given as goal

abbrev pub invariant-loop-tokens : goal.invariant-loop-tokens
invariant-loop-tokens l = record {
  within : Within l.tokens l.initial.tokens;
  line : (length l.tokens ≡ length l.initial.tokens) ⊎ IsLine l.initial.tokens l.line;
}

abbrev pub decreases-loop-tokens : goal.decreases-loop-tokens
decreases-loop-tokens l = length l.tokens
