use Rattle.std.proofs.Common.{◌≡◌, ℕ, ◌<◌, ◌≤◌, cond, get_or, length}
use Rattle.cut_witness.specs.private.Queries.{is_naming}
use Rattle.cut_witness.proofs.quiet.named_by.Given as goal

abbrev pub invariant-loop-chan : goal.invariant-loop-chan
invariant-loop-chan l = record {
  long : length l.parts ≡ 32;
  done : (c : ℕ) → c < l.chan → get_or l.parts c 0 ≡ cond (is_naming l.e.kind c) l.e.number 0;
  rest : (c : ℕ) → l.chan ≤ c → get_or l.parts c 0 ≡ 0;
}
