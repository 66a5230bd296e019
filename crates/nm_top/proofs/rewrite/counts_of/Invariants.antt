use Rattle.std.proofs.Common.{◌≡◌, length, take}
use Rattle.nm_top.proofs.rewrite.counts_of.Given as goal

-- the first counts are there
abbrev pub invariant-loop-p : goal.invariant-loop-p
invariant-loop-p l = record {
  long : length l.counts ≡ 32;
  done : take l.p l.counts ≡ take l.p l.trace.counts;
}
