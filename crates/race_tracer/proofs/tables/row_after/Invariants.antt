use Rattle.std.proofs.Common.{◌≡◌, ℕ, ◌<◌, ◌≤◌, cond, get_or, length}
use Rattle.nm_base.specs.Channels.{has_channel}
use Rattle.race_tracer.proofs.tables.row_after.Given as goal

abbrev pub invariant-loop-chan : goal.invariant-loop-chan
invariant-loop-chan l = record {
  long : length l.row ≡ 32;
  done : (c : ℕ) → c < l.chan → get_or l.row c 0 ≡ cond (has_channel l.set c) l.number (get_or l.last c 0);
  rest : (c : ℕ) → l.chan ≤ c → get_or l.row c 0 ≡ get_or l.last c 0;
}
