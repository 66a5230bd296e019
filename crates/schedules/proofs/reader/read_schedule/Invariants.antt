use Rattle.std.proofs.Common.{◌≡◌, ◌-◌, ◌≤◌, drop, length}
use Rattle.schedules.specs.Texts.{words, entries, after_turns, text_turns}
use Rattle.schedules.proofs.reader.read_schedule.Given as goal

abbrev pub decreases-loop-i : goal.decreases-loop-i
decreases-loop-i l = length l.bytes - l.i

-- the turns so far and what the rest of the text says are what the text says
abbrev pub invariant-loop-i : goal.invariant-loop-i
invariant-loop-i l = record {
  same : after_turns l.turns.items (entries l.n (length l.turns.items) (words l.i (drop l.i l.bytes))) ≡ text_turns l.n l.bytes;
  few : length l.turns.items ≤ 1000000;
  within : l.i ≤ length l.bytes;
}
