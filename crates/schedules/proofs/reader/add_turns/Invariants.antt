use Rattle.std.proofs.Common.{◌≡◌, ◌-◌, ◌++◌, replicate}
use Rattle.schedules.proofs.reader.add_turns.Given as goal

-- the turns so far and those to come are all
abbrev pub invariant-loop-i : goal.invariant-loop-i
invariant-loop-i l = l.turns.items ++ replicate (l.times - l._i) l.turn ≡ l.fn.turns.items ++ replicate l.times l.turn
