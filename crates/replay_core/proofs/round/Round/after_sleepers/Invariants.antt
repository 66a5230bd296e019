use Rattle.std.proofs.Common.{◌-◌}
use Rattle.replay_core.specs.private.Rounds.{HasSlept}
use Rattle.replay_core.proofs.round.Round.after_sleepers.Given as goal

abbrev pub invariant-loop-round : goal.invariant-loop-round
invariant-loop-round l = HasSlept l.fn.self l.round l.asleep.marks l.n l.most

abbrev pub decreases-loop-round : goal.decreases-loop-round
decreases-loop-round l = l.most - l.round.turns
