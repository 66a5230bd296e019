use Rattle.std.proofs.Common.{◌-◌}
use Rattle.replay_core.specs.private.Rounds.{AfterRounds}
use Rattle.replay_core.proofs.finish.go_round.Given as goal

abbrev pub invariant-loop-round : goal.invariant-loop-round
invariant-loop-round g l = AfterRounds g.P.Proc.stands_for g.P.Proc.origin_of l.fn.replay l.replay l.round l.asleep.marks l.most

abbrev pub decreases-loop-round : goal.decreases-loop-round
decreases-loop-round g l = l.most - l.round.turns
