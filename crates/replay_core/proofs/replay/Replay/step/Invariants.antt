use Rattle.replay_core.specs.private.Steps.{HasIdled}
use Rattle.replay_core.proofs.replay.Replay.step.Given as goal

abbrev pub invariant-loop-i : goal.invariant-loop-i
invariant-loop-i g l = HasIdled g.P.Proc.stands_for g.P.Proc.origin_of l.fn.self l.self l.first l.i
