use Rattle.replay_core.specs.private.Steps.{IsMadeUpTo}
use Rattle.replay_core.proofs.replay.Replay.made_again.Given as goal

abbrev pub invariant-loop-i : goal.invariant-loop-i
invariant-loop-i g l = IsMadeUpTo g.P.Proc.stands_for g.P.Proc.origin_of l.self l.fn.from l.world l.i
