use Rattle.nm_top.proofs.TurnLaws.{AfterTurns}
use Rattle.nm_top.proofs.turns.make_turns.Given as goal

abbrev pub invariant-loop-i : goal.invariant-loop-i
invariant-loop-i g l = AfterTurns g.P.Proc.stands_for g.P.Proc.origin_of l.fn.world l.world l.schedule l.i
