use Rattle.nm_top.specs.private.Replaying.{AfterReplay}
use Rattle.nm_top.proofs.replay.replay_turns.Given as goal

abbrev pub invariant-loop-i : goal.invariant-loop-i
invariant-loop-i l = AfterReplay l.fn.replay l.replay l.schedule l.i l.idle
