use Rattle.trace_file.specs.Content.{count_of}
use Rattle.replay_core.proofs.GateLaws.{Filled}
use Rattle.nm_top.proofs.finish.counts_of.Given as goal

abbrev pub invariant-loop-p : goal.invariant-loop-p
invariant-loop-p l = Filled (count_of l.trace) l.p l.counts
