use Rattle.std.proofs.Common.{◌≡◌}
use Rattle.trace_file.specs.Content.{count_of}
use Rattle.event_list.specs.Turns.{sum_below}
use Rattle.replay_core.proofs.gate.total_of.Given as goal

abbrev pub invariant-loop-p : goal.invariant-loop-p
invariant-loop-p l = l.total ≡ sum_below l.p (count_of l.trace)
