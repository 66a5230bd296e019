use Rattle.debugger.specs.Sessions.{is_stopping}
use Rattle.debugger.proofs.Running.{NonePassed}
use Rattle.debugger.proofs.watching.first_stop.Given as goal

abbrev pub invariant-loop-k : goal.invariant-loop-k
invariant-loop-k g l =
    NonePassed (λ b. is_stopping (g.W.Watcher.watched b)) l.watch.items l.k
