use Rattle.std.proofs.Common.{◌≡◌, drop}
use Rattle.nm_outside.specs.Failing.{failing_put}
use Rattle.nm_outside.proofs.list_sink.failing.Given as goal

-- the entry is sought in those that are left
abbrev pub invariant-loop-fail : goal.invariant-loop-fail
invariant-loop-fail l = failing_put l.fails l.nth ≡ failing_put (drop l.fail-index l.fails) l.nth
