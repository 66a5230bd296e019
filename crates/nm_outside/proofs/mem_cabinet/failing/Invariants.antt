use Rattle.std.proofs.Common.{◌≡◌, drop}
use Rattle.nm_outside.specs.Failing.{failing_call}
use Rattle.nm_outside.proofs.mem_cabinet.failing.Given as goal

-- the entry is sought in those that are left
abbrev pub invariant-loop-fail : goal.invariant-loop-fail
invariant-loop-fail l = failing_call l.fails l.call l.nth ≡ failing_call (drop l.fail-index l.fails) l.call l.nth
