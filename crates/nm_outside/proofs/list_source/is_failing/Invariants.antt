use Rattle.std.proofs.Common.{◌≡◌, drop}
use Rattle.nm_outside.specs.Failing.{names_take}
use Rattle.nm_outside.proofs.list_source.is_failing.Given as goal

-- the number is sought in those that are left
abbrev pub invariant-loop-fail : goal.invariant-loop-fail
invariant-loop-fail l = names_take l.fails l.nth ≡ names_take (drop l.fail-index l.fails) l.nth
