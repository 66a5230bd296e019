use Rattle.std.proofs.Common.{◌≡◌, drop}
use Rattle.stack_code.specs.Seek.{in_block}
use Rattle.stack_code.proofs.seek.local_named.Given as goal

abbrev pub invariant-loop-slot : goal.invariant-loop-slot
invariant-loop-slot l = in_block l.name l.slots (drop l.slot-index l.block) ≡ in_block l.name l.slots l.block
