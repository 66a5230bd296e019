use Rattle.std.proofs.Common.{◌≡◌, ◌≤◌, length}
use Rattle.stack_code.specs.Blocks.{entered_in, table_of}
use Rattle.stack_code.specs.Seek.{in_blocks}
use Rattle.stack_code.proofs.layout.LaidFunction.local_at.Given as goal

abbrev pub invariant-loop-number : goal.invariant-loop-number
invariant-loop-number l =
    (l.number ≤ length l.self.blocks.items)
    × (in_blocks l.name l.self.slots.items (entered_in (table_of l.self.blocks.items) l.number) ≡ in_blocks l.name l.self.slots.items (entered_in (table_of l.self.blocks.items) l.block))

abbrev pub decreases-loop-number : goal.decreases-loop-number
decreases-loop-number l = l.number
