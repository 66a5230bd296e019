use Rattle.std.proofs.Common.{◌≡◌, None, Some, sym, ap, ◌∙◌, arith}
use Rattle.stack_code.specs.Blocks.{entered_in, table_of}
use Rattle.stack_code.specs.Seek.{in_block, in_blocks}
use Rattle.stack_code.proofs.Seeks.{blocks_found, blocks_later}
use Rattle.stack_code.proofs.Tables.{table_entry_at, none_outside}
use Rattle.stack_code.proofs.layout.LaidFunction.local_at.Goals as goal

pub returns-in-Some : goal.returns-in-Some
returns-in-Some c =
    let name = c.args.name.now in
    let slots = c.args.self.now.slots.items in
    let bs = c.args.self.now.blocks.items in
    let b = c.index-block.result.now in
    let found : in_block name slots b.slots.items ≡ Some c.in-Some.local.now =
    ap (λ l. in_block name l b.slots.items) (sym c.as_slice.ensures.value) ∙ ap (in_block name c.as_slice.result.now) (sym c.as_slice-in-loop-number.ensures.value) ∙ sym c.in-Some.ensures in
    let entry = table_entry_at bs c.loop-number.number b c.requires.nest c.loop-number-test.true c.loop-number.invariant.0 c.index-block.ensures in
    sym (blocks_found name slots b.slots.items (entered_in (table_of bs) b.outer) c.in-Some.local.now found) ∙ ap (in_blocks name slots) (sym entry.1) ∙ c.loop-number.invariant.1

pub loop-number-preserved : goal.loop-number-preserved
loop-number-preserved c =
    let name = c.args.name.now in
    let slots = c.args.self.now.slots.items in
    let bs = c.args.self.now.blocks.items in
    let b = c.index-block.result.now in
    let found : in_block name slots b.slots.items ≡ None =
    ap (λ l. in_block name l b.slots.items) (sym c.as_slice.ensures.value) ∙ ap (in_block name c.as_slice.result.now) (sym c.as_slice-in-loop-number.ensures.value) ∙ sym c.in_default.ensures in
    let entry = table_entry_at bs c.loop-number.number b c.requires.nest c.loop-number-test.true c.loop-number.invariant.0 c.index-block.ensures in
    let lt = entry.0 in
    let le = c.loop-number.invariant.0 in
    (omega (arith, lt, le), sym (blocks_later name slots b.slots.items (entered_in (table_of bs) b.outer) found) ∙ ap (in_blocks name slots) (sym entry.1) ∙ c.loop-number.invariant.1)

pub loop-number-smaller : goal.loop-number-smaller
loop-number-smaller c =
    (table_entry_at c.args.self.now.blocks.items c.loop-number.number c.index-block.result.now c.requires.nest c.loop-number-test.true c.loop-number.invariant.0 c.index-block.ensures).0

pub returns : goal.returns
returns c =
    let name = c.args.name.now in
    let slots = c.args.self.now.slots.items in
    let bs = c.args.self.now.blocks.items in
    let zero : c.loop-number.number ≡ 0 = omega arith in
    sym (none_outside name slots bs) ∙ ap (λ n. in_blocks name slots (entered_in (table_of bs) n)) (sym zero) ∙ c.loop-number.invariant.1
