use Rattle.std.proofs.Common.{◌≡◌, get_or, length, drop, sym, ap, ◌∙◌, arith, true, false}
use Rattle.std.specs.Prelude.{slice_get}
use Rattle.stack_code.specs.Seek.{is_named, in_block}
use Rattle.stack_code.proofs.Seeks.{local_found, local_later, local_none}
use Rattle.stack_code.proofs.seek.local_named.Goals as goal

pub returns-then-has_name : goal.returns-then-has_name
returns-then-has_name c =
    let i = get_or c.args.block.now c.loop-slot.slot-index 0 in
    let e = c.variable_at-local.ensures in
    let t : is_named c.args.name.now (slice_get c.args.slots.now i) ≡ true = ap (is_named c.args.name.now) (sym e) ∙ sym c.has_name.ensures ∙ c.if-has_name.true in
    e ∙ sym (local_found c.args.name.now c.args.slots.now c.args.block.now c.loop-slot.slot-index c.loop-slot-test.true t) ∙ c.loop-slot.invariant

pub loop-slot-preserved : goal.loop-slot-preserved
loop-slot-preserved c =
    let i = get_or c.args.block.now c.loop-slot.slot-index 0 in
    let e = c.variable_at-local.ensures in
    let t : is_named c.args.name.now (slice_get c.args.slots.now i) ≡ false = ap (is_named c.args.name.now) (sym e) ∙ sym c.has_name.ensures ∙ c.if-has_name.false in
    sym (local_later c.args.name.now c.args.slots.now c.args.block.now c.loop-slot.slot-index c.loop-slot-test.true t) ∙ c.loop-slot.invariant

pub returns : goal.returns
returns c =
    let n : c.loop-slot.slot-index ≡ length c.args.block.now = omega arith in
    sym (local_none c.args.name.now c.args.slots.now c.args.block.now)
    ∙ ap (λ k. in_block c.args.name.now c.args.slots.now (drop k c.args.block.now)) (sym n)
    ∙ c.loop-slot.invariant
