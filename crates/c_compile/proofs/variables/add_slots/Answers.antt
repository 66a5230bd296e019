use Rattle.std.proofs.Common.{◌≡◌, ◌+◌, ◌^◌, ◌++◌, ap, length, arith}
use Rattle.c_tree.specs.Storage.{words_of, words_of_slot}
use Rattle.c_compile.specs.Variables.{slots_from}
use Rattle.c_compile.proofs.Making.{slots_more, slots_end, words_more, words_end, words_fit}
use Rattle.c_compile.proofs.variables.add_slots.Goals as goal

pub overflow_add-end : goal.overflow_add-end
overflow_add-end c =
    let xs = c.args.slots.now in
    omega (
      arith,
      words_fit words_of_slot xs c.loop-slot.slot-index c.loop-slot.end c.slot_words-end.result (c.args.place + words_of words_of_slot xs)
          (2 ^ 32) c.slot-item.result c.loop-slot-test.true c.slot-item.is c.slot_words-end.ensures c.loop-slot.invariant.0 c.requires,
    )

pub loop-slot-preserved : goal.loop-slot-preserved
loop-slot-preserved c =
    let xs = c.args.slots.now in
    let i = c.loop-slot.slot-index in
    let at = ap (λ n. c.loop-slot.end + n) c.slot_words-end.ensures in
    let next = c.loop-slot.end + c.slot_words-end.result in (
      words_more words_of_slot xs i c.loop-slot.end next (c.args.place + words_of words_of_slot xs) c.slot-item.result c.loop-slot-test.true c.slot-item.is at c.loop-slot.invariant.0,
      slots_more xs
          i c.loop-slot.end next c.loop-slot.variables.items c.add.new.items.items (c.args.variables.now.items ++ slots_from c.args.place xs) c.slot-item.result c.in_ok-name.name
          c.loop-slot-test.true c.slot-item.is c.in_ok-name.ensures c.in_ok-add.ensures at c.loop-slot.invariant.1,
    )

pub returns : goal.returns
returns c =
    let xs = c.args.slots.now in
    let i : c.loop-slot.slot-index ≡ length xs = omega arith in
    record {
      end = words_end words_of_slot xs c.loop-slot.slot-index c.loop-slot.end (c.args.place + words_of words_of_slot xs) i c.loop-slot.invariant.0;
      added = slots_end xs c.loop-slot.slot-index c.loop-slot.end c.loop-slot.variables.items (c.args.variables.now.items ++ slots_from c.args.place xs) i c.loop-slot.invariant.1;
    }
