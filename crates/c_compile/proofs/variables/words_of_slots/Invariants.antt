use Rattle.std.proofs.Common.{◌≡◌, ◌+◌, drop}
use Rattle.c_tree.specs.Storage.{words_of, words_of_slot}
use Rattle.c_compile.proofs.variables.words_of_slots.Given as goal

abbrev pub invariant-loop-slot : goal.invariant-loop-slot
invariant-loop-slot l = l.words + words_of words_of_slot (drop l.slot-index l.slots) ≡ words_of words_of_slot l.slots
