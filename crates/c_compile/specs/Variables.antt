-- How code keeps the variables of a program: each begins where the one before it ends.
use Rattle.std.specs.Prelude.{ℕ, ◌+◌, false, List, [], ◌∷◌}
use Rattle.c_tree.specs.declared.program.Global.{Global}
use Rattle.c_tree.specs.declared.program.Slot.{Slot}
use Rattle.c_tree.specs.Storage.{words_of_global, words_of_slot}
use Rattle.stack_code.specs.declared.code.Variable.{Variable}

abbrev pub variable_of_global : ℕ → Global → Variable
variable_of_global place g = record { name = g.name; of = g.of; length = g.length; array_param = false; place = place }

abbrev pub variable_of_slot : ℕ → Slot → Variable
variable_of_slot place x =
    record { name = x.name; of = x.of; length = x.length; array_param = x.array_param; place = place }

-- globals, from a word on
abbrev pub globals_from : ℕ → List Global → List Variable
globals_from place [] = []
globals_from place (g ∷ gs) = variable_of_global place g ∷ globals_from (place + words_of_global g) gs

-- parameters and locals, from a word of the frame on
abbrev pub slots_from : ℕ → List Slot → List Variable
slots_from place [] = []
slots_from place (x ∷ xs) = variable_of_slot place x ∷ slots_from (place + words_of_slot x) xs
