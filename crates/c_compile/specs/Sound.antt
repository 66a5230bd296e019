-- The code of a checked program can be run with no test of its own.
use Rattle.std.specs.Prelude.{ℕ, List, IsTrue}
use Rattle.c_tree.specs.declared.program.Function.{Function}
use Rattle.c_tree.specs.declared.program.Global.{Global}
use Rattle.c_tree.specs.Checks.{is_checked}
use Rattle.stack_code.specs.Valid.{IsSound, is_within}
use Rattle.c_compile.specs.StmtCode.{program_code}

-- of every checked program
abbrev pub CheckedIsSound : Type 0
CheckedIsSound =
    (globals : List Global) (functions : List Function) (texts : List (List ℕ)) (main : ℕ)
    → IsTrue (is_checked globals functions texts main)
    → IsSound (program_code globals functions texts main)

abbrev pub CheckedIsWithin : Type 0
CheckedIsWithin =
    (globals : List Global) (functions : List Function) (texts : List (List ℕ)) (main : ℕ)
    → IsTrue (is_checked globals functions texts main)
    → IsTrue (is_within (program_code globals functions texts main))
