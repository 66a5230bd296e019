-- What holds of every program and every process that runs its code.
use Rattle.std.specs.Prelude.{◌≡◌, ℕ, List}
use Rattle.nm_base.specs.Message.{Message}
use Rattle.nm_base.specs.Scripts.{Script}
use Rattle.c_tree.specs.declared.program.Program.{Program}
use Rattle.c_compile.specs.StmtCode.{program_code}
use Rattle.stack_code.specs.View.{seen_code}
use Rattle.proc_machine.specs.Machines.{machine_setting}
use Rattle.c_process.specs.declared.process.CProc.{CProc}
use Rattle.c_process.specs.Standing.{IsCodeOf}
use Rattle.c_process.specs.Shown.{look_after}
use Rattle.c_process.specs.Following.{Follows}

-- what a program is compiled to is its code
abbrev pub CompiledIsCode : Type 0
CompiledIsCode = (p : Program) → IsCodeOf p (program_code p.globals p.functions p.texts p.main)

-- a process shows what the program does next, or how it ended
abbrev pub LooksArePlayed : Type 0
LooksArePlayed =
    (x : CProc) (p : Program) (s : Script) (letters : List Message) (k : ℕ)
    → IsCodeOf p (seen_code x.code.now) → Follows x.machine.value x.look s letters k × (k ≡ x.count)
    → x.look ≡ look_after p (machine_setting x.machine.value).count x.me.no letters k
