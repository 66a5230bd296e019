-- How many operands a function has at most at a place.
use Rattle.std.specs.Prelude.{ℕ, zero, suc, ◌+◌, ◌-◌, nat_le, nat_lt, max, List, [], ◌∷◌, if◌then◌else◌}
use Rattle.stack_code.specs.declared.instr.Instr.{Instr}
use Rattle.stack_code.specs.declared.instr.Instr.TheVariants as instr
use Rattle.stack_code.specs.Code.{Placed, Code, steps_of}
use Rattle.proc_machine.specs.declared.heights.Level.{Level}
use Rattle.proc_machine.specs.private.Ready.{needs}

-- how many operands an instruction takes off at least
abbrev pub takes : Code → Instr → ℕ
takes code (instr.Print text) = 0
takes code i = needs code i

-- how many it pushes
abbrev pub pushes : Instr → ℕ
pushes (instr.Line line) = 0
pushes instr.Drop = 0
pushes instr.Dup = 2
pushes instr.Swap = 2
pushes (instr.GlobalArray base len) = 2
pushes (instr.LocalArray base len) = 2
pushes (instr.ParamArray slot) = 2
pushes (instr.Jump target) = 0
pushes (instr.JumpZero target) = 0
pushes (instr.Zero base len) = 0
pushes instr.Return = 0
pushes i = 1

-- how many there are at most at a place, whether the code goes on to it or jumps to it
abbrev pub height_at : ℕ → Level → ℕ
height_at place l = if nat_le place l.reach then max l.now l.jumped else l.now

-- a jump with so many operands; an earlier one that leads further still counts
abbrev pub jump_on : ℕ → ℕ → ℕ → ℕ → Level → Level
jump_on place target height now l =
    if nat_lt place l.reach then record { now = now; jumped = max l.jumped height; reach = max l.reach target }
    else record { now = now; jumped = height; reach = target }

-- what is known behind an instruction. At a Line there are no operands
abbrev pub after : Code → ℕ → Instr → Level → Level
after code place (instr.Line line) l = record l { now = 0 }
after code place instr.Return l = record l { now = 0 }
after code place (instr.Jump target) l = jump_on place target (height_at place l) 0 l
after code place (instr.JumpZero target) l = jump_on place target (height_at place l - 1) (height_at place l - 1) l
after code place i l = record l { now = (height_at place l - takes code i) + pushes i }

-- at the beginning of a function
abbrev pub first_level : Level
first_level = record { now = 0; jumped = 0; reach = 0 }

-- so many instructions further on
abbrev pub level_from : Code → ℕ → List Placed → ℕ → Level → Level
level_from code place [] n l = l
level_from code place (x ∷ xs) zero l = l
level_from code place (x ∷ xs) (suc n) l = level_from code (suc place) xs n (after code place x.instr l)

abbrev pub level_before : Code → ℕ → ℕ → Level
level_before code g place = level_from code 0 (steps_of code g) place first_level

abbrev pub high : Code → ℕ → ℕ → ℕ
high code g place = height_at place (level_before code g place)
