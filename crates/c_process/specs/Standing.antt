-- The code of a program.
use Rattle.std.specs.Prelude.{◌≡◌, ℕ, option_map, slice_get, unwrap_or}
use Rattle.c_tree.specs.declared.program.Program.{Program}
use Rattle.c_tree.specs.Play.{play_setting}
use Rattle.stack_code.specs.Code.{Code}
use Rattle.c_compile.specs.Correct.{CodeStandsFor}
use Rattle.c_compile.specs.KeptNames.{KeepsNames}

-- the line of main's name
abbrev pub main_line : Program → ℕ
main_line p = unwrap_or (option_map (λ f. f.line) (slice_get p.functions p.main)) 0

-- the same by its code
abbrev pub main_line_of : Code → ℕ
main_line_of code = unwrap_or (option_map (λ f. f.line) (slice_get code.functions code.main)) 0

-- the code stands for every process of the program, and keeps its names
pub record IsCodeOf (p : Program) (code : Code) : Type 0 where
  pub stands : (count me : ℕ) → CodeStandsFor (play_setting p count me) code
  pub main : main_line_of code ≡ main_line p
  pub names : KeepsNames p code
