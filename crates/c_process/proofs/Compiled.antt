-- What a checked program is compiled to is its code.
use Rattle.std.proofs.Common.{◌≡◌, ℕ, zero, suc, List, [], ◌∷◌, map, refl, ap}
use Rattle.std.specs.Prelude.{slice_get, option_map, unwrap_or}
use Rattle.c_tree.specs.declared.program.Function.{Function}
use Rattle.stack_code.specs.Code.{FunctionCode}
use Rattle.c_compile.specs.StmtCode.{function_code, program_code}
use Rattle.c_compile.proofs.Checked.{checked_stands}
use Rattle.c_compile.proofs.Names.{keeps_names}
use Rattle.c_process.specs.Compiled.{CompiledIsCode}

module _ (code_of : Function → FunctionCode) (lines : (f : Function) → (code_of f).line ≡ f.line) where
  line_of_code : (fs : List Function) (i : ℕ) → option_map (λ (f : FunctionCode). f.line) (slice_get (map code_of fs) i) ≡ option_map (λ (f : Function). f.line) (slice_get fs i)
  line_of_code [] i = refl
  line_of_code (f ∷ fs) zero = ap Rattle.std.specs.Prelude.Some (lines f)
  line_of_code (f ∷ fs) (suc i) = line_of_code fs i

pub compiled_is_code : CompiledIsCode
compiled_is_code p = record {
  stands = λ count me. checked_stands p.globals p.functions p.texts p.main count me p.checked;
  main = ap (λ o. unwrap_or o 0) (line_of_code (function_code p.globals p.functions p.texts) (λ f. refl) p.functions p.main);
  names = keeps_names p (program_code p.globals p.functions p.texts p.main) refl;
}
