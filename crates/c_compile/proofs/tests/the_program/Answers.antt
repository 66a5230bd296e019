use Rattle.std.proofs.Common.{[], ◌∷◌, ap, ◌∙◌}
use Rattle.c_tree.specs.declared.program.Global.{Global}
use Rattle.c_tree.specs.declared.program.Function.{Function}
use Rattle.c_compile.proofs.Examples.{is_program_by}
use Rattle.c_compile.proofs.tests.the_program.Goals as goal

pub invariant_of-result : goal.invariant_of-result
invariant_of-result c =
    let globals = c.in_ok-globals.ensures ∙ ap (λ (g : Global). g ∷ []) c.in_ok-global.ensures in
    let functions = c.in_ok-functions.ensures ∙ ap (λ (f : Function). f ∷ []) c.in_ok-function.ensures in
    record { checked = is_program_by c.in_ok-globals.globals c.in_ok-functions.functions c.none.result globals functions c.none.ensures }
