use Rattle.std.proofs.Common.{ap, arith}
use Rattle.c_tree.specs.Storage.{words_of, words_of_global}
use Rattle.c_compile.proofs.Compiled.{globals_fit}
use Rattle.c_compile.proofs.tests.an_example.Goals as goal

pub global_variables-requires : goal.global_variables-requires
global_variables-requires g c =
    let p = c.in_ok-p.p in
    omega (arith, ap (words_of words_of_global) c.as_slice.ensures, globals_fit p.globals p.functions p.texts p.main p.checked)
