use Rattle.std.proofs.Common.{◌≡◌, ◌+◌, drop}
use Rattle.c_tree.specs.Storage.{words_of, words_of_global}
use Rattle.c_compile.proofs.variables.words_of_globals.Given as goal

abbrev pub invariant-loop-global : goal.invariant-loop-global
invariant-loop-global l = l.words + words_of words_of_global (drop l.global-index l.globals) ≡ words_of words_of_global l.globals
