use Rattle.std.proofs.Common.{◌≡◌, ◌++◌, drop}
use Rattle.c_tree.specs.Storage.{first_words}
use Rattle.c_compile.proofs.variables.first_words.Given as goal

abbrev pub invariant-loop-global : goal.invariant-loop-global
invariant-loop-global l = l.words.items ++ first_words (drop l.global-index l.globals) ≡ first_words l.globals
