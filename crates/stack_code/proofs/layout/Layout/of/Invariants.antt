use Rattle.std.proofs.Common.{◌≡◌, ◌++◌, length, map}
use Rattle.std.specs.Prelude.{IsTrue}
use Rattle.std.specs.List.{list_all}
use Rattle.std.specs.Vec.Iter.{into_iter_items, into_iter_len}
use Rattle.stack_code.specs.Blocks.{function_of, is_kept}
use Rattle.stack_code.specs.Layout.{functions_in, is_laid_out}
use Rattle.stack_code.proofs.layout.Layout.of.Given as goal

abbrev pub invariant-loop-function : goal.invariant-loop-function
invariant-loop-function l = IsTrue (is_laid_out l.layout.functions.items l.layout.instrs.items l.layout.inside.items)
    × (functions_in l.layout ++ map function_of (into_iter_items l.function-iterator) ≡ map function_of (into_iter_items l.initial.function-iterator))
    × IsTrue (list_all is_kept (into_iter_items l.function-iterator))
    × (into_iter_len l.function-iterator ≡ length (into_iter_items l.function-iterator))
