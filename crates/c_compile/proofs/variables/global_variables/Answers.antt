use Rattle.std.proofs.Common.{◌≡◌, ◌+◌, ◌^◌, ap, length, arith}
use Rattle.c_tree.specs.Storage.{words_of, words_of_global}
use Rattle.c_compile.proofs.Making.{globals_more, globals_end, words_more, words_fit}
use Rattle.c_compile.proofs.variables.global_variables.Goals as goal

pub overflow_add-place : goal.overflow_add-place
overflow_add-place c =
    let xs = c.args.globals.now in
    omega (
      arith,
      words_fit words_of_global xs c.loop-global.global-index c.loop-global.place c.global_words-place.result (words_of words_of_global xs)
          (2 ^ 32) c.global-item.result c.loop-global-test.true c.global-item.is c.global_words-place.ensures c.loop-global.invariant.0 c.requires,
    )

pub loop-global-preserved : goal.loop-global-preserved
loop-global-preserved c =
    let xs = c.args.globals.now in
    let i = c.loop-global.global-index in
    let place = c.loop-global.place in
    let at = ap (λ n. place + n) c.global_words-place.ensures in (
      words_more words_of_global xs i place (place + c.global_words-place.result) (words_of words_of_global xs) c.global-item.result c.loop-global-test.true c.global-item.is at
          c.loop-global.invariant.0,
      globals_more xs i place (place + c.global_words-place.result) c.loop-global.variables.items c.add.new.items.items c.global-item.result c.in_ok-name.name
          c.loop-global-test.true c.global-item.is c.in_ok-name.ensures c.in_ok-add.ensures at c.loop-global.invariant.1,
    )

pub returns : goal.returns
returns c =
    let i : c.loop-global.global-index ≡ length c.args.globals.now = omega arith in
    globals_end c.args.globals.now c.loop-global.global-index c.loop-global.place c.loop-global.variables.items i c.loop-global.invariant.1
