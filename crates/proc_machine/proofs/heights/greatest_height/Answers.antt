use Rattle.std.proofs.Common.{◌≡◌, ◌<◌, length, rules, tests, arith}
use Rattle.std.specs.Prelude.{max}
use Rattle.stack_code.specs.View.{seen_code}
use Rattle.proc_machine.proofs.Levels.{none_covered, covered_next, has_function}
use Rattle.proc_machine.proofs.heights.greatest_height.Goals as goal

pub loop-function-init : goal.loop-function-init
loop-function-init c = none_covered (seen_code c.args.code.now)

pub loop-function-preserved : goal.loop-function-preserved
loop-function-preserved c =
    let l = c.loop-function in
    let most : c.max-most.result ≡ max l.most c.height_of.result = search (rules, tests) in
    covered_next (seen_code c.args.code.now) l.function l.most c.height_of.result c.max-most.result l.invariant c.height_of.ensures.most c.height_of.ensures.within most

pub returns-clause-most : goal.returns-clause-most
returns-clause-most c = λ g place inside.
    let code = seen_code c.args.code.now in
    let there : g < length code.functions = has_function code.functions g place inside in
    let seen : g < c.loop-function.function = omega (arith, there, c.functions-function-end.ensures, c.loop-function-test.false) in
    c.loop-function.invariant.covers g place seen inside
