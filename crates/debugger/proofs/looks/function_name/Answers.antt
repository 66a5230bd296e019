use Rattle.std.proofs.Common.{Some, sym, ap, ◌∙◌, arith}
use Rattle.stack_code.specs.View.{seen_code}
use Rattle.debugger.proofs.LookFacts.{named, nameless}
use Rattle.debugger.proofs.looks.function_name.Goals as goal

pub returns-then-function-functions : goal.returns-then-function-functions
returns-then-function-functions c =
    λ p is.
    named p (seen_code c.args.code.now) is c.args.function _
    (c.function_name.ensures ∙ ap Some (sym c.as_bytes.ensures.value))

pub returns-else-function-functions : goal.returns-else-function-functions
returns-else-function-functions c =
    λ p is.
    nameless p (seen_code c.args.code.now) is c.args.function
    (λ low. omega (arith, low, c.if-function-functions.false, c.functions.ensures))
