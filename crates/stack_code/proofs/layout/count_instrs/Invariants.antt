use Rattle.std.proofs.Common.{◌≡◌, length, take}
use Rattle.std.specs.List.{sum_by}
use Rattle.stack_code.specs.declared.code.CodeFunction.{CodeFunction}
use Rattle.stack_code.proofs.layout.count_instrs.Given as goal

abbrev pub invariant-loop-function : goal.invariant-loop-function
invariant-loop-function l = l.total ≡ sum_by (λ (f : CodeFunction). length f.instrs.items) (take l.function-index l.functions)
