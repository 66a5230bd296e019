use Rattle.std.proofs.Common.{◌<◌, sym, length, arith}
use Rattle.std.proofs.lemmas.List.{length-map}
use Rattle.stack_code.specs.Layout.{laid_function_of}
use Rattle.stack_code.proofs.Laid.{steps_length}
use Rattle.stack_code.proofs.code.Code.steps.Goals as goal

pub returns : goal.returns
returns c =
    let l = c.args.self.now.layout in
    let lt : c.args.function < length l.functions.items = omega (arith, c.requires, length-map l.functions.items (laid_function_of l.instrs.items l.inside.items)) in
    sym (steps_length l.functions.items l.instrs.items l.inside.items c.args.self.now.laid c.args.function c.index.result.now lt c.index.ensures)
