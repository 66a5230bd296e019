use Rattle.c_checker.proofs.TypedProgram.{checked_fields}
use Rattle.c_checker.proofs.program.program_of.Goals as goal

pub invariant_of-result : goal.invariant_of-result
invariant_of-result c = record { checked = checked_fields c.args.tree.now c.args.globals c.args.functions c.args.main c.args.texts c.requires.unbroken c.requires.same }
