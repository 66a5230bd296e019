use Rattle.c_checker.specs.declared.fault.CheckFault.TheVariants.{NotArray}
use Rattle.c_checker.specs.Found.{Refuses}
use Rattle.c_checker.specs.Scope.{names_of}
use Rattle.c_checker.specs.Expressions.{part_of}
use Rattle.c_checker.proofs.Unnamed.{refuses_array}
use Rattle.std.proofs.Common.{subst, sym}
use Rattle.c_checker.proofs.named.array.Goals as goal

pub returns-in_default : goal.returns-in_default
returns-in_default c =
    let names = names_of c.args.scope.now.entries.now c.args.scope.now.functions.now in
    λ texts. subst (λ l. Refuses ((part_of names c.args.e.now).array c.args.wanted texts).faults (NotArray l)) (sym (c.line_of.ensures.any names))
    (refuses_array names c.args.e.now c.in_default.not-Name c.args.wanted texts)
