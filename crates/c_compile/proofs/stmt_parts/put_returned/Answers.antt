use Rattle.c_compile.specs.StmtCode.{returned}
use Rattle.c_compile.specs.private.Emitted.{shape_of, code_of_value}
use Rattle.c_compile.proofs.Writing.{named, returned_some}
use Rattle.c_compile.proofs.stmt_parts.put_returned.Goals as goal

pub returns-in-Some : goal.returns-in-Some
returns-in-Some c =
    let sh = shape_of c.args.scope.now in
    named c.put_value.result c.args.body.now c.put_value.new.self (λ blocks. returned sh c.args.e.now blocks) (code_of_value sh c.in-Some.e)
    (returned_some sh c.args.e.now c.in-Some.e c.in-Some.is) c.put_value.ensures
