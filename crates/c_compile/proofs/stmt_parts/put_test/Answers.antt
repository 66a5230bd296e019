use Rattle.c_compile.specs.private.Emitted.{shape_of}
use Rattle.c_compile.proofs.Writing.{test_none, test_some}
use Rattle.c_compile.proofs.stmt_parts.put_test.Goals as goal

pub returns-in-None : goal.returns-in-None
returns-in-None c = test_none (shape_of c.args.scope.now) c.args.e.now c.args.exit c.in-None.is c.requires

pub returns-in_ok-put-in-Some : goal.returns-in_ok-put-in-Some
returns-in_ok-put-in-Some c = test_some (shape_of c.args.scope.now) c.args.e.now c.args.exit c.in-Some.e c.in-Some.is c.in_ok-put_value-in-Some.ensures c.in_ok-put-in-Some.ensures
