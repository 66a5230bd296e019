use Rattle.c_compile.specs.private.Emitted.{shape_of}
use Rattle.c_compile.proofs.Written.{return_written}
use Rattle.c_compile.proofs.stmt.emit_return.Goals as goal

pub returns : goal.returns
returns c = return_written (shape_of c.args.scope.now) c.args.value.now c.args.line c.in_ok-put.ensures c.in_ok-put_returned.ensures c.in_ok-put-2.ensures
