use Rattle.c_compile.specs.private.Emitted.{shape_of}
use Rattle.c_compile.proofs.Written.{run_written}
use Rattle.c_compile.proofs.stmt.emit_run.Goals as goal

pub returns : goal.returns
returns c = run_written (shape_of c.args.scope.now) c.args.part.now c.args.line c.in_ok-put.ensures c.in_ok-put_value.ensures c.in_ok-put-2.ensures
