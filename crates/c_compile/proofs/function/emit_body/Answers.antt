use Rattle.c_compile.specs.private.Emitted.{shape_of}
use Rattle.c_compile.proofs.Functions.{body_written}
use Rattle.c_compile.proofs.function.emit_body.Goals as goal

pub returns : goal.returns
returns c =
    let f = c.args.scope.now.function.now in
    record {
      fine = c.in_ok-put-3.ensures.fine;
      steps = body_written (shape_of c.args.scope.now) f.body f.line c.in_ok-end.end c.new-body.ensures.steps c.new-body.ensures.blocks c.in_ok-end.ensures c.in_ok-put.ensures
          c.in_ok-emit_outermost.ensures.steps c.in_ok-emit_outermost.ensures.blocks c.in_ok-put-2.ensures c.in_ok-put-3.ensures;
    }
