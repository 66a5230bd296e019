use Rattle.std.proofs.Common.{◌≡◌, length, arith}
use Rattle.c_compile.specs.private.Emitted.{shape_of, code_of_zeros}
use Rattle.c_compile.proofs.Bodies.{onward_start}
use Rattle.c_compile.proofs.Writing.{loop_end, zeros_none, zeros_more}
use Rattle.c_compile.proofs.stmt_parts.put_zeros.Goals as goal

pub loop-local-init : goal.loop-local-init
loop-local-init c = onward_start c.args.body.now (code_of_zeros (shape_of c.args.scope.now) c.args.locals.now) c.requires

pub put_zero-requires : goal.put_zero-requires
put_zero-requires c = c.loop-local.invariant.fine

pub loop-local-preserved : goal.loop-local-preserved
loop-local-preserved c =
    zeros_more (shape_of c.args.scope.now) c.args.locals.now c.loop-local.local-index c.local-item.result c.loop-local-test.true c.local-item.is c.loop-local.invariant c.in_ok-put_zero.ensures

pub returns : goal.returns
returns c =
    let sh = shape_of c.args.scope.now in
    let xs = c.args.locals.now in
    let i : c.loop-local.local-index ≡ length xs = omega arith in
    loop_end (code_of_zeros sh) xs c.loop-local.local-index (zeros_none sh) i c.loop-local.invariant
