use Rattle.c_compile.specs.private.Emitted.{shape_of}
use Rattle.c_compile.proofs.Writing.{start_none, start_some}
use Rattle.c_compile.proofs.stmt_parts.put_start.Goals as goal

pub returns-in-None : goal.returns-in-None
returns-in-None c = start_none (shape_of c.args.scope.now) c.args.local.now.slot c.args.local.now.line c.args.local.now.value c.in-None.is c.requires

pub returns-in_ok-put-in-Some-5 : goal.returns-in_ok-put-in-Some-5
returns-in_ok-put-in-Some-5 c =
    start_some (shape_of c.args.scope.now) c.args.local.now.slot c.args.local.now.line c.args.local.now.value c.in-Some.e c.slot_place-place.result c.in-Some.is c.slot_place-place.ensures
    c.in_ok-put-in-Some.ensures c.in_ok-put_value-in-Some.ensures c.in_ok-put-in-Some-2.ensures c.in_ok-put-in-Some-3.ensures c.in_ok-put-in-Some-4.ensures c.in_ok-put-in-Some-5.ensures
