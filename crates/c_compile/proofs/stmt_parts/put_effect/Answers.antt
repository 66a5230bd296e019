use Rattle.c_compile.specs.private.Emitted.{shape_of}
use Rattle.c_compile.proofs.Writing.{effect_none, effect_some}
use Rattle.c_compile.proofs.stmt_parts.put_effect.Goals as goal

pub returns-in-None : goal.returns-in-None
returns-in-None c = effect_none (shape_of c.args.scope.now) c.args.e.now c.in-None.is c.requires

pub returns-in_ok-put-in-Some : goal.returns-in_ok-put-in-Some
returns-in_ok-put-in-Some c = effect_some (shape_of c.args.scope.now) c.args.e.now c.in-Some.e c.in-Some.is c.in_ok-put_value-in-Some.ensures c.in_ok-put-in-Some.ensures
