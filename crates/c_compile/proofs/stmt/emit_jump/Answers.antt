use Rattle.c_compile.proofs.Bodies.{wrote_both}
use Rattle.c_compile.proofs.stmt.emit_jump.Goals as goal

pub returns : goal.returns
returns c = wrote_both c.in_ok-put.ensures c.in_ok-put-2.ensures
