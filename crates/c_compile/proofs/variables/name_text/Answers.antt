use Rattle.c_compile.proofs.Making.{name_is_text}
use Rattle.c_compile.proofs.variables.name_text.Goals as goal

pub unreachable-requires : goal.unreachable-requires
unreachable-requires c = c.in-Err.ensures.cases.0 (name_is_text c.args.name.now c.as_slice.result.now c.as_slice.ensures c.requires)
