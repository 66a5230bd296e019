use Rattle.std.specs.Prelude.{slice_get}
use Rattle.c_tree.specs.Storage.{words_before, words_of_slot}
use Rattle.c_compile.specs.private.Emitted.{shape_of}
use Rattle.c_compile.proofs.Writing.{zero_none}
use Rattle.c_compile.proofs.stmt_parts.put_zero.Goals as goal

pub returns-in-None : goal.returns-in-None
returns-in-None c =
    let sh = shape_of c.args.scope.now in
    zero_none sh (slice_get sh.slots c.args.slot) (words_before words_of_slot sh.slots c.args.slot) c.in-None.ensures c.requires
