use Rattle.std.proofs.Common.{ap, sym, ◌∙◌, length}
use Rattle.c_compile.proofs.Tables.{place_is}
use Rattle.c_compile.proofs.body.Body.place.Goals as goal

pub returns : goal.returns
returns c = c.in_ok-place.ensures ∙ ap length c.as_slice.ensures.value ∙ sym (place_is c.args.self.now c.requires)
