use Rattle.std.proofs.Common.{refl, ◌∙◌}
use Rattle.c_compile.specs.private.Emitted.{shape_of}
use Rattle.c_compile.specs.declared.body.Body.{Body}
use Rattle.c_compile.proofs.Tables.{value_wrote}
use Rattle.c_compile.proofs.body.Body.put_value.Goals as goal

pub returns : goal.returns
returns c =
    let old = c.args.self.now in
    let new : Body = record { instrs = c.emit_value.new.code; inside = c.resize.new.self; blocks = old.blocks; block = old.block } in
    value_wrote (shape_of c.args.scope.now) c.args.e.now old new c.len.result _ c.requires (c.len.ensures ∙ c.emit_value.new.code.ok.0) old.inside.ok.0 c.in_ok-emit_value.ensures
    c.in_ok-resize.ensures.items refl refl
