use Rattle.std.proofs.Common.{List, ap, ◌∙◌, subst, map}
use Rattle.c_tree.specs.declared.program.Start.{Start}
use Rattle.c_tree.specs.declared.program.PStmt.{PStmt}
use Rattle.c_compile.specs.private.Emitted.{after, shape_of, code_of_inside}
use Rattle.c_compile.specs.private.Body.{steps_of, blocks_of, Wrote}
use Rattle.c_compile.proofs.Functions.{outermost_steps, outermost_blocks, plain_steps, plain_inside}
use Rattle.c_compile.proofs.function.emit_outermost.Goals as goal

pub returns-in_ok-emit_inside-in-Block : goal.returns-in_ok-emit_inside-in-Block
returns-in_ok-emit_inside-in-Block c =
    let sh = shape_of c.args.scope.now in
    let s = c.args.s.now in
    let b = c.in-Block in
    let slots = c.in_ok-slots-in-Block.ensures ∙ ap (λ (l : List Start). map (λ x. x.slot) l) c.as_slice.ensures in
    let wrote0 = subst (λ (l : List Start). Wrote c.open.new.self c.emit_inside.new.body (code_of_inside sh l c.as_slice-in-Block-2.result.now c.args.exits)) c.as_slice-in-Block.ensures
    c.in_ok-emit_inside-in-Block.ensures in
    let wrote = subst (λ (l : List PStmt). Wrote c.open.new.self c.emit_inside.new.body (code_of_inside sh b.locals l c.args.exits)) c.as_slice-in-Block-2.ensures wrote0 in
    record {
      fine = wrote.fine;
      steps = outermost_steps sh s b.locals b.list b.line c.args.exits c.in_ok-slots-in-Block.slots.items b.is slots c.in_ok-_outer-in-Block.ensures.opened wrote;
      blocks = outermost_blocks sh s b.locals b.list b.line c.args.exits c.in_ok-slots-in-Block.slots.items b.is slots c.in_ok-_outer-in-Block.ensures.opened wrote;
    }

pub returns-in_ok-emit_stmt-in_default : goal.returns-in_ok-emit_stmt-in_default
returns-in_ok-emit_stmt-in_default c =
    let sh = shape_of c.args.scope.now in
    let s = c.args.s.now in
    let wrote = c.in_ok-emit_stmt-in_default.ensures in
    record {
      fine = wrote.fine;
      steps = wrote.steps ∙ ap (after (steps_of c.args.body.now)) (plain_steps sh s c.args.exits (blocks_of c.args.body.now) c.in_default.not-Block);
      blocks = wrote.blocks ∙ plain_inside sh s (blocks_of c.args.body.now) c.in_default.not-Block;
    }
