use Rattle.std.proofs.Common.{◌≡◌, List, ◌∷◌, Some, None, length, arith, ap, sym, ◌∙◌, subst, map}
use Rattle.c_tree.specs.declared.program.Start.{Start}
use Rattle.c_tree.specs.declared.program.PStmt.{PStmt, If}
use Rattle.stack_code.specs.declared.instr.Instr.TheVariants as instr
use Rattle.c_compile.specs.Asm.{Laid, ◌⨾◌}
use Rattle.c_compile.specs.StmtCode.{Blocks, stmt_code, put, if_code, while_code, do_code, for_code}
use Rattle.c_compile.specs.private.Emitted.{shape_of, code_of_stmt, code_of_list, code_of_arms, code_of_inside}
use Rattle.c_compile.specs.private.Body.{Wrote}
use Rattle.c_compile.proofs.Bodies.{onward_start, wrote_block}
use Rattle.c_compile.proofs.Writing.{named, loop_end}
use Rattle.c_compile.proofs.Written.{code_block, code_if, code_if_else, code_while, code_do, code_for, list_none, list_more, arms_none, arms_more, inside_written, if_written, if_else_written}
use Rattle.c_compile.proofs.Written.{while_written, do_written, for_written, switch_written}
use Rattle.c_compile.proofs.stmt.+stmt.Goals as goal

-- ---- lists

pub emit_list-loop-s-init : goal.emit_list-loop-s-init
emit_list-loop-s-init t c = onward_start c.args.body.now (code_of_list (shape_of c.args.scope.now) c.args.list.now c.args.exits) c.requires

pub emit_list-loop-s-preserved : goal.emit_list-loop-s-preserved
emit_list-loop-s-preserved t c =
    list_more (shape_of c.args.scope.now) c.args.exits c.args.list.now c.loop-s.s-index c.s-item.result c.loop-s-test.true c.s-item.is c.loop-s.invariant c.in_ok-emit_stmt.ensures

pub emit_list-returns : goal.emit_list-returns
emit_list-returns t c =
    let sh = shape_of c.args.scope.now in
    let xs = c.args.list.now in
    let i : c.loop-s.s-index ≡ length xs = omega arith in
    loop_end (λ l. code_of_list sh l c.args.exits) xs c.loop-s.s-index (list_none sh c.args.exits) i c.loop-s.invariant

pub emit_arms-loop-arm-init : goal.emit_arms-loop-arm-init
emit_arms-loop-arm-init t c = onward_start c.args.body.now (code_of_arms (shape_of c.args.scope.now) c.args.arms.now c.args.exits) c.requires

pub emit_arms-loop-arm-preserved : goal.emit_arms-loop-arm-preserved
emit_arms-loop-arm-preserved t c =
    let sh = shape_of c.args.scope.now in
    let wrote = subst (λ l. Wrote c.loop-arm.body c.emit_list.new.body (code_of_list sh l c.args.exits)) c.as_slice.ensures c.in_ok-emit_list.ensures in
    arms_more sh c.args.exits c.args.arms.now c.loop-arm.arm-index c.arm-item.result c.loop-arm-test.true c.arm-item.is c.loop-arm.invariant wrote

pub emit_arms-returns : goal.emit_arms-returns
emit_arms-returns t c =
    let sh = shape_of c.args.scope.now in
    let xs = c.args.arms.now in
    let i : c.loop-arm.arm-index ≡ length xs = omega arith in
    loop_end (λ l. code_of_arms sh l c.args.exits) xs c.loop-arm.arm-index (arms_none sh c.args.exits) i c.loop-arm.invariant

-- ---- blocks

pub emit_inside-returns : goal.emit_inside-returns
emit_inside-returns t c =
    inside_written (shape_of c.args.scope.now) c.args.locals.now c.args.list.now c.args.exits c.in_ok-put_zeros.ensures c.in_ok-put_starts.ensures c.in_ok-emit_list.ensures

pub emit_block-returns : goal.emit_block-returns
emit_block-returns t c =
    let sh = shape_of c.args.scope.now in
    let written = wrote_block c.in_ok-outer.outer c.requires c.in_ok-outer.ensures.outer c.in_ok-outer.ensures.opened c.in_ok-emit_inside.ensures c.close.ensures in
    subst (λ l. Wrote c.args.body.now c.close.new.self (λ blocks. code_of_inside sh c.args.locals.now c.args.list.now c.args.exits (l ∷ blocks))) c.in_ok-slots.ensures written

-- ---- choices

pub emit_if-returns : goal.emit_if-returns
emit_if-returns t c =
    if_written (shape_of c.args.scope.now) c.args.test.now c.args.yes.now c.args.line c.args.exits c.in_ok-place.place c.in_ok-end.end c.in_ok-place.ensures
    c.in_ok-end.ensures c.in_ok-put.ensures c.in_ok-put_value.ensures c.in_ok-put-2.ensures c.in_ok-emit_stmt.ensures c.in_ok-put-3.ensures

pub emit_if_else-returns : goal.emit_if_else-returns
emit_if_else-returns t c =
    if_else_written (shape_of c.args.scope.now) c.args.test.now c.args.yes.now c.args.no.now c.args.line c.args.exits c.in_ok-place.place c.in_ok-second.second c.in_ok-end.end
    c.in_ok-place.ensures c.in_ok-second.ensures c.in_ok-end.ensures c.in_ok-put.ensures c.in_ok-put_value.ensures c.in_ok-put-2.ensures c.in_ok-emit_stmt.ensures
    c.in_ok-put-3.ensures c.in_ok-emit_stmt-2.ensures

-- ---- loops

pub emit_while-returns : goal.emit_while-returns
emit_while-returns t c =
    while_written (shape_of c.args.scope.now) c.args.test.now c.args.inner.now c.args.line c.in_ok-start.start c.in_ok-back.back c.in_ok-end.end c.in_ok-start.ensures c.in_ok-back.ensures
    c.in_ok-end.ensures c.in_ok-put.ensures c.in_ok-put_value.ensures c.in_ok-put-2.ensures c.in_ok-emit_stmt.ensures c.in_ok-put-3.ensures

pub emit_do-returns : goal.emit_do-returns
emit_do-returns t c =
    do_written (shape_of c.args.scope.now) c.args.inner.now c.args.test.now c.args.line c.in_ok-start.start c.in_ok-first.first c.in_ok-again.again c.in_ok-back.back c.in_ok-end.end
    c.in_ok-start.ensures c.in_ok-first.ensures c.in_ok-again.ensures c.in_ok-back.ensures c.in_ok-end.ensures c.in_ok-put.ensures c.in_ok-emit_stmt.ensures c.in_ok-put_value.ensures
    c.in_ok-put-2.ensures c.in_ok-put-3.ensures

pub emit_for-returns : goal.emit_for-returns
emit_for-returns t c =
    for_written (shape_of c.args.scope.now) c.args.first.now c.args.test.now c.args.third.now c.args.inner.now c.args.line c.in_ok-start.start c.in_ok-top.top c.in_ok-again.again c.in_ok-back.back
    c.in_ok-end.end c.in_ok-turn.turn c.in_ok-start.ensures c.in_ok-top.ensures c.in_ok-again.ensures c.in_ok-back.ensures c.in_ok-end.ensures c.in_ok-turn.ensures c.in_ok-put.ensures
    c.in_ok-put_effect.ensures c.in_ok-put-2.ensures c.in_ok-put-3.ensures c.in_ok-put_test.ensures c.in_ok-emit_stmt.ensures c.in_ok-put_effect-2.ensures c.in_ok-put-4.ensures

pub emit_switch-returns : goal.emit_switch-returns
emit_switch-returns t c =
    switch_written (shape_of c.args.scope.now) c.args.on.now c.args.arms.now c.args.line c.args.exits c.in_ok-start.start c.in_ok-first.first c.in_ok-end.end c.in_ok-default.default
    c.in_ok-start.ensures c.in_ok-first.ensures c.in_ok-end.ensures c.in_ok-default.ensures c.in_ok-put.ensures c.in_ok-put_value.ensures c.in_ok-put_cases.ensures c.in_ok-put-2.ensures
    c.in_ok-put-3.ensures c.in_ok-emit_arms.ensures

-- ---- every kind

pub emit_stmt-returns-in-Block : goal.emit_stmt-returns-in-Block
emit_stmt-returns-in-Block t c =
    let sh = shape_of c.args.scope.now in
    let exits = c.args.exits in
    let Q : List Start → List PStmt → Blocks → Laid = λ locals list. λ blocks. code_of_inside sh locals list exits (map (λ x. x.slot) locals ∷ blocks) in
    named c.emit_block.result c.args.body.now c.emit_block.new.body (code_of_stmt sh c.args.s.now exits) (Q c.as_slice.result.now c.as_slice-in-Block.result.now)
    (ap (λ s. code_of_stmt sh s exits) c.in-Block.is ∙ code_block sh exits c.in-Block.locals c.in-Block.list c.in-Block.line ∙ ap (λ l. Q l c.in-Block.list) (sym c.as_slice.ensures)
    ∙ ap (Q c.as_slice.result.now) (sym c.as_slice-in-Block.ensures)) c.emit_block.ensures

pub emit_stmt-returns-in-None : goal.emit_stmt-returns-in-None
emit_stmt-returns-in-None t c =
    let sh = shape_of c.args.scope.now in
    let exits = c.args.exits in
    let Q : PStmt → Blocks → Laid = λ x. λ blocks. put blocks (instr.Line c.in-If.line) ⨾ if_code sh c.in-If.test (stmt_code sh x) None exits blocks in
    named c.emit_if.result c.args.body.now c.emit_if.new.body (code_of_stmt sh c.args.s.now exits) (Q c.get.result.now)
    (ap (λ s. code_of_stmt sh s exits) c.in-If.is ∙ ap (λ o. code_of_stmt sh (If c.in-If.test c.in-If.yes o c.in-If.line) exits) c.in-None.is
    ∙ code_if sh exits c.in-If.test c.in-If.yes c.in-If.line ∙ ap Q (sym c.get.ensures)) c.emit_if.ensures

pub emit_stmt-returns-in-Some : goal.emit_stmt-returns-in-Some
emit_stmt-returns-in-Some t c =
    let sh = shape_of c.args.scope.now in
    let exits = c.args.exits in
    let Q : PStmt → PStmt → Blocks → Laid = λ x y. λ blocks. put blocks (instr.Line c.in-If.line) ⨾ if_code sh c.in-If.test (stmt_code sh x) (Some (stmt_code sh y)) exits blocks in
    named c.emit_if_else.result c.args.body.now c.emit_if_else.new.body (code_of_stmt sh c.args.s.now exits) (Q c.get-in-Some.result.now c.get-in-Some-2.result.now)
    (ap (λ s. code_of_stmt sh s exits) c.in-If.is ∙ ap (λ o. code_of_stmt sh (If c.in-If.test c.in-If.yes o c.in-If.line) exits) c.in-Some.is
    ∙ code_if_else sh exits c.in-If.test c.in-If.yes c.in-Some.no c.in-If.line ∙ ap (λ x. Q x c.in-Some.no) (sym c.get-in-Some.ensures)
    ∙ ap (Q c.get-in-Some.result.now) (sym c.get-in-Some-2.ensures)) c.emit_if_else.ensures

pub emit_stmt-returns-in-While : goal.emit_stmt-returns-in-While
emit_stmt-returns-in-While t c =
    let sh = shape_of c.args.scope.now in
    let exits = c.args.exits in
    let Q : PStmt → Blocks → Laid = λ x. λ blocks. while_code sh c.in-While.test (stmt_code sh x) c.in-While.line blocks in
    named c.emit_while.result c.args.body.now c.emit_while.new.body (code_of_stmt sh c.args.s.now exits) (Q c.get-in-While.result.now)
    (ap (λ s. code_of_stmt sh s exits) c.in-While.is ∙ code_while sh exits c.in-While.test c.in-While.inner c.in-While.line ∙ ap Q (sym c.get-in-While.ensures)) c.emit_while.ensures

pub emit_stmt-returns-in-Do : goal.emit_stmt-returns-in-Do
emit_stmt-returns-in-Do t c =
    let sh = shape_of c.args.scope.now in
    let exits = c.args.exits in
    let Q : PStmt → Blocks → Laid = λ x. λ blocks. do_code sh (stmt_code sh x) c.in-Do.test c.in-Do.line blocks in
    named c.emit_do.result c.args.body.now c.emit_do.new.body (code_of_stmt sh c.args.s.now exits) (Q c.get-in-Do.result.now)
    (ap (λ s. code_of_stmt sh s exits) c.in-Do.is ∙ code_do sh exits c.in-Do.inner c.in-Do.test c.in-Do.line ∙ ap Q (sym c.get-in-Do.ensures)) c.emit_do.ensures

pub emit_stmt-returns-in-For : goal.emit_stmt-returns-in-For
emit_stmt-returns-in-For t c =
    let sh = shape_of c.args.scope.now in
    let exits = c.args.exits in
    let Q : PStmt → Blocks → Laid = λ x. λ blocks. for_code sh c.in-For.first c.in-For.test c.in-For.third (stmt_code sh x) c.in-For.line blocks in
    named c.emit_for.result c.args.body.now c.emit_for.new.body (code_of_stmt sh c.args.s.now exits) (Q c.get-in-For.result.now)
    (ap (λ s. code_of_stmt sh s exits) c.in-For.is ∙ code_for sh exits c.in-For.first c.in-For.test c.in-For.third c.in-For.inner c.in-For.line ∙ ap Q (sym c.get-in-For.ensures))
    c.emit_for.ensures
