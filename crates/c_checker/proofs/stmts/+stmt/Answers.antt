use Rattle.std.proofs.Common.{List, ◌∷◌, map, drop, subst, sym}
use Rattle.c_tree.specs.declared.tree.Arm.{Arm}
use Rattle.c_checker.specs.Found.{Refuses}
use Rattle.c_checker.specs.Statements as spec
use Rattle.c_checker.specs.Statements.{arm_of}
use Rattle.c_checker.proofs.Found.{gives_err, refuses_left, first_is}
use Rattle.c_checker.proofs.StmtForms as forms
use Rattle.c_checker.proofs.StmtForms.{check_form}
use Rattle.c_checker.proofs.stmts.+stmt.Goals as goal

pub stmt-returns-in-Block : goal.stmt-returns-in-Block
stmt-returns-in-Block t c =
    let h0 = rw c.as_slice-in-Block.ensures at c.block.ensures in
    let h1 = rw c.as_slice.ensures at h0 in
    check_form _ _ _ _ _ _ _ _ _ c.in-Block.is (forms.stmt_block _ _ c.in-Block.locals c.in-Block.list c.in-Block.line) h1

pub stmt-returns-in-Run : goal.stmt-returns-in-Run
stmt-returns-in-Run t c =
    check_form _ _ _ _ _ _ _ _ _ c.in-Run.is (forms.stmt_run _ _ c.in-Run.part c.in-Run.line) c.run.ensures

pub stmt-returns-in-If : goal.stmt-returns-in-If
stmt-returns-in-If t c =
    let h0 = rw c.get.ensures at c.if_stmt.ensures in
    check_form _ _ _ _ _ _ _ _ _ c.in-If.is (forms.stmt_if _ _ c.in-If.test c.in-If.yes c.in-If.no c.in-If.line) h0

pub stmt-returns-in-While : goal.stmt-returns-in-While
stmt-returns-in-While t c =
    let h0 = rw c.get-in-While.ensures at c.while_stmt.ensures in
    check_form _ _ _ _ _ _ _ _ _ c.in-While.is (forms.stmt_while _ _ c.in-While.test c.in-While.inner c.in-While.line) h0

pub stmt-returns-in-Do : goal.stmt-returns-in-Do
stmt-returns-in-Do t c =
    let h0 = rw c.get-in-Do.ensures at c.do_stmt.ensures in
    check_form _ _ _ _ _ _ _ _ _ c.in-Do.is (forms.stmt_do _ _ c.in-Do.inner c.in-Do.test c.in-Do.line) h0

pub stmt-returns-in-For : goal.stmt-returns-in-For
stmt-returns-in-For t c =
    let h0 = rw c.get-in-For.ensures at c.for_stmt.ensures in
    check_form _ _ _ _ _ _ _ _ _ c.in-For.is (forms.stmt_for _ _ c.in-For.first c.in-For.test c.in-For.third c.in-For.inner c.in-For.line) h0

pub stmt-returns-in-Break : goal.stmt-returns-in-Break
stmt-returns-in-Break t c =
    check_form _ _ _ _ _ _ _ _ _ c.in-Break.is (forms.stmt_break _ _ c.in-Break.line) (c.break_stmt.ensures c.args.body.now)

pub stmt-returns-in-Continue : goal.stmt-returns-in-Continue
stmt-returns-in-Continue t c =
    check_form _ _ _ _ _ _ _ _ _ c.in-Continue.is (forms.stmt_continue _ _ c.in-Continue.line) (c.continue_stmt.ensures c.args.body.now)

pub stmt-returns-in-Return : goal.stmt-returns-in-Return
stmt-returns-in-Return t c =
    check_form _ _ _ _ _ _ _ _ _ c.in-Return.is (forms.stmt_return _ _ c.in-Return.value c.in-Return.line) c.return_stmt.ensures

pub stmt-returns-in-Switch : goal.stmt-returns-in-Switch
stmt-returns-in-Switch t c =
    let h0 = rw c.as_slice-in-Switch.ensures at c.switch_stmt.ensures in
    check_form _ _ _ _ _ _ _ _ _ c.in-Switch.is (forms.stmt_switch _ _ c.in-Switch.on c.in-Switch.arms c.in-Switch.line) h0

pub arms-returns-in_err-made : goal.arms-returns-in_err-made
arms-returns-in_err-made t c =
    let arm = arm_of c.args.within.now.functions.now c.args.within.now.returns in
    let xs = c.loop-arms.arms.now in
    let first = c.first-item.result in
    let head = first_is xs first c.in-len1-up.len_at_least c.first-item.is in
    let f = c.in_err-made.field-0.0 in
    let refused = λ (ys : List Arm). Refuses (spec.arms (map arm ys) c.loop-arms.before c.loop-arms.done c.args.line c.args.around c.loop-arms.body).faults f in
    let here : refused (first ∷ drop 1 xs) =
    refuses_left ((arm first).check c.loop-arms.before c.args.line c.args.around c.loop-arms.body).faults _ f c.in_err-made.ensures.found in
    gives_err _ _ _ f (subst (λ found. Refuses found.faults f) (sym c.loop-arms.invariant.found) (subst refused (sym head) here)) c.from_residual.ensures.1
