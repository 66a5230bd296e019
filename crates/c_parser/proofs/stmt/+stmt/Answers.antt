use Rattle.std.proofs.Common.{arith, ◌+◌, length, sym, ◌∙◌}
use Rattle.std.proofs.lemmas.Result.{err_from_is_err_and}
use Rattle.c_lexer.specs.declared.token.Mark.TheVariants.{RightBrace}
use Rattle.c_parser.specs.private.Reader.{after}
use Rattle.c_parser.specs.private.ReadStmt.{repeated, read_stmt, list_end, statements, arm, arms}
use Rattle.c_parser.proofs.Lists.{repeats_end, repeats_fail, repeats_step}
use Rattle.c_parser.proofs.Turns.{ends, goes}
use Rattle.c_parser.proofs.stmt.+stmt.Goals as goal

pub statements-returns-then-ends_list-clause-value : goal.statements-returns-then-ends_list-clause-value
unfolding statements
statements-returns-then-ends_list-clause-value t c =
    let all = repeated list_end (read_stmt c.args.below) (length c.args.tokens.now + 1) c.args.tokens.now in
    repeats_end list_end (read_stmt c.args.below) c.loop-alloc.list.items c.loop-alloc.highest c.loop-alloc.rest.now c.loop-alloc.rest.now all (ends c.loop-alloc.rest.now (sym c.ends_list.ensures
    ∙ c.if-ends_list.true)) c.loop-alloc.invariant.rest

pub statements-returns-in_err-stmt-clause-value : goal.statements-returns-in_err-stmt-clause-value
unfolding statements
statements-returns-in_err-stmt-clause-value t c =
    let all = repeated list_end (read_stmt c.args.below) (length c.args.tokens.now + 1) c.args.tokens.now in
    let p = err_from_is_err_and c.from_residual.result c.from_residual.ensures.1 in
    rw (p.1, p.2)
    (repeats_fail list_end (read_stmt c.args.below) c.in_err-stmt.field-0.0 c.loop-alloc.list.items c.loop-alloc.highest c.loop-alloc.rest.now all
    (goes c.loop-alloc.rest.now (sym c.ends_list.ensures ∙ c.if-ends_list.false)) c.in_err-stmt.ensures.value c.loop-alloc.invariant.rest)

pub statements-loop-alloc-preserved : goal.statements-loop-alloc-preserved
statements-loop-alloc-preserved t c =
    let all = repeated list_end (read_stmt c.args.below) (length c.args.tokens.now + 1) c.args.tokens.now in
    let next = repeats_step list_end (read_stmt c.args.below) c.loop-alloc.list.items c.loop-alloc.highest c.loop-alloc.rest.now all (c.in_ok-stmt.stmt, c.in_ok-stmt.height) c.in_ok-stmt.next.now
    (goes c.loop-alloc.rest.now (sym c.ends_list.ensures ∙ c.if-ends_list.false))
    c.in_ok-stmt.ensures.value c.in_ok-stmt.ensures.shorter c.loop-alloc.invariant.rest in
    rw (c.in_ok-push.ensures.items, c.into_inner.ensures, c.higher-highest.ensures) (record {
      low = omega (arith, c.in_ok-stmt.ensures.height);
      shorter = search (arith, c.in_ok-stmt.ensures.shorter);
      rest = next;
    })

pub arms-returns-in-Some-clause-value : goal.arms-returns-in-Some-clause-value
unfolding arms
arms-returns-in-Some-clause-value t c =
    let item = arm c.args.below (read_stmt c.args.below) in
    let all = repeated (after RightBrace) item (length c.args.tokens.now + 1) c.args.tokens.now in
    repeats_end (after RightBrace) item c.loop-next.list.items c.loop-next.highest c.loop-next.rest.now c.in-Some.next.now all c.in-Some.ensures.value c.loop-next.invariant.rest

pub arms-returns-in_err-arm-clause-value : goal.arms-returns-in_err-arm-clause-value
unfolding arms
arms-returns-in_err-arm-clause-value t c =
    let item = arm c.args.below (read_stmt c.args.below) in
    let all = repeated (after RightBrace) item (length c.args.tokens.now + 1) c.args.tokens.now in
    let p = err_from_is_err_and c.from_residual.result c.from_residual.ensures.1 in
    rw (p.1, p.2)
    (repeats_fail
    (after RightBrace) item c.in_err-arm.field-0.0 c.loop-next.list.items c.loop-next.highest c.loop-next.rest.now all c.in_default.ensures.value c.in_err-arm.ensures.value c.loop-next.invariant.rest)

pub arms-loop-next-preserved : goal.arms-loop-next-preserved
arms-loop-next-preserved t c =
    let item = arm c.args.below (read_stmt c.args.below) in
    let all = repeated (after RightBrace) item (length c.args.tokens.now + 1) c.args.tokens.now in
    let next = repeats_step (after RightBrace) item c.loop-next.list.items c.loop-next.highest c.loop-next.rest.now all
    (c.in_ok-arm.arm, c.in_ok-arm.height) c.in_ok-arm.next.now c.in_default.ensures.value
    c.in_ok-arm.ensures.value c.in_ok-arm.ensures.shorter c.loop-next.invariant.rest in
    rw (c.in_ok-push.ensures.items, c.higher-highest.ensures) (record {
      low = omega (arith, c.in_ok-arm.ensures.height);
      shorter = omega (arith, c.in_ok-arm.ensures.shorter);
      rest = next;
    })
