use Rattle.std.proofs.Common.{arith, ◌+◌, length, sym, subst}
use Rattle.std.proofs.lemmas.Result.{err_from_is_err_and}
use Rattle.c_parser.specs.private.Reader.{Fails}
use Rattle.c_parser.specs.private.ReadStmt.{is_declr_end, separated}
use Rattle.c_parser.specs.private.ReadStmt.{declarator}
use Rattle.c_parser.proofs.Lists.{separates_begin, separates_fail, separates_wrong, separates_end, separates_step}
use Rattle.c_parser.proofs.decl.declarators.Goals as goal

pub loop-list-init : goal.loop-list-init
loop-list-init c = rw c.new-list.ensures.items (record {
  low = omega arith;
  shorter = omega arith;
  rest = separates_begin is_declr_end (declarator c.args.limit) c.args.tokens.now;
})

pub returns-in_err-declr-clause-value : goal.returns-in_err-declr-clause-value
returns-in_err-declr-clause-value c =
    let all = separated is_declr_end (declarator c.args.limit) (length c.args.tokens.now + 1) c.args.tokens.now in
    let p = err_from_is_err_and c.from_residual.result c.from_residual.ensures.1 in
    rw (p.1, p.2)
    (separates_fail is_declr_end
    (declarator c.args.limit) c.in_err-declr.field-0.0 c.loop-list.list.items c.loop-list.highest c.loop-list.rest.now all c.in_err-declr.ensures.value c.loop-list.invariant.rest)

pub returns-in_default-clause-value : goal.returns-in_default-clause-value
returns-in_default-clause-value c =
    let all = separated is_declr_end (declarator c.args.limit) (length c.args.tokens.now + 1) c.args.tokens.now in
    subst (λ e. Fails e all) (sym c.wrong.ensures)
    (separates_wrong is_declr_end (declarator c.args.limit) c.loop-list.list.items c.loop-list.highest c.loop-list.rest.now all
    (c.in_ok-declr.declr, c.in_ok-declr.height) c.in_ok-declr.next.now c.in_ok-declr.ensures.value c.in_default.ensures.value c.loop-list.invariant.rest)

pub returns-then-not-more-clause-value : goal.returns-then-not-more-clause-value
returns-then-not-more-clause-value c =
    let all = separated is_declr_end (declarator c.args.limit) (length c.args.tokens.now + 1) c.args.tokens.now in
    let ends = separates_end is_declr_end (declarator c.args.limit) c.loop-list.list.items c.loop-list.highest c.loop-list.rest.now all
    (c.in_ok-declr.declr, c.in_ok-declr.height) c.in_ok-declr.next.now c.in-Some.next.now c.in_ok-declr.ensures.value
    (rw (sym c.if-not-more.true) c.in-Some.ensures.value) c.loop-list.invariant.rest in
    rw (c.in_ok-push.ensures.items, c.higher-highest.ensures) ends

pub loop-list-preserved : goal.loop-list-preserved
loop-list-preserved c =
    let all = separated is_declr_end (declarator c.args.limit) (length c.args.tokens.now + 1) c.args.tokens.now in
    let next = separates_step is_declr_end (declarator c.args.limit) c.loop-list.list.items c.loop-list.highest c.loop-list.rest.now all
    (c.in_ok-declr.declr, c.in_ok-declr.height) c.in_ok-declr.next.now c.in-Some.next.now c.in_ok-declr.ensures.value (rw (sym c.if-not-more.false) c.in-Some.ensures.value)
    (omega (arith, c.in_ok-declr.ensures.shorter, c.in-Some.ensures.shorter)) c.loop-list.invariant.rest in
    rw (c.in_ok-push.ensures.items, c.higher-highest.ensures) (record {
      low = omega (arith, c.in_ok-declr.ensures.height);
      shorter = omega (arith, c.in_ok-declr.ensures.shorter, c.in-Some.ensures.shorter);
      rest = next;
    })
