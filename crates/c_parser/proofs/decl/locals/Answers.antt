use Rattle.std.proofs.Common.{arith, ◌+◌, length, ◌∙◌}
use Rattle.std.proofs.lemmas.Result.{err_from_is_err_and}
use Rattle.c_parser.specs.private.ReadStmt.{repeated, no_type, local, locals}
use Rattle.c_parser.proofs.Lists.{repeats_end, repeats_fail, repeats_step}
use Rattle.c_parser.proofs.Turns.{typed, untyped, local_is, local_fails}
use Rattle.c_parser.proofs.decl.locals.Goals as goal

pub returns-in_err-vars-clause-value : goal.returns-in_err-vars-clause-value
unfolding locals
returns-in_err-vars-clause-value c =
    let all = repeated no_type (local c.args.limit) (length c.args.tokens.now + 1) c.args.tokens.now in
    let type = c.in-Some.ensures.value in
    let p = err_from_is_err_and c.from_residual.result c.from_residual.ensures.1 in
    rw (p.1, p.2)
    (repeats_fail no_type (local c.args.limit) c.in_err-vars.field-0.0 c.loop-of.list.items c.loop-of.highest c.loop-of.rest.now all
    (typed c.loop-of.rest.now (c.in-Some.of, c.in-Some.next.now) type)
    (local_fails c.in_err-vars.field-0.0 c.args.limit c.loop-of.rest.now c.in-Some.next.now c.in-Some.of type c.in_err-vars.ensures.value) c.loop-of.invariant.rest)

pub loop-of-preserved : goal.loop-of-preserved
loop-of-preserved c =
    let all = repeated no_type (local c.args.limit) (length c.args.tokens.now + 1) c.args.tokens.now in
    let type = c.in-Some.ensures.value in
    let next = repeats_step no_type (local c.args.limit) c.loop-of.list.items c.loop-of.highest c.loop-of.rest.now all (c.in_ok-vars.vars, c.in_ok-vars.height) c.in_ok-vars.next.now
    (typed c.loop-of.rest.now (c.in-Some.of, c.in-Some.next.now) type)
    (local_is c.args.limit c.loop-of.rest.now c.in-Some.next.now c.in-Some.of type
    ∙ c.in_ok-vars.ensures.value) (omega (arith, c.in-Some.ensures.shorter, c.in_ok-vars.ensures.shorter)) c.loop-of.invariant.rest in
    rw (c.in_ok-push.ensures.items, c.higher-highest.ensures) (record {
      low = omega (arith, c.in_ok-vars.ensures.height);
      shorter = omega (arith, c.in-Some.ensures.shorter, c.in_ok-vars.ensures.shorter);
      rest = next;
    })

pub returns-clause-value : goal.returns-clause-value
unfolding locals
returns-clause-value c =
    let all = repeated no_type (local c.args.limit) (length c.args.tokens.now + 1) c.args.tokens.now in
    repeats_end no_type (local c.args.limit) c.loop-of.list.items c.loop-of.highest c.loop-of.rest.now c.loop-of.rest.now all
    (untyped c.loop-of.rest.now c.in_default.ensures.value) c.loop-of.invariant.rest
