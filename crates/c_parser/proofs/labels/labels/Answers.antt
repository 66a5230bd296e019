use Rattle.std.proofs.Common.{arith, ◌+◌, length, sym, ◌∙◌}
use Rattle.std.proofs.lemmas.Result.{err_from_is_err_and}
use Rattle.c_parser.specs.private.ReadStmt.{repeated, no_label, label}
use Rattle.c_parser.proofs.Lists.{repeats_end, repeats_fail, repeats_step}
use Rattle.c_parser.proofs.Turns.{labelled, unlabelled}
use Rattle.c_parser.proofs.labels.labels.Goals as goal

pub returns-in_err-label-clause-value : goal.returns-in_err-label-clause-value
returns-in_err-label-clause-value c =
    let all = repeated no_label (label c.args.limit) (length c.args.tokens.now + 1) c.args.tokens.now in
    let p = err_from_is_err_and c.from_residual.result c.from_residual.ensures.1 in
    rw (p.1, p.2)
    (repeats_fail no_label (label c.args.limit) c.in_err-label.field-0.0 c.loop-alloc.list.items c.loop-alloc.highest c.loop-alloc.rest.now all
    (labelled c.loop-alloc.rest.now (sym c.begins_label.ensures ∙ c.loop-alloc-test.true)) c.in_err-label.ensures.value c.loop-alloc.invariant.rest)

pub loop-alloc-preserved : goal.loop-alloc-preserved
loop-alloc-preserved c =
    let all = repeated no_label (label c.args.limit) (length c.args.tokens.now + 1) c.args.tokens.now in
    let next = repeats_step no_label (label c.args.limit) c.loop-alloc.list.items c.loop-alloc.highest c.loop-alloc.rest.now all (c.in_ok-label.label, c.in_ok-label.height) c.in_ok-label.next.now
    (labelled c.loop-alloc.rest.now (sym c.begins_label.ensures ∙ c.loop-alloc-test.true))
    c.in_ok-label.ensures.value c.in_ok-label.ensures.shorter c.loop-alloc.invariant.rest in
    rw (c.in_ok-push.ensures.items, c.higher-highest.ensures) (record {
      low = omega (arith, c.in_ok-label.ensures.height);
      shorter = search (arith, c.in_ok-label.ensures.shorter);
      rest = next;
    })

pub returns-clause-value : goal.returns-clause-value
returns-clause-value c =
    let all = repeated no_label (label c.args.limit) (length c.args.tokens.now + 1) c.args.tokens.now in
    repeats_end no_label (label c.args.limit) c.loop-alloc.list.items c.loop-alloc.highest c.loop-alloc.rest.now c.loop-alloc.rest.now all (unlabelled c.loop-alloc.rest.now (sym c.begins_label.ensures
    ∙ c.loop-alloc-test.false)) c.loop-alloc.invariant.rest
