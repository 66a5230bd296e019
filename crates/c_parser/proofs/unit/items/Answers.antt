use Rattle.std.proofs.Common.{arith, ◌+◌, length, []}
use Rattle.std.proofs.lemmas.Result.{err_from_is_err_and}
use Rattle.c_parser.specs.private.ReadStmt.{repeated}
use Rattle.c_parser.specs.private.ReadUnit.{at_end, read_item, read_items}
use Rattle.c_parser.proofs.Lists.{repeats_end, repeats_fail, repeats_step}
use Rattle.c_parser.proofs.Turns.{more_left, none_left}
use Rattle.c_parser.proofs.unit.items.Goals as goal

pub returns-in_err-item : goal.returns-in_err-item
unfolding read_items
returns-in_err-item c =
    let all = repeated at_end read_item (length c.args.tokens.now + 1) c.args.tokens.now in
    let p = err_from_is_err_and c.from_residual.result c.from_residual.ensures.1 in
    rw (p.1, p.2)
    (repeats_fail at_end read_item c.in_err-item.field-0.0 c.loop-rest.list.items c.loop-rest.highest c.loop-rest.rest.now all
    (more_left c.loop-rest.rest.now (search (arith, c.loop-rest-test.true))) c.in_err-item.ensures.value c.loop-rest.invariant.rest)

pub loop-rest-preserved : goal.loop-rest-preserved
loop-rest-preserved c =
    let all = repeated at_end read_item (length c.args.tokens.now + 1) c.args.tokens.now in
    let next = repeats_step at_end read_item c.loop-rest.list.items c.loop-rest.highest c.loop-rest.rest.now all (c.in_ok-item.item, c.in_ok-item.height) c.in_ok-item.next.now
    (more_left c.loop-rest.rest.now (search (arith, c.loop-rest-test.true)))
    c.in_ok-item.ensures.value c.in_ok-item.ensures.shorter c.loop-rest.invariant.rest in
    rw (c.in_ok-push.ensures.items, c.higher-highest.ensures) (record {
      low = omega (arith, c.in_ok-item.ensures.height);
      shorter = omega (arith, c.in_ok-item.ensures.shorter);
      rest = next;
    })

pub returns : goal.returns
unfolding read_items
returns c =
    let all = repeated at_end read_item (length c.args.tokens.now + 1) c.args.tokens.now in
    repeats_end at_end read_item c.loop-rest.list.items c.loop-rest.highest c.loop-rest.rest.now [] all
    (none_left c.loop-rest.rest.now (search (arith, c.loop-rest-test.false))) c.loop-rest.invariant.rest
