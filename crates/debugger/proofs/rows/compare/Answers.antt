use Rattle.std.proofs.Common.{◌∙◌}
use Rattle.debugger.proofs.RowFacts.{order_none, order_half, order_both}
use Rattle.debugger.proofs.rows.compare.Goals as goal

pub returns-in-None-clause-asked : goal.returns-in-None-clause-asked
returns-in-None-clause-asked c = order_none c.args.n c.args.a.now c.args.b.now c.args.c.now c.args.d.now c.in-None.ensures

pub returns-in-None-number-clause-asked : goal.returns-in-None-number-clause-asked
returns-in-None-number-clause-asked c = order_half c.args.n c.args.a.now c.args.b.now c.args.c.now c.args.d.now c.in-Some.k c.in-Some.ensures c.in-None-number.ensures

pub returns-in-Some-number-clause-asked : goal.returns-in-Some-number-clause-asked
returns-in-Some-number-clause-asked c =
    c.compare_of.ensures.asked
    ∙ order_both c.args.n c.args.a.now c.args.b.now c.args.c.now c.args.d.now c.in-Some.k c.in-Some-number.j c.who_in.result c.who_in-in-Some-number.result c.in-Some.ensures c.in-Some-number.ensures
    c.who_in.ensures.who c.who_in-in-Some-number.ensures.who
