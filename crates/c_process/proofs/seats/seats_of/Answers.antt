use Rattle.std.proofs.Common.{◌+◌, sym, subst}
use Rattle.stack_code.specs.View.{seen_code}
use Rattle.c_process.specs.Begun.{AreBegun}
use Rattle.c_process.proofs.Begun.{begun_more}
use Rattle.c_process.proofs.seats.seats_of.Goals as goal

pub loop-me-preserved : goal.loop-me-preserved
loop-me-preserved c =
    subst (AreBegun (seen_code c.args.code.now) c.args.n (c.loop-me.me + 1)) (sym c.in-Ok.ensures.items)
    (begun_more (seen_code c.args.code.now) c.args.n c.loop-me.me c.loop-me.seats.items c.begin.result c.in_ok-process.process
    c.loop-me.invariant c.begin.ensures.process (record { stands = c.in_ok-process.ensures.stands; name = c.in_ok-process.ensures.name; origin = c.in_ok-process.ensures.origin }))
