use Rattle.std.proofs.Common.{◌<◌, ◌≤◌, slice_index_or, arith, ap}
use Rattle.checkpoints.proofs.Fronts.{front_is, all_front, one_more_few}
use Rattle.checkpoints.proofs.parts.count_up_to.Goals as goal

pub loop-n-preserved : goal.loop-n-preserved
loop-n-preserved g c =
    let few : (slice_index_or c.args.worlds.now c.loop-n.n c.index-worlds-n.result).events ≤ c.args.k =
    omega (arith, c.if-events-k.false, c.events.ensures, ap (λ w. w.events) c.index-worlds-n.is) in (
      omega (arith, c.loop-n-test.true),
      one_more_few c.args.k c.args.worlds.now c.loop-n.n c.index-worlds-n.result c.loop-n-test.true few
          c.loop-n.invariant.1,
    )

pub returns-then-events-k-clause-front : goal.returns-then-events-k-clause-front
returns-then-events-k-clause-front g c =
    let more : c.args.k < (slice_index_or c.args.worlds.now c.loop-n.n c.index-worlds-n.result).events =
    omega (arith, c.if-events-k.true, c.events.ensures, ap (λ w. w.events) c.index-worlds-n.is) in
    front_is c.args.k c.args.worlds.now c.loop-n.n c.index-worlds-n.result c.requires.kept.rises
    c.loop-n-test.true more (λ i below. c.loop-n.invariant.1 i c.index-worlds-n.result below)

pub returns-clause-front : goal.returns-clause-front
returns-clause-front g c =
    all_front c.args.k c.args.worlds.now c.loop-n.n (omega (arith, c.loop-n-test.false)) c.loop-n.invariant.1
